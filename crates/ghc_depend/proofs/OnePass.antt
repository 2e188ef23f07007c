-- The consequences of a step by one pass: each later step is looked at once, with what the step and those found so far gave.
use Rattle.ghc_depend.proofs.Words.{◌≡◌, ℕ, ◌+◌, ◌<◌, ◌≤◌, ◌⊎◌, Bool, List, [], ◌∷◌, ◌++◌, length, refl, sym, ap, ◌∙◌, subst, inl, inr, arith, ◌↔◌, Option, Some, None, is_some, IsTrue, get_or, take, take_all, take_more, map-append, Ordering, Less, Equal, Greater, match_ordering, BTreeSet, contains, insert_key, btree_set_contains_iff, nat_cmp, nat_cmp_total, nat_cmp-IsAntisymmetric, list_any, keys_of, eq_by_cmp, is_some-find, VarName, GoalName, Tree, In, in_contains, contains_in, in_left, in_last, in_more, any_in, in_any, name_cmp, name_total, name_antisymmetric, Picks, nothing, leave, pick_last, leave_last, picks_in, picks_has, AreDistinct, Record, numbers, numbers_append, records_distinct, before_is, SlotList, held_in, held_before, held_stands, StandsIn, one_record, front_gap, front_in, front_more, front_stands, rank, rank_stands, less_rank, Binds, Consumes, MakesGoal, NamesFrom, Uses, DependsOn, Follows, directly, further, IsOfSteps, IsSoFar}
use Rattle.std.specs.FinMap as finite
use Rattle.std.specs.FinSet as set
use Rattle.ghc_records.proofs.IndexOf.{made_named}
use Rattle.ghc_records.proofs.SlotLemmas.{stands_before as slots_before}
use Rattle.ghc_depend.specs.inner.Sources.{IsPlaceOfOne}
use Rattle.ghc_depend.proofs.Causes.{place_before}
use Rattle.ghc_depend.proofs.Following.{follows_in}
use Rattle.ghc_depend.proofs.TakenTogether.{follows_behind}
use Rattle.ghc_depend.proofs.Using.{user_behind}

-- what a set tells of a place, and of a variable
pub has_place : (s : BTreeSet ℕ) (p : ℕ) (t : Bool) → t ≡ contains nat_cmp s p → IsTrue t ↔ In p s.keys
has_place s p t is =
    let by_keys = btree_set_contains_iff nat_cmp_total nat_cmp-IsAntisymmetric s p in
    (λ yes. contains_in s.keys p (by_keys.0 (sym is ∙ yes)), λ i. is ∙ by_keys.1 (in_contains s.keys p i))

pub has_variable : (s : BTreeSet VarName) (x : VarName) (t : Bool) → t ≡ contains name_cmp s x → IsTrue t ↔ In x s.keys
has_variable s x t is =
    let by_keys = btree_set_contains_iff name_total name_antisymmetric s x in
    (λ yes. contains_in s.keys x (by_keys.0 (sym is ∙ yes)), λ i. is ∙ by_keys.1 (in_contains s.keys x i))

-- a variable more, in its order
pub variable_put : (xs : List VarName) (y x : VarName) → In x (insert_key name_cmp xs y) ↔ (In x xs ⊎ (x ≡ y))
variable_put [] y x = (λ i. elim i [ inl e ↦ inr e | inr j ↦ absurd j ], λ c. elim c [ inl j ↦ absurd j | inr e ↦ inl e ])
variable_put (z ∷ zs) y x = by_order (name_cmp y z) (name_antisymmetric y z) (insert_key name_cmp zs y) (variable_put zs y x)
  where
    by_order : (o : Ordering) → (o ≡ Equal → y ≡ z) → (rest : List VarName) → (In x rest ↔ (In x zs ⊎ (x ≡ y)))
        → In x (match_ordering o (y ∷ z ∷ zs) (z ∷ zs) (z ∷ rest)) ↔ (In x (z ∷ zs) ⊎ (x ≡ y))
    by_order Less h rest more = (
      λ i. elim i [ inl e ↦ inr e | inr j ↦ inl j ],
      λ c. elim c [ inl j ↦ inr j | inr e ↦ inl e ],
    )
    by_order Equal h rest more = (λ i. inl i, λ c. elim c [ inl j ↦ j | inr e ↦ inl (e ∙ h refl) ])
    by_order Greater h rest more = (
      λ i. elim i [ inl e ↦ inl (inl e) | inr j ↦ elim (more.0 j) [ inl k ↦ inl (inr k) | inr e ↦ inr e ] ],
      λ c. elim c [ inl j ↦ elim j [ inl e ↦ inl e | inr k ↦ inr (more.1 (inl k)) ] | inr e ↦ inr (more.1 (inr e)) ],
    )

-- the names of the bindings of a step are what it bound
pub bound_names : (r : Record) (es : List (VarName × Tree)) → finite.from_entries es ≡ r.effect.binds → (x : VarName) → In x (keys_of es) ↔ Binds r x
bound_names r es e x =
    let is_key : finite.contains_key (finite.from_entries {R = name_cmp} es) x ≡ list_any (eq_by_cmp name_cmp x) (keys_of es) = ap is_some (finite.get-from_entries name_total es x) ∙ is_some-find name_cmp x es in (
      λ i. ap (λ m. finite.contains_key m x) (sym e) ∙ is_key ∙ in_any x (keys_of es) i,
      λ b. any_in x (keys_of es) (sym is_key ∙ ap (λ m. finite.contains_key m x) e ∙ b),
    )

-- the variables of these bindings were put to the old ones
abbrev pub ArePut : List VarName → List (VarName × Tree) → List VarName → Type 0
ArePut old es now = (x : VarName) → In x now ↔ (In x old ⊎ In x (keys_of es))

pub put_none : (old : List VarName) → ArePut old [] old
put_none old x = (λ i. inl i, λ c. elim c [ inl i ↦ i | inr j ↦ absurd j ])

pub put_one : (old : List VarName) (es : List (VarName × Tree)) (i : ℕ) (b : VarName × Tree) → i < length es → b ≡ get_or es i b → (now : List VarName) → ArePut old (take i es) now → ArePut old (take (i + 1) es) (insert_key name_cmp now b.0)
put_one old es i b within is now so x =
    let more : keys_of (take (i + 1) es) ≡ keys_of (take i es) ++ b.0 ∷ [] =
    ap keys_of (take_more es i b within ∙ ap (λ z. take i es ++ z ∷ []) (sym is)) ∙ map-append (λ (e : VarName × Tree). e.0) (take i es) (b ∷ []) in (
      λ j. elim ((variable_put now b.0 x).0 j) [
        | inl k ↦ elim ((so x).0 k) [ inl o ↦ inl o | inr n ↦ inr (subst (In x) (sym more) (in_left (keys_of (take i es)) (b.0 ∷ []) x n)) ]
        | inr e ↦ inr (subst (In x) (sym more) (subst (λ z. In z (keys_of (take i es) ++ b.0 ∷ [])) (sym e) (in_last (keys_of (take i es)) b.0)))
      ],
      λ c. (variable_put now b.0 x).1 (elim c [
        | inl o ↦ inl ((so x).1 (inl o))
        | inr n ↦ elim (in_more (keys_of (take i es)) b.0 x (subst (In x) more n)) [ inl k ↦ inl ((so x).1 (inr k)) | inr e ↦ inr e ]
      ]),
    )

pub put_all : (old : List VarName) (es : List (VarName × Tree)) (i : ℕ) (now : List VarName) (r : Record) → length es ≤ i → finite.from_entries es ≡ r.effect.binds → ArePut old (take i es) now → (x : VarName) → In x now ↔ (In x old ⊎ Binds r x)
put_all old es i now r all e so x =
    let whole = subst (λ l. ArePut old l now) (take_all i es all) so x in
    let names = bound_names r es e x in (
      λ j. elim (whole.0 j) [ inl o ↦ inl o | inr n ↦ inr (names.0 n) ],
      λ c. whole.1 (elim c [ inl o ↦ inl o | inr b ↦ inr (names.1 b) ]),
    )

-- at one of these places stands a step of which Q holds
abbrev pub HoldsAt : SlotList → List ℕ → (Record → Type 0) → Type 0
HoldsAt ss places Q = (p : ℕ) × (a : Record) × In p places × StandsIn ss p a × Q a

module _ (ss : SlotList) (places : List ℕ) (Q : Record → Type 0) where
  pub one_there : (p : ℕ) → IsPlaceOfOne ss Q (Some p) → In p places ↔ HoldsAt ss places Q
  one_there p one = (λ i. (p, one.0.0, i, one.0.1, one.0.2), λ h. subst (λ k. In k places) (one.1 h.0 h.1 h.3 h.4) h.2)

  pub none_there : IsPlaceOfOne ss Q None → ¬ HoldsAt ss places Q
  none_there none h = none h.0 h.1 h.3 h.4

-- the place of the step that made the goal which b consumed
pub consumed_at : (ss : SlotList) (b : Record) (g : GoalName) → b.goal ≡ Some g → (o : Option ℕ) → IsPlaceOfOne ss (λ a. MakesGoal a g) o → IsPlaceOfOne ss (Consumes b) o
consumed_at ss b g e (Some p) one = ((one.0.0, one.0.1, (g, e, one.0.2)), λ q a at c. one.1 q a at (made_named b a g e c))
consumed_at ss b g e None none = λ q a at c. none q a at (made_named b a g e c)

-- a step uses one of these steps where it uses what stands at their places, or reads what they bound
module _ (ss : SlotList) (rs : List Record) (places : List ℕ) (bound : List VarName) (of : IsOfSteps ss rs places bound) (b : Record) where
  pub consumes_one : HoldsAt ss places (Consumes b) → (a : Record) × In a rs × Uses b a
  consumes_one h =
      let w = of.0 h.0 h.2 in
      let same : w.0 ≡ h.1 = one_record ss h.0 h.0 w.0 h.1 w.1 h.3 refl in
      (h.1, subst (λ z. In z rs) same w.2, inl h.4)

  pub reads_one : (x : VarName) × IsTrue (set.contains b.effect.reads x) × In x bound → (a : Record) × In a rs × Uses b a
  reads_one h = let w = (of.2 h.0).0 h.2 in (w.0, w.1, inr (inl (h.0, (h.1, w.2))))

  pub names_one : (p : ℕ) × (a : Record) × (x : VarName) × In p places × StandsIn ss p a × NamesFrom b a x → (a : Record) × In a rs × Uses b a
  names_one h =
      let w = of.0 h.0 h.3 in
      let same : w.0 ≡ h.1 = one_record ss h.0 h.0 w.0 h.1 w.1 h.4 refl in
      (h.1, subst (λ z. In z rs) same w.2, inr (inr (h.2, h.5)))

  pub one_used : (a : Record) × In a rs × Uses b a
      → HoldsAt ss places (Consumes b) ⊎ (((x : VarName) × IsTrue (set.contains b.effect.reads x) × In x bound) ⊎ ((p : ℕ) × (a : Record) × (x : VarName) × In p places × StandsIn ss p a × NamesFrom b a x))
  one_used h =
      let w = of.1 h.0 h.1 in
      elim h.2 [
        | inl c ↦ inl (w.0, h.0, w.2, w.1, c)
        | inr more ↦ inr (elim more [
          | inl r ↦ inl (r.0, r.1.0, (of.2 r.0).1 (h.0, h.1, r.1.1))
          | inr n ↦ inr (w.0, h.0, n.0, w.2, w.1, n.1)
        ])
      ]

-- one step more
pub of_one_more : (ss : SlotList) (rs : List Record) (places : List ℕ) (bound : List VarName) → IsOfSteps ss rs places bound → (p : ℕ) (a : Record) → StandsIn ss p a
    → (more : List ℕ) → ((q : ℕ) → In q more ↔ (In q places ⊎ (q ≡ p))) → (also : List VarName) → ((x : VarName) → In x also ↔ (In x bound ⊎ Binds a x)) → IsOfSteps ss (rs ++ a ∷ []) more also
of_one_more ss rs places bound of p a at more put also binds = (
  λ q i. elim ((put q).0 i) [
    | inl j ↦ let w = of.0 q j in (w.0, w.1, in_left rs (a ∷ []) w.0 w.2)
    | inr e ↦ (a, subst (λ k. StandsIn ss k a) (sym e) at, in_last rs a)
  ],
  λ r i. elim (in_more rs a r i) [
    | inl j ↦ let w = of.1 r j in (w.0, w.1, (put w.0).1 (inl w.2))
    | inr same ↦ (p, subst (StandsIn ss p) (sym same) at, (put p).1 (inr refl))
  ],
  λ x. (
    λ i. elim ((binds x).0 i) [ inl j ↦ let w = (of.2 x).0 j in (w.0, in_left rs (a ∷ []) w.0 w.1, w.2) | inr h ↦ (a, in_last rs a, h) ],
    λ w. (binds x).1 (elim (in_more rs a w.0 w.1) [ inl j ↦ inl ((of.2 x).1 (w.0, j, w.2)) | inr same ↦ inr (subst (λ z. Binds z x) same w.2) ]),
  ),
)

-- no steps
pub of_none : (ss : SlotList) (places : List ℕ) (bound : List VarName) → places ≡ [] → bound ≡ [] → IsOfSteps ss [] places bound
of_none ss places bound e f = (
  λ p i. absurd (subst (In p) e i),
  λ r i. absurd i,
  λ x. (λ i. absurd (subst (In x) f i), λ w. absurd w.1),
)

none_picked : {X : Type 0} {P : X → Type 0} (xs : List X) → ((x : X) → In x xs → ¬ P x) → Picks P xs []
none_picked [] h = nothing
none_picked (x ∷ xs) h = leave (h x (inl refl)) (none_picked xs (λ y i. h y (inr i)))

module _ (ss : SlotList) (distinct : AreDistinct (numbers (held_in ss))) (own : ℕ) (a : Record) (at : StandsIn ss own a) where
  -- nothing that follows stands up to the step itself
  pub so_first : (places : List ℕ) (bound : List VarName) (items : List ℕ) → IsOfSteps ss (a ∷ []) places bound → items ≡ [] → IsSoFar ss a (own + 1) places bound items
  so_first places bound items of e = ([], none_picked (held_before (own + 1) ss) (λ b i f. too_early b (front_stands ss (own + 1) b i) f), sym e, of)
    where
      too_early : (b : Record) → (q : ℕ) × StandsIn ss q b × (q < own + 1) → ¬ Follows (held_in ss) a b
      too_early b w f =
          let before = before_is (held_in ss) a b (follows_behind (held_in ss) a b (records_distinct (held_in ss) distinct) f) in
          let ranks = place_before (held_in ss) (rank ss own) (rank ss w.0) a b (rank_stands ss own a at) (rank_stands ss w.0 b w.1) distinct before in
          let low = less_rank ss own w.0 b w.1 ranks in
          omega (arith, low, w.2)

  module _ (place : ℕ) (places : List ℕ) (bound : List VarName) (items : List ℕ) (so : IsSoFar ss a place places bound items) where
    -- an empty slot has none
    pub so_gap : place < length ss → ((r : Record) → ¬ StandsIn ss place r) → IsSoFar ss a (place + 1) places bound items
    so_gap within none = (so.0, subst (λ l. Picks (Follows (held_in ss) a) l so.0) (sym (front_gap ss place within none)) so.1, so.2, so.3)

    -- behind the last slot all are found
    pub so_end : length ss ≤ place → (found : List Record) × Picks (Follows (held_in ss) a) (held_in ss) found × (numbers found ≡ items)
    so_end high = (so.0, subst (λ l. Picks (Follows (held_in ss) a) l so.0) (ap held_in (take_all place ss high)) so.1, so.2)

    module _ (low : own < place) (b : Record) (there : StandsIn ss place b) where
      in_front : (c : Record) → In c (a ∷ so.0) → (q : ℕ) × StandsIn ss q c × (q < place)
      in_front c (inl same) = (own, subst (StandsIn ss own) (sym same) at, low)
      in_front c (inr i) = front_stands ss place c (picks_in (held_before place ss) so.0 c so.1 i).0

      -- what uses one of them follows
      pub it_follows : (c : Record) × In c (a ∷ so.0) × Uses b c → Follows (held_in ss) a b
      it_follows u =
          let f = in_front u.0 u.1 in
          let d : DependsOn (held_in ss) b u.0 = (before_is (held_in ss) u.0 b (slots_before ss f.0 place u.0 b f.1 there f.2), u.2) in
          elim u.1 [
            | inl same ↦ directly (subst (DependsOn (held_in ss) b) same d)
            | inr i ↦ further (picks_in (held_before place ss) so.0 u.0 so.1 i).1 d
          ]

      -- and what follows uses one of them
      pub it_uses : Follows (held_in ss) a b → (c : Record) × In c (a ∷ so.0) × Uses b c
      it_uses f = elim f [
        | directly {b = x} d ↦ (a, inl refl, d.1)
        | further {b = c} g d ↦
            let w = held_stands ss c (follows_in g) in
            let before = (user_behind ss distinct w.0 c.number c w.1 refl place b there (c, b, refl, refl, d)).0 in
            elim (picks_has (held_before place ss) so.0 c so.1 (front_in ss place w.0 c w.1 before)) [ inl i ↦ (c, inr i, d.1) | inr n ↦ absurd (n g) ]
      ]

      pub so_more : Follows (held_in ss) a b → (more : List ℕ) (also : List VarName) → IsOfSteps ss ((a ∷ so.0) ++ b ∷ []) more also → IsSoFar ss a (place + 1) more also (items ++ b.number ∷ [])
      so_more f more also of = (
        so.0 ++ b ∷ [],
        subst (λ l. Picks (Follows (held_in ss) a) l (so.0 ++ b ∷ [])) (sym (front_more ss place b there)) (pick_last (held_before place ss) so.0 b so.1 f),
        numbers_append so.0 (b ∷ []) ∙ ap (λ l. l ++ b.number ∷ []) so.2,
        of,
      )

      pub so_still : ¬ Follows (held_in ss) a b → IsSoFar ss a (place + 1) places bound items
      so_still n = (so.0, subst (λ l. Picks (Follows (held_in ss) a) l so.0) (sym (front_more ss place b there)) (leave_last (held_before place ss) so.0 b so.1 n), so.2, so.3)
