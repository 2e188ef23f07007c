-- From a step one goes to its users and to theirs, always to the first that is ahead: so its consequences come in recorded order.
use Rattle.ghc_depend.proofs.Words.{◌≡◌, ℕ, zero, suc, ◌+◌, ◌-◌, ◌<◌, ◌≤◌, ◌⊎◌, List, [], ◌∷◌, ◌++◌, length, map, take, refl, sym, ap, ◌∙◌, subst, inl, inr, arith, ◌↔◌, Some, All, slice_get, Ordering, Less, Equal, Greater, nat_cmp, match_ordering, MatchOrdering, ranks, insert_key, IsLtBy, All-contains, cases_lt, take_all, length-map, In, in_contains, in_left, in_more, in_last, in_at, Picks, nothing, leave, AreDistinct, Record, numbers, SlotList, held_in, StandsIn, StepDependsOn, stands_held, once_of, rank, rank_stands, rank_back, rank_less, of_map, map_of, is_before, before_in, record_once, numbers_append, picks_in, picks_has, pick_last, leave_last, DependsOn, Follows, directly, further, IsPlaceOfUser, HasPlacesOf, slice_get_within, slice_get_cases, length-take}
use Rattle.ghc_records.specs.Orders.{take as taken}
use Rattle.ghc_depend.proofs.Finding.{same_value}
use Rattle.ghc_depend.proofs.Following.{follows_in}
use Rattle.ghc_depend.proofs.Causes.{at_split, place_at, place_before}

-- a place more, in its order
pub in_inserted : (ks : List ℕ) (k p : ℕ) → In p (insert_key nat_cmp ks k) ↔ (In p ks ⊎ (p ≡ k))
in_inserted [] k p = (λ i. elim i [ inl e ↦ inr e | inr j ↦ absurd j ], λ c. elim c [ inl j ↦ absurd j | inr e ↦ inl e ])
in_inserted (x ∷ xs) k p = by_order (nat_cmp k x) (ranks k x) (insert_key nat_cmp xs k) (in_inserted xs k p)
  where
    by_order : (o : Ordering) → MatchOrdering o (k < x) (k ≡ x) (x < k) → (rest : List ℕ) → (In p rest ↔ (In p xs ⊎ (p ≡ k)))
        → In p (match_ordering o (k ∷ x ∷ xs) (x ∷ xs) (x ∷ rest)) ↔ (In p (x ∷ xs) ⊎ (p ≡ k))
    by_order Less h rest more = grind arith
    by_order Equal h rest more = grind arith
    by_order Greater h rest more = grind (arith, more.0, more.1)

-- the places after a place
pub all_behind : (place : ℕ) (rest : List ℕ) → All (IsLtBy nat_cmp place) rest → (p : ℕ) → In p rest → place < p
all_behind place rest all p i =
    subst (λ o. MatchOrdering o (place < p) (place ≡ p) (p < place)) (All-contains (IsLtBy nat_cmp place) rest p all (in_contains rest p i)) (ranks place p)

module _ (ss : SlotList) (ns : List ℕ) (n : ℕ) (old ks : List ℕ) (has : HasPlacesOf ss ns old ks) where
  pub places_still : ((r : Record) → In r (held_in ss) → ¬ (r.number ≡ n)) → HasPlacesOf ss (ns ++ n ∷ []) old ks
  places_still none p = (
    λ i. elim ((has p).0 i) [ inl j ↦ inl j | inr b ↦ inr (b.0, b.1, in_left ns (n ∷ []) b.0.number b.2) ],
    λ c. (has p).1 (elim c [
      | inl j ↦ inl j
      | inr b ↦ elim (in_more ns n b.0.number b.2) [ inl k ↦ inr (b.0, b.1, k) | inr e ↦ absurd (none b.0 (stands_held ss p b.0 b.1) e) ]
    ]),
  )

  pub places_more : AreDistinct (numbers (held_in ss)) → (place : ℕ) (r : Record) → StandsIn ss place r → r.number ≡ n → HasPlacesOf ss (ns ++ n ∷ []) old (insert_key nat_cmp ks place)
  places_more distinct place r at number p = (
    λ i. elim ((in_inserted ks place p).0 i) [
      | inl j ↦ elim ((has p).0 j) [ inl k ↦ inl k | inr b ↦ inr (b.0, b.1, in_left ns (n ∷ []) b.0.number b.2) ]
      | inr e ↦ inr (r, subst (λ k. StandsIn ss k r) (sym e) at, subst (λ m. In m (ns ++ n ∷ [])) (sym number) (in_last ns n))
    ],
    λ c. (in_inserted ks place p).1 (elim c [
      | inl j ↦ inl ((has p).1 (inl j))
      | inr b ↦ elim (in_more ns n b.0.number b.2) [
        | inl k ↦ inl ((has p).1 (inr (b.0, b.1, k)))
        | inr e ↦ inr (sym (once_of ss distinct place p r b.0 at b.1 (number ∙ sym e)))
      ]
    ]),
  )

pub places_all : (ss : SlotList) (ns : List ℕ) (number : ℕ) (old new : List ℕ) → ((n : ℕ) → In n ns ↔ StepDependsOn (held_in ss) n number) → HasPlacesOf ss ns old new → (p : ℕ) → In p new ↔ (In p old ⊎ IsPlaceOfUser ss number p)
places_all ss ns number old new users has p = (
  λ i. elim ((has p).0 i) [ inl j ↦ inl j | inr b ↦ inr (b.0, b.1, (users b.0.number).0 b.2) ],
  λ c. (has p).1 (elim c [ inl j ↦ inl j | inr b ↦ inr (b.0, b.1, (users b.0.number).1 b.2) ]),
)

-- at this place of the record stands a step that depends directly on the step numbered n
abbrev pub IsUserAt : List Record → ℕ → ℕ → Type 0
IsUserAt kept n p = (b : Record) × (slice_get kept p ≡ Some b) × StepDependsOn kept b.number n

-- the ranks of the users' slots are their places in the record
pub users_ranked : (ss : SlotList) (n : ℕ) (old new : List ℕ) → ((p : ℕ) → In p new ↔ (In p old ⊎ IsPlaceOfUser ss n p)) → (q : ℕ) → In q (map (rank ss) new) ↔ (In q (map (rank ss) old) ⊎ IsUserAt (held_in ss) n q)
users_ranked ss n old new h q = (
  λ i. let w = of_map (rank ss) new q i in elim ((h w.0).0 w.1) [
    | inl j ↦ inl (subst (λ k. In k (map (rank ss) old)) w.2 (map_of (rank ss) old w.0 j))
    | inr u ↦ inr (u.0, subst (λ k. slice_get (held_in ss) k ≡ Some u.0) w.2 (rank_stands ss w.0 u.0 u.1), u.2)
  ],
  λ c. elim c [
    | inl j ↦ let w = of_map (rank ss) old q j in subst (λ k. In k (map (rank ss) new)) w.2 (map_of (rank ss) new w.0 ((h w.0).1 (inl w.1)))
    | inr u ↦ let w = rank_back ss q u.0 u.1 in subst (λ k. In k (map (rank ss) new)) w.2 (map_of (rank ss) new w.0 ((h w.0).1 (inr (u.0, w.1, u.2))))
  ],
)

pub behind_ranked : (ss : SlotList) (place : ℕ) (b : Record) → StandsIn ss place b → (rest : List ℕ) → ((p : ℕ) → In p rest → place < p) → (q : ℕ) → In q (map (rank ss) rest) → rank ss place < q
behind_ranked ss place b stands rest behind q i = let w = of_map (rank ss) rest q i in let l = rank_less ss place w.0 b stands (behind w.0 w.1) in omega (arith, l, w.2)

-- what stands at a place among the first
in_taken : {X : Type 0} (xs : List X) (i q : ℕ) (x : X) → slice_get xs i ≡ Some x → i < q → In x (take q xs)
in_taken [] zero q x e h = cc
in_taken [] (suc i) q x e h = cc
in_taken (y ∷ xs) i zero x e h = absurd (omega (arith, h))
in_taken (y ∷ xs) zero (suc q) x e h = let same : y ≡ x = cc in inl (sym same)
in_taken (y ∷ xs) (suc i) (suc q) x e h = inr (in_taken xs i q x e (omega (arith, h)))

-- Found, with these numbers, are a's consequences in the first `far` kept records; ahead, later places of direct dependents of a or these.
pub record IsGathered (kept : List Record) (a : Record) (ahead items : List ℕ) : Type 0 where
  pub far : ℕ
  pub found : List Record
  pub picked : Picks (Follows kept a) (take far kept) found
  pub numbered : numbers found ≡ items
  pub next : (p : ℕ) → In p ahead ↔ ((far ≤ p) × (b c : Record) × (slice_get kept p ≡ Some b) × In c (a ∷ found) × DependsOn kept b c)

module _ (kept : List Record) (distinct : AreDistinct (numbers kept)) (a : Record) where
  low : (i j : ℕ) (c b : Record) → slice_get kept i ≡ Some c → slice_get kept j ≡ Some b → DependsOn kept b c → i < j
  low i j c b at behind d = place_before kept i j c b at behind distinct d.0

  -- a place of a user is that of a step that depends on it
  user_at : (c : Record) (p : ℕ) → In c kept → IsUserAt kept c.number p → (b : Record) × (slice_get kept p ≡ Some b) × DependsOn kept b c
  user_at c p i u =
      let d = u.2 in
      let both = before_in kept d.0 d.1 (is_before kept d.0 d.1 d.4.0) in
      let first : d.0 ≡ c = record_once kept d.0 c distinct both.0 i d.2 in
      let second : d.1 ≡ u.0 = record_once kept d.1 u.0 distinct both.1 (in_at kept p u.0 u.1) d.3 in
      (u.0, u.1, subst (λ z. DependsOn kept u.0 z) first (subst (λ z. DependsOn kept z d.0) second d.4))

  place_of_user : (c b : Record) (p : ℕ) → slice_get kept p ≡ Some b → DependsOn kept b c → IsUserAt kept c.number p
  place_of_user c b p at d = (b, at, (c, b, refl, refl, d))

  -- nothing follows up to a place, where nothing ahead stands before it
  module _ (ahead items : List ℕ) (g : IsGathered kept a ahead items) (place : ℕ) (least : (p : ℕ) → In p ahead → place ≤ p) where
    not_before : {b : Record} → Follows kept a b → (j : ℕ) → slice_get kept j ≡ Some b → g.far ≤ j → j < place → ⊥
    not_before (directly {b = b} d) j at near high = let l = least j ((g.next j).1 (near, b, a, at, inl refl, d)) in omega (arith, l, high)
    not_before (further {b = c} {c = b} f d) j at near high =
        let there = place_at kept c (follows_in f) in
        let l = low there.0 j c b there.1 at d in
        elim (cases_lt there.0 g.far) [
          | inl before ↦ elim (picks_has (take g.far kept) g.found c g.picked (in_taken kept there.0 g.far c there.1 before)) [
            | inl i ↦ let m = least j ((g.next j).1 (near, b, c, at, inr i, d)) in omega (arith, m, high)
            | inr n ↦ n f
          ]
          | inr behind ↦ not_before f there.0 there.1 behind (omega (arith, l, high))
        ]

    picked_on : (d : ℕ) → g.far + d ≤ place → place ≤ length kept → Picks (Follows kept a) (take (g.far + d) kept) g.found
    picked_on zero high long = subst (λ k. Picks (Follows kept a) (take k kept) g.found) (let e : g.far ≡ g.far + 0 = omega arith in e) g.picked
    picked_on (suc d) high long =
        let before = picked_on d (omega (arith, high)) long in
        let b : (x : Record) × (slice_get kept (g.far + d) ≡ Some x) = elim (slice_get_cases kept (g.far + d)).1 [
          | inl w ↦ (w.0, w.2)
          | inr past ↦ absurd (omega (arith, high, long, past.0))
        ] in
        let s = at_split kept (g.far + d) b.0 b.1 in
        subst (λ k. Picks (Follows kept a) (take k kept) g.found) (let e : (g.far + d) + 1 ≡ g.far + suc d = omega arith in e)
        (subst (λ l. Picks (Follows kept a) l g.found) (sym s.2) (leave_last (take (g.far + d) kept) g.found b.0 before (λ f. not_before f (g.far + d) b.1 (omega arith) (omega (arith, high)))))

    -- so up to that place the consequences are those found
    pub found_before : g.far ≤ place → place ≤ length kept → Picks (Follows kept a) (take place kept) g.found
    found_before near long = subst (λ k. Picks (Follows kept a) (take k kept) g.found) (let e : g.far + (place - g.far) ≡ place = omega (arith, near) in e) (picked_on (place - g.far) (omega (arith, near)) long)

  none_taken : (xs : List Record) → take 0 xs ≡ []
  none_taken [] = refl
  none_taken (x ∷ xs) = refl

  -- one begins with the users of the step itself
  pub gather_begin : In a kept → (ahead : List ℕ) → ((p : ℕ) → In p ahead ↔ (In p [] ⊎ IsUserAt kept a.number p)) → IsGathered kept a ahead []
  gather_begin i ahead users = record {
    far = 0;
    found = [];
    picked = subst (λ l. Picks (Follows kept a) l []) (sym (none_taken kept)) nothing;
    numbered = refl;
    next = λ p. (
      λ j. elim ((users p).0 j) [
        | inl k ↦ absurd k
        | inr u ↦ let w = user_at a p i u in (omega arith, w.0, a, w.1, inl refl, w.2)
      ],
      λ h. (users p).1 (elim h.4 [
        | inl same ↦ inr (subst (λ z. IsUserAt kept z.number p) same (place_of_user h.2 h.1 p h.3 h.5))
        | inr k ↦ absurd k
      ]),
    );
  }

  module _ (ahead rest items : List ℕ) (g : IsGathered kept a ahead items) (place : ℕ) (b : Record) (e : ahead ≡ place ∷ rest) (behind : (p : ℕ) → In p rest → place < p) (at : slice_get kept place ≡ Some b) where
    least : (p : ℕ) → In p ahead → place ≤ p
    least p i = elim (subst (In p) e i) [ inl same ↦ omega (arith, same) | inr j ↦ let l = behind p j in omega (arith, l) ]

    reached : (g.far ≤ place) × (b c : Record) × (slice_get kept place ≡ Some b) × In c (a ∷ g.found) × DependsOn kept b c
    reached = (g.next place).0 (subst (In place) (sym e) (inl refl))

    so_far : Picks (Follows kept a) (take place kept) g.found
    so_far = let within = slice_get_within kept place b at in found_before ahead items g place least reached.0 (omega (arith, within))

    it_follows : Follows kept a b
    it_follows = subst (Follows kept a) (same_value reached.3 at) (elim reached.4 [
      | inl same ↦ directly (subst (DependsOn kept reached.1) same reached.5)
      | inr i ↦ further (picks_in (take g.far kept) g.found reached.2 g.picked i).1 reached.5
    ])

    -- and goes on with the users of the first that is ahead
    pub gather_next : (new : List ℕ) → ((p : ℕ) → In p new ↔ (In p rest ⊎ IsUserAt kept b.number p)) → IsGathered kept a new (items ++ b.number ∷ [])
    gather_next new users = record {
      far = place + 1;
      found = g.found ++ b ∷ [];
      picked = subst (λ l. Picks (Follows kept a) l (g.found ++ b ∷ [])) (sym (at_split kept place b at).2) (pick_last (take place kept) g.found b so_far it_follows);
      numbered = numbers_append g.found (b ∷ []) ∙ ap (λ l. l ++ b.number ∷ []) g.numbered;
      next = λ p. (
        λ i. elim ((users p).0 i) [
          | inl j ↦
              let h = (g.next p).0 (subst (In p) (sym e) (inr j)) in
              let l = behind p j in
              (omega (arith, l), h.1, h.2, h.3, in_left (a ∷ g.found) (b ∷ []) h.2 h.4, h.5)
          | inr u ↦
              let w = user_at b p (in_at kept place b at) u in
              let l = low place p b w.0 at w.1 w.2 in
              (omega (arith, l), w.0, b, w.1, in_last (a ∷ g.found) b, w.2)
        ],
        λ h. elim (in_more (a ∷ g.found) b h.2 h.4) [
          | inl i ↦ elim (subst (In p) e ((g.next p).1 (let near = reached.0 in let far = h.0 in omega (arith, near, far), h.1, h.2, h.3, i, h.5))) [
            | inl same ↦ let far = h.0 in absurd (omega (arith, far, same))
            | inr j ↦ (users p).1 (inl j)
          ]
          | inr same ↦ (users p).1 (inr (subst (λ z. IsUserAt kept z.number p) same (place_of_user h.2 h.1 p h.3 h.5)))
        ],
      );
    }

    -- fewer are found than are kept
    pub gather_fewer : length items < length kept
    gather_fewer =
        let within = slice_get_within kept place b at in
        let fewer = no_more (take place kept) g.found so_far in
        let short = length-take place kept in
        let same : length (numbers g.found) ≡ length items = ap (λ l. length l) g.numbered in
        let all = length-map g.found (λ (r : Record). r.number) in
        omega (arith, within, fewer, short, same, all)
      where
        no_more : (xs ys : List Record) → Picks (Follows kept a) xs ys → length ys ≤ length xs
        no_more [] ys nothing = omega arith
        no_more (x ∷ xs) ys (taken p k) = let h = no_more xs _ k in omega (arith, h)
        no_more (x ∷ xs) ys (leave p k) = let h = no_more xs _ k in omega (arith, h)

  -- where nothing is ahead any more, all are found
  pub gather_end : (ahead items : List ℕ) (g : IsGathered kept a ahead items) → ahead ≡ [] → (found : List Record) × Picks (Follows kept a) kept found × (numbers found ≡ items)
  gather_end ahead items g e = (
    g.found,
    elim (cases_lt g.far (length kept)) [
      | inl within ↦ subst (λ l. Picks (Follows kept a) l g.found) (take_all (length kept) kept (omega arith)) (found_before ahead items g (length kept) (λ p i. absurd (subst (In p) e i)) (omega (arith, within)) (omega arith))
      | inr beyond ↦ subst (λ l. Picks (Follows kept a) l g.found) (take_all g.far kept beyond) g.picked
    ],
    g.numbered,
  )
