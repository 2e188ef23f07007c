-- Why a step depends directly on an earlier one: places in recorded order, the least variable, and what woke a goal.
use Rattle.ghc_depend.proofs.Words.{◌≡◌, ◌≢◌, ℕ, zero, suc, ◌+◌, ◌<◌, ◌≤◌, ◌⊎◌, Bool, true, false, not, cond, List, [], ◌∷◌, ◌++◌, take, refl, sym, ap, ◌∙◌, subst, subst₂, inl, inr, arith, ◌↔◌, Option, Some, None, IsTrue, IfSome, IfNone, slice_get, Less, is_lt, ord_min, ordering_reverse, cases_order, VarName, GoalName, In, name_cmp, name_total, name_antisymmetric, has_member, in_left, in_more, in_at, is_member, Precedes, AreDistinct, Record, numbers, Before, is_before, before_is, before_in, before_once, record_once, records_distinct, StepBinds, SlotList, HasNumberIn, StandsIn, held_in, rank, rank_less, rank_least, ranked, ranked_at, variables_asked, MakesGoal, MakesVariable, Consumes, Binds, ReadsFrom, NamesFrom, IsKeptAs, Made as made, Read as read, Named as named, CanWait, WasThereBefore, IsBoundBehind, ReadsBehind, IsWokenBy, IsLeastRead, IsLeastNamed, by_making, by_reading, by_naming, IsDirect, slice_get_within, get_or_from_slice_get, splits_at, take_more, drop, in_last}
use Rattle.std.specs.FinSet as set
pub use Rattle.ghc_term.proofs.ListsLemmas.{at_of_in as place_at}
use Rattle.ghc_depend.proofs.Finding.{same_value}
use Rattle.ghc_records.proofs.IndexOf.{made_named}

module _ {X : Type 0} where
  -- what stands at an earlier place stands before
  pub places_before : (xs : List X) (i j : ℕ) (a b : X) → slice_get xs i ≡ Some a → slice_get xs j ≡ Some b → i < j → Before xs a b
  places_before [] zero j a b p q h = cc
  places_before [] (suc i) j a b p q h = cc
  places_before (x ∷ xs) zero zero a b p q h = absurd (omega arith)
  places_before (x ∷ xs) zero (suc j) a b p q h = let same : x ≡ a = cc in inl (sym same, in_at xs j b q)
  places_before (x ∷ xs) (suc i) zero a b p q h = absurd (omega arith)
  places_before (x ∷ xs) (suc i) (suc j) a b p q h = inr (places_before xs i j a b p q (omega arith))

  -- what stands before stands at an earlier place
  pub before_places : (xs : List X) → AreDistinct xs → (i j : ℕ) (a b : X) → slice_get xs i ≡ Some a → slice_get xs j ≡ Some b → Before xs a b → i < j
  before_places xs distinct i j a b p q h = grind (arith, cases_order, same_value, before_once, places_before)

-- an element of a list, and the lists in front of it and after it
pub at_split : {X : Type 0} (xs : List X) (i : ℕ) (b : X) → slice_get xs i ≡ Some b → (rest : List X) × (xs ≡ take i xs ++ b ∷ rest) × (take (i + 1) xs ≡ take i xs ++ b ∷ [])
at_split xs i b e =
    let within = slice_get_within xs i b e in
    let is = get_or_from_slice_get xs i b b e in
    (drop (i + 1) xs, splits_at xs i b within (sym is), take_more xs i b within ∙ ap (λ z. take i xs ++ z ∷ []) is)

-- the record at the place of a number
pub kept_at : (kept : List Record) (place n : ℕ) (a : Record) → ((r : Record) × (slice_get kept place ≡ Some r) × (r.number ≡ n)) → slice_get kept place ≡ Some a → IsKeptAs kept n a
kept_at kept place n a p at = (in_at kept place a at, ap (λ (z : Record). z.number) (same_value at p.1) ∙ p.2)

-- the record of this number stands at this place
abbrev pub StandsAt : List Record → ℕ → ℕ → Type 0
StandsAt rs n place = (r : Record) × (slice_get rs place ≡ Some r) × (r.number ≡ n)

-- a step stands before another exactly where its place is less
module _ (rs : List Record) (i j : ℕ) (a b : Record) (at : slice_get rs i ≡ Some a) (at_other : slice_get rs j ≡ Some b) where
  pub stands_before : i < j → Precedes rs a b
  stands_before low = before_is rs a b (places_before rs i j a b at at_other low)

  pub place_before : AreDistinct (numbers rs) → Precedes rs a b → i < j
  place_before distinct h = before_places rs (records_distinct rs distinct) i j a b at at_other (is_before rs a b h)

-- of these variables, this is the least of which Q holds, or it holds of none
abbrev pub IsLeastOf : (VarName → Type 0) → List VarName → Option VarName → Type 0
IsLeastOf Q xs None = (x : VarName) → In x xs → ¬ Q x
IsLeastOf Q xs (Some y) = In y xs × Q y × ((x : VarName) → In x xs → Q x → (x ≡ y) ⊎ (name_cmp y x ≡ Less))

-- z is at most w, by their order
abbrev AtMost : VarName → VarName → Type 0
AtMost z w = (w ≡ z) ⊎ (name_cmp z w ≡ Less)

at_most_on : {x y z : VarName} → AtMost x y → AtMost y z → AtMost x z
at_most_on {x} {y} {z} (inl p) q = subst (λ w. AtMost w z) p q
at_most_on {x} {y} {z} (inr l) (inl q) = inr (subst (λ w. name_cmp x w ≡ Less) (sym q) l)
at_most_on {x} {y} {z} (inr l) (inr m) = inr (name_total.trans x y z l m)

-- the lesser of two
abbrev IsLesser : VarName → VarName → VarName → Type 0
IsLesser y x z = ((z ≡ x) ⊎ (z ≡ y)) × AtMost z x × AtMost z y

is_lesser : (y x : VarName) → IsLesser y x (ord_min name_cmp y x)
is_lesser y x = grind (arith, cond, is_lt, name_antisymmetric, ordering_reverse)

module _ (Q : VarName → Type 0) (xs : List VarName) (x : VarName) where
  -- one variable more, which the step did not bind
  pub least_passed : (o : Option VarName) → IsLeastOf Q xs o → ¬ Q x → IsLeastOf Q (xs ++ x ∷ []) o
  least_passed None h n = λ z i b. elim (in_more xs x z i) [ inl j ↦ h z j b | inr e ↦ n (subst Q e b) ]
  least_passed (Some y) h n = (
    in_left xs (x ∷ []) y h.0,
    h.1,
    λ z i b. elim (in_more xs x z i) [ inl j ↦ h.2 z j b | inr e ↦ absurd (n (subst Q e b)) ],
  )

  -- one more, which it bound
  pub least_taken : (o : Option VarName) (z : VarName) → IsLeastOf Q xs o → Q x → IfSome o (λ y. z ≡ ord_min name_cmp y x) → IfNone o (z ≡ x) → IsLeastOf Q (xs ++ x ∷ []) (Some z)
  least_taken None z h b s n =
      subst (λ w. IsLeastOf Q (xs ++ x ∷ []) (Some w)) (sym n) (in_last xs x, b, λ w i c. elim (in_more xs x w i) [ inl j ↦ absurd (h w j c) | inr e ↦ inl e ])
  least_taken (Some y) z h b s n =
      let l = subst (IsLesser y x) (sym s) (is_lesser y x) in
      let of_both : (P : VarName → Type 0) → P x → P y → P z = λ P p q. elim l.0 [ inl e ↦ subst P (sym e) p | inr e ↦ subst P (sym e) q ] in (
        of_both (λ w. In w (xs ++ x ∷ [])) (in_last xs x) (in_left xs (x ∷ []) y h.0),
        of_both Q b h.1,
        λ w i c. elim (in_more xs x w i) [ inl j ↦ at_most_on l.2 (h.2 w j c) | inr e ↦ subst (AtMost z) (sym e) l.1 ],
      )

-- the least of what a step read
pub least_is : (b a : Record) (xs : List VarName) (o : Option VarName) → set.from_list xs ≡ b.effect.reads → IsLeastOf (Binds a) xs o → IfSome o (IsLeastRead b a)
least_is b a xs None all h = tt
least_is b a xs (Some y) all h = ((has_member b.effect.reads xs all y h.0, h.1), λ x r. h.2 x (is_member b.effect.reads xs all x r.0) r.1)

pub least_none : (b a : Record) (xs : List VarName) (o : Option VarName) → set.from_list xs ≡ b.effect.reads → IsLeastOf (Binds a) xs o → IfNone o ((x : VarName) → ¬ ReadsFrom b a x)
least_none b a xs None all h = λ x r. h x (is_member b.effect.reads xs all x r.0) r.1
least_none b a xs (Some y) all h = tt

-- the least of what a step names
pub named_is : (b a : Record) (o : Option VarName) → IsLeastOf (λ x. (x.step ≢ b.number) × MakesVariable a x) (variables_asked b.act) o → IfSome o (IsLeastNamed b a)
named_is b a None h = tt
named_is b a (Some y) h = (((h.0, h.1.0), h.1.1), λ x n. h.2 x n.0.0 (n.0.1, n.1))

pub named_none : (b a : Record) (o : Option VarName) → IsLeastOf (λ x. (x.step ≢ b.number) × MakesVariable a x) (variables_asked b.act) o → IfNone o ((x : VarName) → ¬ NamesFrom b a x)
named_none b a None h = λ x n. h x n.0.0 (n.0.1, n.1)
named_none b a (Some y) h = tt

module _ (rs : List Record) (distinct : AreDistinct (numbers rs)) (b : Record) where
  module _ (name : GoalName) (e : b.goal ≡ Some name) where
    pub before_none : ((r : Record) → In r rs → ¬ (r.number ≡ name.step)) → (a : Record) → WasThereBefore rs b a
    before_none none a m i c = absurd (none m i (sym (made_named b m name e c).0))

    module _ (maker : Record) (made : ℕ) (at : slice_get rs made ≡ Some maker) (number : maker.number ≡ name.step) where
      only_maker : (m : Record) → In m rs → Consumes b m → m ≡ maker
      only_maker m i c = record_once rs m maker distinct i (in_at rs made maker at) (sym (made_named b m name e c).0 ∙ sym number)

      pub before_other : ¬ MakesGoal maker name → (a : Record) → WasThereBefore rs b a
      before_other n a m i c = absurd (n (subst (λ z. MakesGoal z name) (only_maker m i c) (made_named b m name e c)))

      module _ (makes : MakesGoal maker name) (a : Record) (place : ℕ) (there : slice_get rs place ≡ Some a) where
        pub was_there : made < place → WasThereBefore rs b a
        was_there h m i c = subst (λ z. Precedes rs z a) (sym (only_maker m i c)) (stands_before rs made place maker a at there h)

        pub place_there : WasThereBefore rs b a → made < place
        place_there h = place_before rs made place maker a at there distinct (h maker (in_at rs made maker at) (name, e, makes))

-- P holds of none of the steps after this place and in front of the other
abbrev pub NoneBetween : (Record → Type 0) → List Record → ℕ → ℕ → Type 0
NoneBetween P rs place end_place = (k : ℕ) (c : Record) → place < k → k < end_place → slice_get rs k ≡ Some c → ¬ P c

-- the step that bound a variable, by the look-up of its number
module _ (rs : List Record) (distinct : AreDistinct (numbers rs)) (x : VarName) (o : Option ℕ) (bound : (n : ℕ) → (o ≡ Some n) ↔ StepBinds rs n x) where
  pub binder_kept : (n : ℕ) → o ≡ Some n → ¬ ((r : Record) → In r rs → ¬ (r.number ≡ n))
  binder_kept n e none = let b = (bound n).0 e in none b.0 b.1 b.2

  module _ (a : Record) where
    kept_behind : (c : Record) → Precedes rs a c → In c rs
    kept_behind c h = (before_in rs a c (is_before rs a c h)).1

    pub not_bound : o ≡ None → ¬ IsBoundBehind rs a x
    not_bound e t = let clash : None ≡ Some t.0.number = sym e ∙ (bound t.0.number).1 (t.0, kept_behind t.0 t.1, refl, t.2) in cc

    module _ (n : ℕ) (e : o ≡ Some n) (place behind : ℕ) (there : slice_get rs place ≡ Some a) (stands : StandsAt rs n behind) where
      one_binder : (c : Record) → In c rs → Binds c x → c ≡ stands.0
      one_binder c i b = record_once rs c stands.0 distinct i (in_at rs behind stands.0 stands.1) (same_value ((bound c.number).1 (c, i, refl, b)) e ∙ sym stands.2)

      pub bound_behind : place < behind → IsBoundBehind rs a x
      bound_behind low = let b = (bound n).0 e in (stands.0, stands_before rs place behind a stands.0 there stands.1 low, subst (λ z. Binds z x) (one_binder b.0 b.1 b.3) b.3)

      pub place_behind : IsBoundBehind rs a x → place < behind
      place_behind t = place_before rs place behind a stands.0 there stands.1 distinct (subst (Precedes rs a) (one_binder t.0 (kept_behind t.0 t.1) t.2) t.1)

-- the mark woke
pub woken : (rs : List Record) (b a : Record) (read : Bool) → CanWait b.act → WasThereBefore rs b a → (IsTrue read ↔ ReadsBehind rs b a) → IsTrue (not read) ↔ IsWokenBy rs b a
woken rs b a true can was h = (λ e. cc, λ w. absurd (w.2 (h.0 refl)))
woken rs b a false can was h = (λ _. (can, was, λ r. let clash : false ≡ true = h.1 r in cc), λ _. refl)

pub placed : (rs : List Record) (n place : ℕ) (a : Record) → AreDistinct (numbers rs) → StandsAt rs n place → IsKeptAs rs n a → slice_get rs place ≡ Some a
placed rs n place a distinct p k = subst (λ z. slice_get rs place ≡ Some z) (record_once rs p.0 a distinct (in_at rs place p.0 p.1) k.0 (p.2 ∙ sym k.1)) p.1

-- two steps that are held at places of slots
module _ (rs : List Record) (ss : SlotList) (is : rs ≡ held_in ss) (later earlier place behind : ℕ) (first : HasNumberIn ss place earlier) (second : HasNumberIn ss behind later) where
  there : StandsAt rs earlier (rank ss place)
  there = ranked rs ss is place earlier first

  there_behind : StandsAt rs later (rank ss behind)
  there_behind = ranked rs ss is behind later second

  -- a step that does not stand after another does not depend on it
  pub not_behind : AreDistinct (numbers rs) → behind ≤ place → IsDirect rs later earlier None
  not_behind distinct high b a kb ka d =
      let low = place_before rs (rank ss place) (rank ss behind) a b (placed rs earlier (rank ss place) a distinct there ka) (placed rs later (rank ss behind) b distinct there_behind kb) distinct d.0 in
      let least = rank_least ss behind place high in
      omega (arith, low, least)

  module _ (b a : Record) (at : StandsIn ss place a) (at_behind : StandsIn ss behind b) where
    ranked_there : slice_get rs (rank ss place) ≡ Some a
    ranked_there = ranked_at rs ss is place a at

    ranked_behind : slice_get rs (rank ss behind) ≡ Some b
    ranked_behind = ranked_at rs ss is behind b at_behind

    kept : IsKeptAs rs earlier a
    kept = kept_at rs (rank ss place) earlier a there ranked_there

    kept_later : IsKeptAs rs later b
    kept_later = kept_at rs (rank ss behind) later b there_behind ranked_behind

    precedes : place < behind → Precedes rs a b
    precedes low = stands_before rs (rank ss place) (rank ss behind) a b ranked_there ranked_behind (rank_less ss place behind a at low)

    pub is_made : place < behind → Consumes b a → IsDirect rs later earlier (Some made)
    is_made low c = (b, a, kept_later, kept, by_making (precedes low) c)

    pub is_read : (x : VarName) (woke : Bool) → place < behind → ¬ Consumes b a → IsLeastRead b a x → (IsTrue woke ↔ IsWokenBy rs b a) → IsDirect rs later earlier (Some (read x woke))
    is_read x woke low n least marked = (b, a, kept_later, kept, by_reading (precedes low) n least marked)

    pub is_named : (x : VarName) → place < behind → ¬ Consumes b a → ((y : VarName) → ¬ ReadsFrom b a y) → IsLeastNamed b a x → IsDirect rs later earlier (Some (named x))
    is_named x low n none least = (b, a, kept_later, kept, by_naming (precedes low) n none least)

    pub is_none : AreDistinct (numbers rs) → ¬ Consumes b a → ((x : VarName) → ¬ ReadsFrom b a x) → ((x : VarName) → ¬ NamesFrom b a x) → IsDirect rs later earlier None
    is_none distinct n none unnamed c d kc kd depends =
        let same : c ≡ b = same_value (placed rs later (rank ss behind) c distinct there_behind kc) ranked_behind in
        let other : d ≡ a = same_value (placed rs earlier (rank ss place) d distinct there kd) ranked_there in
        elim depends.1 [
          | inl k ↦ n (subst₂ Consumes same other k)
          | inr (inl r) ↦ none r.0 (subst₂ (λ y z. ReadsFrom y z r.0) same other r.1)
          | inr (inr r) ↦ unnamed r.0 (subst₂ (λ y z. NamesFrom y z r.0) same other r.1)
        ]

pub none_earlier : (rs : List Record) (later earlier : ℕ) → ((r : Record) → In r rs → ¬ (r.number ≡ earlier)) → IsDirect rs later earlier None
none_earlier rs later earlier none b a kb ka d = none a ka.0 ka.1

pub none_later : (rs : List Record) (later earlier : ℕ) → ((r : Record) → In r rs → ¬ (r.number ≡ later)) → IsDirect rs later earlier None
none_later rs later earlier none b a kb ka d = none b kb.0 kb.1
