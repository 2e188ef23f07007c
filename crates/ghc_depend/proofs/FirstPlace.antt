-- The first place where one of some records stands, and the first consequence of a step.
use Rattle.ghc_depend.proofs.Words.{◌≡◌, ℕ, ◌<◌, ◌≤◌, ◌⊎◌, List, [], ◌∷◌, ◌++◌, length, refl, sym, ap, ◌∙◌, subst, inl, inr, arith, Option, Some, None, IfSome, slice_get, option_map, In, in_at, in_more, in_left, in_last, Precedes, AreDistinct, Record, numbers, SlotList, held_in, StandsIn, StepDependsOn, stands_held, once_of, rank, rank_stands, rank_back, rank_least, is_before, before_in, record_once, Uses, Follows, IsKeptAs, IsFirstConsequence, IsFirstAmong, IsFirstWhere}
use Rattle.ghc_depend.proofs.Finding.{same_value}
use Rattle.ghc_depend.proofs.Causes.{NoneBetween, place_at, stands_before, place_before}
use Rattle.ghc_depend.proofs.Nearest.{is_first, none_of_it}

-- the first place in the record where a record stands of whose number P holds
abbrev pub IsFirstOf : List Record → (ℕ → Type 0) → Option ℕ → Type 0
IsFirstOf rs P None = (r : Record) → In r rs → ¬ P r.number
IsFirstOf rs P (Some p) = ((b : Record) × (slice_get rs p ≡ Some b) × P b.number) × ((c : Record) (q : ℕ) → slice_get rs q ≡ Some c → P c.number → p ≤ q)

-- the first slot has the first rank
pub first_ranked : (ss : SlotList) (P : ℕ → Type 0) (first : Option ℕ) → IsFirstWhere ss P first → IsFirstOf (held_in ss) P (option_map (rank ss) first)
first_ranked ss P None h = h
first_ranked ss P (Some p) h = (
  (h.0.0, rank_stands ss p h.0.0 h.0.1, h.0.2),
  λ c q at j.
      let w = rank_back ss q c at in
      let l = rank_least ss p w.0 (h.1 c w.0 w.1 j) in
      omega (arith, l, w.2),
)

module _ (ss : SlotList) (distinct : AreDistinct (numbers (held_in ss))) (ns : List ℕ) (n : ℕ) (first : Option ℕ) (h : IsFirstAmong ss ns first) where
  -- of this number no record is kept
  pub first_still : ((r : Record) → In r (held_in ss) → ¬ (r.number ≡ n)) → IsFirstAmong ss (ns ++ n ∷ []) first
  first_still none = still first h
    where
      still : (first : Option ℕ) → IsFirstAmong ss ns first → IsFirstAmong ss (ns ++ n ∷ []) first
      still None h = λ r i j. elim (in_more ns n r.number j) [ inl k ↦ h r i k | inr e ↦ none r i e ]
      still (Some p) h = (
        (h.0.0, h.0.1, in_left ns (n ∷ []) h.0.0.number h.0.2),
        λ c q at j. elim (in_more ns n c.number j) [ inl k ↦ h.1 c q at k | inr e ↦ absurd (none c (stands_held ss q c at) e) ],
      )

  -- a record of this number stands there
  pub first_more : (place next : ℕ) (r : Record) → StandsIn ss place r → r.number ≡ n → next ≤ place → IfSome first (λ p. next ≤ p) → ((next ≡ place) ⊎ (first ≡ Some next)) → IsFirstAmong ss (ns ++ n ∷ []) (Some next)
  first_more place next r at number low least one = (
    elim one [
      | inl e ↦ (r, subst (λ k. StandsIn ss k r) (sym e) at, subst (λ m. In m (ns ++ n ∷ [])) (sym number) (in_last ns n))
      | inr e ↦ let b = (subst (IsFirstAmong ss ns) e h).0 in (b.0, b.1, in_left ns (n ∷ []) b.0.number b.2)
    ],
    λ c q there j. elim (in_more ns n c.number j) [
      | inl k ↦ below first h least c q there k
      | inr e ↦ let same : place ≡ q = once_of ss distinct place q r c at there (number ∙ sym e) in omega (arith, low, same)
    ],
  )
    where
      below : (first : Option ℕ) → IsFirstAmong ss ns first → IfSome first (λ p. next ≤ p) → (c : Record) (q : ℕ) → StandsIn ss q c → In c.number ns → next ≤ q
      below None h least c q there k = absurd (h c (stands_held ss q c there) k)
      below (Some p) h least c q there k = let l = h.1 c q there k in omega (arith, l, least)

module _ (rs : List Record) (distinct : AreDistinct (numbers rs)) where
  module _ (number : ℕ) where
    -- a later step that uses this one is among its users
    among : (a c : Record) (i j : ℕ) → a.number ≡ number → slice_get rs i ≡ Some a → slice_get rs j ≡ Some c → i < j → Uses c a → StepDependsOn rs c.number number
    among a c i j e p q l used = (a, c, e, refl, (stands_before rs i j a c p q l, used))

    pub first_is : (p : ℕ) → IsFirstOf rs (λ n. StepDependsOn rs n number) (Some p) → (b : Record) → slice_get rs p ≡ Some b → (a : Record) × IsKeptAs rs number a × IsFirstConsequence rs a b
    first_is p h b at =
        let d = h.0.2 in
        let a = d.0 in
        let both = before_in rs a d.1 (is_before rs a d.1 d.4.0) in
        let own : d.1 ≡ b = record_once rs d.1 b distinct both.1 (in_at rs p b at) (d.3 ∙ ap (λ (z : Record). z.number) (same_value h.0.1 at)) in
        let there = place_at rs a both.0 in
        let behind : there.0 < p = place_before rs there.0 p a b there.1 at distinct (subst (Precedes rs a) own d.4.0) in
        let none : NoneBetween (λ c. Uses c a) rs there.0 p = λ k c low high at used. let l = h.1 c k at (among a c there.0 k d.2 there.1 at low used) in omega (arith, l, high) in
        (a, (both.0, d.2), is_first rs distinct a there.0 there.1 p none b at behind (subst (λ z. Uses z a) own d.4.1))

    pub first_none : IsFirstOf rs (λ n. StepDependsOn rs n number) None → (a b : Record) → IsKeptAs rs number a → ¬ Follows rs a b
    first_none h a b kept follows =
        let there = place_at rs a kept.0 in
        let none : NoneBetween (λ c. Uses c a) rs there.0 (length rs) = λ k c low high at used. h c (in_at rs k c at) (among a c there.0 k kept.1 there.1 at low used) in
        none_of_it rs distinct a there.0 there.1 (length rs) none (omega arith) number (a, there.1, kept.1) a b kept follows
