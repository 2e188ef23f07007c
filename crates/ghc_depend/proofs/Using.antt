-- Which steps depend directly on a step, by the places where both stand.
use Rattle.ghc_depend.proofs.Words.{◌≡◌, ℕ, ◌<◌, ◌+◌, ◌≤◌, ◌⊎◌, List, refl, sym, ap, ◌∙◌, subst, inl, inr, arith, ◌↔◌, Option, Some, None, length, cases_lt, eq-or-lt_of_le, slice_get_within, In, AreDistinct, Record, numbers, SlotList, held_in, StandsIn, StepDependsOn, stands_held, held_stands, one_record, rank, rank_stands, rank_less, Before, is_before, before_is, before_in, record_once, Uses, IsFirstWhere, IsFirstUser, IsPlaceOfUser, IsNoFurther}
use Rattle.ghc_records.proofs.SlotLemmas.{stands_before as slots_before}
use borrow.Author.Count.{below_more}
use Rattle.ghc_depend.proofs.Causes.{place_before}

module _ (ss : SlotList) (distinct : AreDistinct (numbers (held_in ss))) (own n : ℕ) (a : Record) (here : StandsIn ss own a) (number : a.number ≡ n) where
  pub user_is : (place : ℕ) (b : Record) → StandsIn ss place b → own < place → Uses b a → StepDependsOn (held_in ss) b.number n
  user_is place b there low used = (a, b, number, refl, (before_is (held_in ss) a b (slots_before ss own place a b here there low), used))

  pub user_behind : (place : ℕ) (b : Record) → StandsIn ss place b → StepDependsOn (held_in ss) b.number n → (own < place) × Uses b a
  user_behind place b there d =
      let rs = held_in ss in
      let before = is_before rs d.0 d.1 d.4.0 in
      let both = before_in rs d.0 d.1 before in
      let one : d.0 ≡ a = record_once rs d.0 a distinct both.0 (stands_held ss own a here) (d.2 ∙ sym number) in
      let other : d.1 ≡ b = record_once rs d.1 b distinct both.1 (stands_held ss place b there) d.3 in
      let ranks = place_before rs (rank ss own) (rank ss place) a b (rank_stands ss own a here) (rank_stands ss place b there) distinct
      (before_is rs a b (subst (λ z. Before rs z b) one (subst (λ z. Before rs d.0 z) other before))) in (
        elim (cases_lt own place) [
          | inl l ↦ l
          | inr far ↦ elim (eq-or-lt_of_le far) [
            | inl e ↦ let same : rank ss place ≡ rank ss own = ap (rank ss) e in absurd (omega (arith, ranks, same))
            | inr l ↦ let less = rank_less ss place own b there l in absurd (omega (arith, ranks, less))
          ]
        ],
        subst (λ z. Uses b z) one (subst (λ z. Uses z d.0) other d.4.1),
      )

-- a step whose number no record has is used by none
pub none_uses : (ss : SlotList) (n : ℕ) → ((r : Record) → In r (held_in ss) → ¬ (r.number ≡ n)) → (p : ℕ) → ¬ IsPlaceOfUser ss n p
none_uses ss n none p u = let d = u.2 in none d.0 (before_in (held_in ss) d.0 d.1 (is_before (held_in ss) d.0 d.1 d.4.0)).0 d.2

-- the first of whose number one thing holds is the first of whose number another holds that is the same
pub first_alike : (ss : SlotList) (P Q : ℕ → Type 0) → ((m : ℕ) → P m ↔ Q m) → (o : Option ℕ) → IsFirstWhere ss P o → IsFirstWhere ss Q o
first_alike ss P Q same None h = λ r i q. h r i ((same r.number).1 q)
first_alike ss P Q same (Some p) h = ((h.0.0, h.0.1, (same h.0.0.number).0 h.0.2), λ c q at k. h.1 c q at ((same c.number).1 k))

-- no step that depends directly on it stands at the first places
abbrev pub NoUserBefore : SlotList → ℕ → ℕ → Type 0
NoUserBefore ss n place = (p : ℕ) → p < place → ¬ IsPlaceOfUser ss n p

module _ (ss : SlotList) (n place : ℕ) where
  pub no_user_more : NoUserBefore ss n place → ¬ IsPlaceOfUser ss n place → NoUserBefore ss n (place + 1)
  no_user_more none not_here p = below_more (λ q. ¬ IsPlaceOfUser ss n q) place none not_here p

  pub first_found : NoUserBefore ss n place → (b : Record) → StandsIn ss place b → StepDependsOn (held_in ss) b.number n → IsFirstUser ss n (Some place)
  first_found none b at user = ((b, at, user), λ c q there d. elim (cases_lt q place) [ inl l ↦ absurd (none q l (c, there, d)) | inr l ↦ l ])

  pub none_at_all : length ss ≤ place → NoUserBefore ss n place → IsFirstUser ss n None
  none_at_all long none r i d =
      let p = held_stands ss r i in
      let within = slice_get_within ss p.0 (Some r) p.1 in
      none p.0 (omega (arith, within, long)) (r, p.1, d)

-- those that depend directly on it and stand at the first places are no nearer in an order
abbrev pub UsersBeforeNoFurther : SlotList → ℕ → ℕ → List ℕ → ℕ → ℕ → Type 0
UsersBeforeNoFurther ss n slot order place least = (p : ℕ) (b : Record) → p < slot → StandsIn ss p b → StepDependsOn (held_in ss) b.number n → IsNoFurther order place b.number least

module _ (ss : SlotList) (n slot : ℕ) (order : List ℕ) (place least : ℕ) (far : UsersBeforeNoFurther ss n slot order place least) where
  pub no_further_still : ¬ IsPlaceOfUser ss n slot → UsersBeforeNoFurther ss n (slot + 1) order place least
  no_further_still not_here p b = below_more (λ q. StandsIn ss q b → StepDependsOn (held_in ss) b.number n → IsNoFurther order place b.number least) slot (λ q l. far q b l) (λ at d. absurd (not_here (b, at, d))) p

  pub no_further_next : (new m : ℕ) (b : Record) → StandsIn ss slot b → b.number ≡ m → new ≤ least → IsNoFurther order place m new → UsersBeforeNoFurther ss n (slot + 1) order place new
  no_further_next new m b at number less here p c = below_more (λ q. StandsIn ss q c → StepDependsOn (held_in ss) c.number n → IsNoFurther order place c.number new) slot
      (λ q l there d own stands front. let g = far q c l there d own stands front in omega (arith, g, less))
      (λ there d. let same : b ≡ c = one_record ss slot slot b c at there refl in subst (λ k. IsNoFurther order place k new) (sym number ∙ ap (λ (z : Record). z.number) same) here) p

  pub no_further_all : length ss ≤ slot → (m : ℕ) → StepDependsOn (held_in ss) m n → IsNoFurther order place m least
  no_further_all long m d =
      let rs = held_in ss in
      let i = (before_in rs d.0 d.1 (is_before rs d.0 d.1 d.4.0)).1 in
      let p = held_stands ss d.1 i in
      let within = slice_get_within ss p.0 (Some d.1) p.1 in
      subst (λ k. IsNoFurther order place k least) d.3 (far p.0 d.1 (omega (arith, within, long)) p.1 (subst (λ k. StepDependsOn rs k n) (sym d.3) d))
