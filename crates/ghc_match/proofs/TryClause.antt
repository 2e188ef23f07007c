-- From what the head and the guard show to the outcome.
use Rattle.ghc_match.proofs.Words.{◌≡◌, ◌<◌, Bool, true, false, List, inl, inr, sym, subst, ◌∙◌, ◌↔◌, Option, Some, IsTrue, VarName, In, Tree, variable, Variables, IsSetOf, StoreValue, value_at, member, no_member, Test, Compare as compare, Clause, variables_of_test, Wants, StandsAndEnds, HoldsBy, StandsFor, Mismatch, HeadWants, HeadFits, StandsAt, SaysNo, GuardSaysNo, LooksAt, refuses, waits, accepts, HasOutcome, Gains, HeadLooksAt, HasValuesBy, IsSaid, No, OneSaysNo, OneWants, GuardLooksAt}
use Rattle.std.specs.FinSet as set
use Rattle.ghc_match.proofs.Values.{number_there}

-- a test that holds where variables end as E says holds where they end as F says
holds_there : (E F : VarName → Tree → Type 0) → ((y : VarName) (e : Tree) → E y e → F y e) → (g : Test) → HoldsBy E g → HoldsBy F g
holds_there E F f (compare o a b) h = (h.0, h.1, number_there h.2 (λ y e i. f y e), number_there h.3 (λ y e i. f y e), h.4)
holds_there E F f _ h = (h.0, f _ h.0 h.1, h.2)

-- .. and the values of its sides too
values_over : (E F : VarName → Tree → Type 0) → ((y : VarName) (e : Tree) → E y e → F y e) → (g : Test) → HasValuesBy E g → HasValuesBy F g
values_over E F f (compare o a b) h = (h.0, h.1, number_there h.2 (λ y e i. f y e), number_there h.3 (λ y e i. f y e))
values_over E F f _ h = tt

-- what is added to an empty set
gained_alone : (old new : Variables) (P : VarName → Type 0) → set.len old ≡ 0 → Gains old new P → IsSetOf new P
gained_alone old new P none g x = (λ i. elim ((g x).0 i) [ inl j ↦ absurd (no_member old none x j) | inr p ↦ p ], λ p. (g x).1 (inr p))

module _ (c : Clause) (ts : List Tree) (S : VarName → Option Tree) (stands : StoreValue) (stand : (y : VarName) (t : Tree) → (value_at stands y ≡ Some t) ↔ StandsFor c ts S y t) where
  there : (y : VarName) (e : Tree) → StandsAndEnds stands S y e → StandsAt c ts S y e
  there y e l = (l.0, l.2.0, (stand y l.0).0 l.1, l.2.1)

  back : (y : VarName) (e : Tree) → StandsAt c ts S y e → StandsAndEnds stands S y e
  back y e l = (l.0, (stand y l.0).1 l.2, (l.1, l.3))

  wants_there : (ys : List VarName) (x : VarName) → Wants (StandsAndEnds stands S) ys x → Wants (StandsAt c ts S) ys x
  wants_there ys x w = (w.0, w.1, there w.0 (variable x) w.2)

  wants_back : (ys : List VarName) (x : VarName) → Wants (StandsAt c ts S) ys x → Wants (StandsAndEnds stands S) ys x
  wants_back ys x w = (w.0, w.1, back w.0 (variable x) w.2)

  -- a test says no there too
  pub no_there : (g : Test) → IsSaid (StandsAndEnds stands S) g No → SaysNo c ts S g
  no_there g n = (λ x w. n.0 x (wants_back (variables_of_test g) x w), λ h. n.1 (holds_there (StandsAt c ts S) (StandsAndEnds stands S) back g h))

  pub no_back : (g : Test) → SaysNo c ts S g → IsSaid (StandsAndEnds stands S) g No
  no_back g n = (λ x w. n.0 x (wants_there (variables_of_test g) x w), λ h. n.1 (holds_there (StandsAndEnds stands S) (StandsAt c ts S) there g h))

  -- its sides have values there too
  pub values_there : (g : Test) → HasValuesBy (StandsAndEnds stands S) g → HasValuesBy (StandsAt c ts S) g
  values_there g v = values_over (StandsAndEnds stands S) (StandsAt c ts S) there g v

  pub values_back : (g : Test) → HasValuesBy (StandsAt c ts S) g → HasValuesBy (StandsAndEnds stands S) g
  values_back g v = values_over (StandsAt c ts S) (StandsAndEnds stands S) back g v

  -- what is looked at, by the head and then by the guard
  pub all_looked_at : (old new : Variables) → IsSetOf old (HeadLooksAt c ts S) → {gs : List Test} → gs ≡ c.tests → Gains old new (GuardLooksAt stands S gs) → IsSetOf new (LooksAt c ts S)
  all_looked_at old new h e g x = (
    λ i. elim ((g x).0 i) [
      | inl j ↦ inl ((h x).0 j)
      | inr w ↦ let p = w.2.2 in inr (w.0, w.2.0, p.0, subst (In w.0) e w.1, w.2.1, (stand w.2.0 p.0).0 p.1, p.2)
    ],
    λ l. (g x).1 (elim l [
      | inl k ↦ inl ((h x).1 k)
      | inr w ↦ inr (w.0, subst (In w.0) (sym e) w.3, (w.1, w.4, (w.2, (stand w.1 w.2).1 w.5, w.6)))
    ]),
  )

  module _ {clashes : Bool} (means : IsTrue clashes ↔ Mismatch c ts S) (apart : clashes ≡ false) (wanted : Variables) (head : IsSetOf wanted (HeadWants c ts S)) where
    no_clash : ¬ Mismatch c ts S
    no_clash m = let clash : false ≡ true = sym apart ∙ means.1 m in cc

    -- the head waits
    pub head_waits : 0 < set.len wanted → HasOutcome c ts S (waits wanted)
    head_waits h =
        let m = member wanted h in
        let first = (head m.0).0 m.1 in (
          λ x. (
            λ i. inl (no_clash, (head x).0 i),
            λ w. (head x).1 (elim w [ inl k ↦ k.1 | inr k ↦ absurd (k.0.1 m.0 first) ]),
          ),
          (m.0, inl (no_clash, first)),
        )

    module _ (none : set.len wanted ≡ 0) where
      fits : HeadFits c ts S
      fits = (no_clash, λ x w. no_member wanted none x ((head x).1 w))

      module _ {gs : List Test} (tests : gs ≡ c.tests) {says_no : Bool} (said : OneSaysNo (StandsAndEnds stands S) gs says_no) where
        -- a test says no
        pub guard_refuses : says_no ≡ true → HasOutcome c ts S refuses
        guard_refuses e =
            let n = subst (λ hs. OneSaysNo (StandsAndEnds stands S) hs true) tests (subst (OneSaysNo (StandsAndEnds stands S) gs) e said) in
            inr (fits, (n.0, n.1, no_there n.0 n.2))

        module _ (silent : says_no ≡ false) (guard : Variables) (gains : Gains wanted guard (OneWants (StandsAndEnds stands S) gs)) where
          others : OneSaysNo (StandsAndEnds stands S) c.tests false
          others = subst (λ hs. OneSaysNo (StandsAndEnds stands S) hs false) tests (subst (OneSaysNo (StandsAndEnds stands S) gs) silent said)

          all : IsSetOf guard (OneWants (StandsAndEnds stands S) c.tests)
          all = gained_alone wanted guard (OneWants (StandsAndEnds stands S) c.tests) none (subst (λ hs. Gains wanted guard (OneWants (StandsAndEnds stands S) hs)) tests gains)

          none_no : ¬ GuardSaysNo c ts S
          none_no n = elim (others n.0 n.1) [
            | inl w ↦ n.2.0 w.0 (wants_there (variables_of_test n.0) w.0 w.1)
            | inr y ↦ n.2.1 (holds_there (StandsAndEnds stands S) (StandsAt c ts S) there n.0 y.1)
          ]

          -- the guard waits
          pub guard_waits : 0 < set.len guard → HasOutcome c ts S (waits guard)
          guard_waits h =
              let m = member guard h in
              let first = (all m.0).0 m.1 in (
                λ x. (
                  λ i. let w = (all x).0 i in inr (fits, none_no, (w.0, w.1, wants_there (variables_of_test w.0) x w.2)),
                  λ w. (all x).1 (elim w [
                    | inl k ↦ absurd (fits.1 x k.1)
                    | inr k ↦ let g = k.2 in (g.0, g.1, wants_back (variables_of_test g.0) x g.2)
                  ]),
                ),
                (m.0, inr (fits, none_no, (first.0, first.1, wants_there (variables_of_test first.0) m.0 first.2))),
              )

          -- each test says yes
          pub all_accept : set.len guard ≡ 0 → (reads : Variables) → IsSetOf reads (LooksAt c ts S) → HasOutcome c ts S (accepts stands reads)
          all_accept h reads r = (
            (
              fits,
              λ g i. elim (others g i) [
                | inl w ↦ absurd (no_member guard h w.0 ((all w.0).1 (g, i, w.1)))
                | inr y ↦ (λ x w. y.0 x (wants_back (variables_of_test g) x w), holds_there (StandsAndEnds stands S) (StandsAt c ts S) there g y.1)
              ],
            ),
            stand,
            r,
          )
