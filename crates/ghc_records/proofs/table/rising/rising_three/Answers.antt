use Rattle.ghc_records.proofs.Words.{◌≢◌, get_or, refl, inl, inr, subst, ◌<◌, ℕ, ◌≡◌, List, [], ◌∷◌, length, arith, In, in_get, IsRising}
use Rattle.ghc_records.proofs.table.rising.rising_three.Goals as goal

-- the first of two numbers that rise is below the second
first_below : (xs : List ℕ) → length xs ≡ 2 → IsRising xs → get_or xs 0 0 < get_or xs 1 0
first_below [] two a = absurd (omega (arith, two))
first_below (x ∷ []) two a = absurd (omega (arith, two))
first_below (x ∷ y ∷ xs) two a = a.0 y (inl refl)

three_rise : (a b c : ℕ) → a < b → b < c → IsRising (a ∷ b ∷ c ∷ [])
three_rise a b c ab bc = (
  (λ n i. elim i [ inl e ↦ omega (arith, ab, e) | inr (inl e) ↦ omega (arith, ab, bc, e) | inr (inr never) ↦ absurd never ]),
  ((λ n i. elim i [ inl e ↦ omega (arith, bc, e) | inr never ↦ absurd never ]), ((λ n never. absurd never), tt)),
)

pub returns-then-third-low-clause-rising : goal.returns-then-third-low-clause-rising
returns-then-third-low-clause-rising c =
    let two = c.args.two.now in
    three_rise c.args.third (get_or two 0 0) (get_or two 1 0) c.if-third-low.true (first_below two c.told-two c.requires.rising)

pub returns-else-third-high-clause-rising : goal.returns-else-third-high-clause-rising
returns-else-third-high-clause-rising c =
    let two = c.args.two.now in
    let other : get_or two 1 0 ≢ c.args.third = λ e. c.requires.new (subst (λ k. In k two) e (in_get two 1 0 (omega (arith, c.told-two)))) in
    three_rise (get_or two 0 0) (get_or two 1 0) c.args.third (first_below two c.told-two c.requires.rising) (omega (arith, c.if-third-high.false, other))
