use Rattle.ghc_trace.proofs.Words.{◌≡◌, ◌+◌, [], ◌∷◌, ◌++◌, ℕ, List, get_or, take, true, false, refl, sym, ◌∙◌, subst, inl, inr, arith, take_more, take_all, In, in_get, in_more}
use Rattle.ghc_trace.proofs.PartFinding.{in_numbers}
use Rattle.ghc_trace.proofs.call_given.has_one_of.Goals as goal

pub loop-number-init : goal.loop-number-init
loop-number-init c n i = absurd i

pub loop-number-preserved : goal.loop-number-preserved
loop-number-preserved c n i =
    let ns = c.args.numbers.now in
    let at = c.loop-number.number-index in
    let m = get_or ns at 0 in
    let more : take (at + 1) ns ≡ take at ns ++ m ∷ [] = take_more ns at 0 c.loop-number-test.true in
    let has = in_numbers c.args.part.now m c.contains.result c.contains.ensures in
    elim (in_more (take at ns) m n (subst (λ (l : List ℕ). In n l) more i)) [
      | inl j ↦ c.loop-number.invariant n j
      | inr same ↦ λ j. let clash : false ≡ true = sym c.if-contains.false ∙ has.1 (subst (λ k. In k c.args.part.now.keys) same j) in cc
    ]

pub returns-then-contains : goal.returns-then-contains
returns-then-contains c =
    let ns = c.args.numbers.now in
    let at = c.loop-number.number-index in
    let m = get_or ns at 0 in
    let has = in_numbers c.args.part.now m c.contains.result c.contains.ensures in
    (λ _. (m, in_get ns at 0 c.loop-number-test.true, has.0 c.if-contains.true), λ _. refl)

pub returns : goal.returns
returns c =
    let ns = c.args.numbers.now in (
      λ h. let clash : false ≡ true = h in cc,
      λ q. absurd (c.loop-number.invariant q.0 (subst (λ (l : List ℕ). In q.0 l) (sym (take_all c.loop-number.number-index ns (omega (arith, c.loop-number-test.false)))) q.1) q.2),
    )
