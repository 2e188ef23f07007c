use Rattle.ghc_trace.proofs.Words.{◌≡◌, ◌+◌, [], ◌∷◌, ◌++◌, List, get_or, take, true, false, refl, sym, ap, ◌∙◌, subst, inl, inr, arith, take_more, take_all, In, in_get, in_more, VarName, variables_asked}
use Rattle.ghc_trace.specs.inner.PartsCode.{IsMadeInside}
use Rattle.ghc_trace.proofs.call_given.reaches_in.Goals as goal

pub loop-x-init : goal.loop-x-init
loop-x-init c x i = absurd i

pub loop-x-preserved : goal.loop-x-preserved
loop-x-preserved c x i =
    let kept = c.args.records.now.held in
    let ns = c.args.part.now.keys in
    let items = c.variables-x-items.result.now in
    let at = c.loop-x.x-index in
    let none : VarName = record { step = 0; place = 0 } in
    let y = get_or items at none in
    let more : take (at + 1) items ≡ take at items ++ y ∷ [] = take_more items at none c.loop-x-test.true in
    elim (in_more (take at items) y x (subst (λ (l : List VarName). In x l) more i)) [
      | inl j ↦ c.loop-x.invariant x j
      | inr same ↦ λ made.
          let here = subst (λ k. IsMadeInside kept ns k y) (sym c.number.ensures) (subst (IsMadeInside kept ns c.args.step.now.number) same made) in
          let clash : false ≡ true = sym c.if-is_made_inside.false ∙ c.is_made_inside.ensures.1 here in
          cc
    ]

pub returns-then-is_made_inside : goal.returns-then-is_made_inside
returns-then-is_made_inside c =
    let items = c.variables-x-items.result.now in
    let at = c.loop-x.x-index in
    let none : VarName = record { step = 0; place = 0 } in
    let y = get_or items at none in
    let asked : items ≡ variables_asked c.args.step.now.act = c.variables-x-items.ensures ∙ ap variables_asked c.act.ensures in (
      λ _. (
        y,
        subst (λ (l : List VarName). In y l) asked (in_get items at none c.loop-x-test.true),
        subst (λ k. IsMadeInside c.args.records.now.held c.args.part.now.keys k y) c.number.ensures (c.is_made_inside.ensures.0 c.if-is_made_inside.true),
      ),
      λ _. refl,
    )

pub returns : goal.returns
returns c =
    let items = c.variables-x-items.result.now in
    let asked : items ≡ variables_asked c.args.step.now.act = c.variables-x-items.ensures ∙ ap variables_asked c.act.ensures in (
      λ h. let clash : false ≡ true = h in cc,
      λ (x, i, made).
          let all = take_all c.loop-x.x-index items (omega (arith, c.loop-x-test.false)) in
          absurd (c.loop-x.invariant x (subst (λ (l : List VarName). In x l) (sym all) (subst (λ (l : List VarName). In x l) (sym asked) i)) made),
    )
