use Rattle.ghc_term.proofs.Words.{◌≡◌, ◌+◌, ◌++◌, ◌∷◌, [], length, get_or, take, sym, ap, ◌∙◌, subst, arith, take_more, VarName, In, AreDifferent}
use Rattle.std.proofs.lemmas.List.{take_all}
use Rattle.ghc_term.proofs.VariableLists.{pushed, not_before}
use Rattle.ghc_term.proofs.table.variable_list.tabled.Goals as goal

pub loop-y-preserved : goal.loop-y-preserved
loop-y-preserved c =
    let xs = c.deref-y-items.result.now in
    let same : xs ≡ c.args.list.now.items = c.deref-y-items.ensures.value in
    let before = c.loop-y.invariant ∙ ap (take c.loop-y.y-index) (sym same) in
    let d : VarName = record { step = 0; place = 0 } in
    let y = get_or xs c.loop-y.y-index d in
    c.in_ok-insert.ensures.keys
    ∙ pushed c.loop-y.table.keys y (λ i. not_before xs c.loop-y.y-index d (subst AreDifferent (sym same) c.requires.different) c.loop-y-test.true (subst (In y) before i))
    ∙ ap (λ l. l ++ y ∷ []) before ∙ sym (take_more xs c.loop-y.y-index d c.loop-y-test.true) ∙ ap (take (c.loop-y.y-index + 1)) same

pub returns : goal.returns
returns c =
    let xs = c.args.list.now.items in
    let whole : c.loop-y.table.keys ≡ xs = c.loop-y.invariant ∙ take_all c.loop-y.y-index xs (omega (arith, c.loop-y-test.false, ap length c.deref-y-items.ensures.value)) in
    ap (λ t. t.keys) c.in_ok-new.ensures.ok ∙ c.in_ok-insert-2.ensures.keys ∙ pushed c.loop-y.table.keys c.args.x (λ i. c.requires.new (subst (In c.args.x) whole i))
    ∙ ap (λ l. l ++ c.args.x ∷ []) whole
