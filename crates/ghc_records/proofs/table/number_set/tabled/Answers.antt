use Rattle.ghc_records.proofs.Words.{◌++◌, ◌∷◌, [], get_or, sym, ap, ◌∙◌, subst, take_more, In}
use Rattle.ghc_records.proofs.InOrder.{not_again}
use Rattle.ghc_records.proofs.NumberSets.{pushed}
use Rattle.ghc_records.proofs.table.number_set.tabled.Goals as goal

pub loop-number-preserved : goal.loop-number-preserved
loop-number-preserved c =
    let xs = c.args.numbers.now in
    let i = c.loop-number.number-index in
    let n = get_or xs i 0 in
    c.in_ok-insert.ensures.keys
    ∙ pushed c.loop-number.table.keys n (λ j. not_again xs i 0 c.requires c.loop-number-test.true (subst (In n) c.loop-number.invariant j))
    ∙ ap (λ l. l ++ n ∷ []) c.loop-number.invariant ∙ sym (take_more xs i 0 c.loop-number-test.true)
