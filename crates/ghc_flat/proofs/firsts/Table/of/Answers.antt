use Rattle.ghc_flat.proofs.Words.{sym, subst, IsTableOf, take, take_more}
use Rattle.ghc_flat.proofs.FirstArguments.{table_more}
use Rattle.ghc_flat.proofs.firsts.Table.of.Goals as goal

pub loop-number-preserved : goal.loop-number-preserved
loop-number-preserved c =
    let P = c.args.clauses.now in
    subst (λ ks. IsTableOf P ks c.add.new.self) (sym (take_more c.args.numbers.now c.loop-number.number-index 0 c.loop-number-test.true))
    (table_more P (take c.loop-number.number-index c.args.numbers.now) _ _ c.loop-number.table c.add.new.self c.loop-number.invariant c.first_of.ensures c.in_ok-add.ensures.valued c.in_ok-add.ensures.unvalued)
