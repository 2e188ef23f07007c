use Rattle.ghcdb.proofs.CitedWords.{◌<◌, length, sym, subst, arith, Program}
use Rattle.std.proofs.lemmas.Bool.{false≢true}
use Rattle.ghcdb.proofs.ManyClauses.{none_has_many, one_more}
use Rattle.ghcdb.proofs.workers.has_large_predicate.Goals as goal

pub loop-clause-preserved : goal.loop-clause-preserved
loop-clause-preserved c =
    one_more c.args.program.now c.clauses-clause-items.result.now c.loop-clause.clause-index c.clauses-clause-items.ensures.same c.loop-clause.invariant (omega arith) c.clause-item.result c.clause-item.is
    c.name.result.now c.head.result.now c.clauses_for-numbers.result.now c.name.ensures c.head.ensures c.clauses_for-numbers.ensures (omega arith)

pub returns : goal.returns
returns c = (
  λ t. absurd (false≢true t),
  λ h. absurd (none_has_many c.args.program.now (λ k d low.
      let within : k < length c.clauses-clause-items.result.now = subst (λ (l : Program). k < length l) (sym c.clauses-clause-items.ensures.same) low in
      c.loop-clause.invariant k d (omega arith)) h),
)
