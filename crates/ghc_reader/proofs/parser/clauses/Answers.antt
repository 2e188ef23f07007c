use Rattle.ghc_reader.proofs.GoalLoops as loops
use Rattle.ghc_reader.proofs.Whole as whole
use Rattle.ghc_reader.proofs.ClauseFounds as founds
use Rattle.ghc_reader.proofs.TermFounds.{passes}
use Rattle.ghc_reader.proofs.parser.clauses.Goals as goal

pub returns-in_err-next-clause-fault : goal.returns-in_err-next-clause-fault
returns-in_err-next-clause-fault c =
    passes c.from_residual.result c.in_err-next.field-0.0 _ _ c.from_residual.ensures.1
    (λ n f. founds.in_clause c.args.tokens.now c.loop-rest.rest.now _ n c.loop-rest.invariant (whole.not_nothing c.loop-rest.rest.now c.loop-rest-test.ensures) f) c.in_err-next.ensures.fault

pub loop-rest-preserved : goal.loop-rest-preserved
loop-rest-preserved c =
    loops.clauses_more c.args.tokens.now c.loop-rest.rest.now c.in_ok-next.behind.now c.loop-rest.clauses.items c.push.new.self.items c.in_ok-next.next c.loop-rest.invariant c.in_ok-push.ensures.items c.in_ok-next.ensures.found
