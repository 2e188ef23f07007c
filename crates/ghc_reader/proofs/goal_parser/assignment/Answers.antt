use Rattle.ghc_reader.proofs.Words.{◌∷◌, sym, ap, Assign}
use Rattle.ghc_reader.specs.declared.token.Token.TheVariants as token
use Rattle.ghc_reader.proofs.GoalFaults as faults
use Rattle.ghc_reader.proofs.GoalFounds as founds
use Rattle.ghc_reader.proofs.TermFounds.{passes}
use Rattle.ghc_reader.proofs.goal_parser.assignment.Goals as goal

pub returns-in_err-value-clause-fault : goal.returns-in_err-value-clause-fault
returns-in_err-value-clause-fault c =
    passes c.from_residual.result c.in_err-value.field-0.0 _ _ c.from_residual.ensures.1 (faults.expression_in_item c.args.variable.now c.args.tokens.now) c.in_err-value.ensures.fault

pub returns-clause-found : goal.returns-clause-found
returns-clause-found c =
    founds.found_assign _ c.args.tokens.now c.in_ok-value.rest.now c.in_ok-share.field-0 _ (ap (λ n. token.Variable n ∷ token.Mark Assign ∷ c.args.tokens.now) (sym c.in_ok-share.ensures.same)) c.in_ok-value.ensures.found
