use Rattle.ghc_reader.proofs.Words.{◌∷◌, sym, ap, ◌∙◌, subst}
use Rattle.ghc_reader.specs.declared.token.Token.TheVariants as token
use Rattle.ghc_reader.proofs.ClauseFaults as faults
use Rattle.ghc_reader.proofs.ClauseFounds as founds
use Rattle.ghc_reader.proofs.TermFounds.{passes}
use Rattle.ghc_reader.proofs.clause_parser.head.Goals as goal

pub returns-in_default-clause-fault : goal.returns-in_default-clause-fault
returns-in_default-clause-fault c =
    faults.no_clause_here c.args.tokens.now c.in_default.ensures

pub returns-in_err-arguments-clause-fault : goal.returns-in_err-arguments-clause-fault
returns-in_err-arguments-clause-fault c =
    passes c.from_residual.result c.in_err-arguments.field-0.0 _ _ c.from_residual.ensures.1
    (λ n f. subst (λ ts. founds.ClauseFault ts n) (sym c.in-Some.ensures) (faults.arguments_in_clause c.in-Some.name.now c.in-Some.behind.now n f)) c.in_err-arguments.ensures.fault

pub returns-clause-found : goal.returns-clause-found
returns-clause-found c =
    (c.in-Some.behind.now, c.in-Some.ensures ∙ ap (λ n. token.Name n ∷ c.in-Some.behind.now) (sym c.in_ok-name.ensures.same), c.in_ok-arguments.ensures.found)
