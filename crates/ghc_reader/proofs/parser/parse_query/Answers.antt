use Rattle.ghc_reader.proofs.Words.{refl, sym, ◌∙◌, EndsQuery}
use Rattle.ghc_reader.proofs.Whole.{fault_in, one_query, no_fault_in}
use Rattle.ghc_reader.proofs.parser.parse_query.Goals as goal

pub returns-in-Ok-clause-only : goal.returns-in-Ok-clause-only
returns-in-Ok-clause-only c =
    λ q e. let f = c.in-Ok.ensures.found in one_query q f.0 (sym e ∙ f.1) ∙ f.2

pub returns-in-Err-Syntax-clause-only : goal.returns-in-Err-Syntax-clause-only
returns-in-Err-Syntax-clause-only c = λ q e.
    absurd (no_fault_in EndsQuery (λ q. refl) c.args.tokens.now c.in-Err-Syntax.left q e (rw c.in-Err-Syntax.field-0-is at c.in-Err-Syntax.ensures.fault))

pub returns-in-Err-Syntax-clause-fault : goal.returns-in-Err-Syntax-clause-fault
returns-in-Err-Syntax-clause-fault c =
    fault_in EndsQuery (λ q. refl) c.args.tokens.now c.in-Err-Syntax.left (rw c.in-Err-Syntax.field-0-is at c.in-Err-Syntax.ensures.fault)
