use Rattle.ghc_reader.proofs.Words.{refl, EndsWhole, sym, ◌∙◌, Input, input}
use Rattle.ghc_reader.proofs.Whole.{fault_in, no_fault_at}
use Rattle.ghc_reader.proofs.InputFaults.{closed_fault, at_variable, closed_found, one_input}
use Rattle.ghc_reader.proofs.input_parser.parse_term.Goals as goal

pub returns-in-Err-Syntax-clause-fault : goal.returns-in-Err-Syntax-clause-fault
returns-in-Err-Syntax-clause-fault c =
    closed_fault c.args.tokens.now c.closed_front-closed.result.now _ c.closed_front-closed.ensures (fault_in EndsWhole (λ q. refl) c.closed_front-closed.result.now c.in-Err-Syntax.left (rw c.in-Err-Syntax.field-0-is at c.in-Err-Syntax.ensures.fault))

pub returns-in-Err-Syntax-clause-only : goal.returns-in-Err-Syntax-clause-only
returns-in-Err-Syntax-clause-only c = λ i e. absurd (no_fault_at Input input c.args.tokens.now _
    (closed_fault c.args.tokens.now c.closed_front-closed.result.now _ c.closed_front-closed.ensures (fault_in EndsWhole (λ q. refl) c.closed_front-closed.result.now c.in-Err-Syntax.left (rw c.in-Err-Syntax.field-0-is at c.in-Err-Syntax.ensures.fault))) i e)

pub returns-then-closed-tokens-clause-found : goal.returns-then-closed-tokens-clause-found
returns-then-closed-tokens-clause-found c =
    let f = c.in-Ok.ensures.found in
    closed_found c.args.tokens.now c.closed_front-closed.result.now _ c.closed_front-closed.ensures c.if-closed-tokens.true f.0 f.1 f.2

pub returns-then-closed-tokens-clause-only : goal.returns-then-closed-tokens-clause-only
returns-then-closed-tokens-clause-only c = λ i e.
    let f = c.in-Ok.ensures.found in
    let g = closed_found c.args.tokens.now c.closed_front-closed.result.now _ c.closed_front-closed.ensures c.if-closed-tokens.true f.0 f.1 f.2 in
    one_input i g.0.term (sym e ∙ g.1) ∙ g.2

pub returns-else-closed-tokens-clause-fault : goal.returns-else-closed-tokens-clause-fault
returns-else-closed-tokens-clause-fault c =
    let f = c.in-Ok.ensures.found in
    at_variable c.args.tokens.now c.closed_front-closed.result.now c.closed_front-closed.ensures c.if-closed-tokens.false f.0 f.1

pub returns-else-closed-tokens-clause-only : goal.returns-else-closed-tokens-clause-only
returns-else-closed-tokens-clause-only c = λ i e.
    let f = c.in-Ok.ensures.found in
    absurd (no_fault_at Input input c.args.tokens.now _ (at_variable c.args.tokens.now c.closed_front-closed.result.now c.closed_front-closed.ensures c.if-closed-tokens.false f.0 f.1) i e)
