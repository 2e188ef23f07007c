use Rattle.ghc_fire.proofs.Words.{◌≡◌, rules, ap, ◌∙◌, inr, to_z-of_z, err_from_is_err_and, integer, value_at, AssignmentAnswers}
use mir.Val.{SFits}
use mir.Syntax.{w64}
use Rattle.ghc_fire.proofs.Assigned.{not_unified, unified}
use Rattle.ghc_fire.proofs.equations.attempt_assignment.Goals as goal

pub returns-in-Waits-clause-fault : goal.returns-in-Waits-clause-fault
returns-in-Waits-clause-fault c = let waits = rw c.in-Waits.is at c.in_ok-integer.ensures in inr (λ P. AssignmentAnswers.waits c.in-Waits.field-0 waits)

pub returns-in-Bad-clause-fault : goal.returns-in-Bad-clause-fault
returns-in-Bad-clause-fault c = let none = rw c.in-Bad.is at c.in_ok-integer.ensures in inr (λ P. AssignmentAnswers.has_no_value none)

pub returns-clause-effect : goal.returns-clause-effect
returns-clause-effect c =
    let v = c.in-Number.integer in
    let fits : SFits w64 v = search rules in
    let worth = rw c.in-Number.is at c.in_ok-integer.ensures in
    let right : c.integer.result ≡ integer v = c.integer.ensures ∙ ap integer (to_z-of_z w64 v fits) in
    let e = c.new.result in
    let solved = rw (right, ← c.new.ensures.binds) at c.in_ok-binds.ensures.answer.0 in
    let read = rw (← c.new.ensures.reads) at c.in_ok-add_chains.ensures in
    unified (value_at c.args.store.now.held) c.args.left.now c.args.value.now v worth e _ solved read (c.new.ensures.makes ∙ ap (λ m. m.goals) c.none.ensures)
    (c.new.ensures.fresh ∙ ap (λ m. m.fresh) c.none.ensures)

pub returns-in_err-binds-clause-fault : goal.returns-in_err-binds-clause-fault
returns-in_err-binds-clause-fault c =
    let v = c.in-Number.integer in
    let fits : SFits w64 v = search rules in
    let worth = rw c.in-Number.is at c.in_ok-integer.ensures in
    let right : c.integer.result ≡ integer v = c.integer.ensures ∙ ap integer (to_z-of_z w64 v fits) in
    let p = err_from_is_err_and c.from_residual-in_err-binds.result c.from_residual-in_err-binds.ensures.1 in
    let f = c.in_err-binds.field-0.0 in
    rw (p.1, p.2) (not_unified (value_at c.args.store.now.held) c.args.left.now c.args.value.now v worth f (rw right at c.in_err-binds.ensures.answer.1))
