use Rattle.ghc_pool.proofs.Words.{subst, ◌∙◌, length, Known, Item, GoesOnWithout, IsDecidedAs}
use Rattle.std.specs.Prelude.{MatchOption}
use Rattle.ghc_pool.proofs.Spied.{nothing_spied}
use Rattle.ghc_pool.proofs.Telling.{decided_submit, same_made, woken_of}
use Rattle.ghc_pool.proofs.deciding.Deciding.take_at_once.Goals as goal

pub returns-in-Ok : goal.returns-in-Ok
returns-in-Ok g c =
    let spies = c.args.self.now.spies.now in
    let call = c.step_at_once.ensures in
    let at = c.in-Ok.ensures.stepped in
    let done = c.submitted.ensures in
    rw done.answer (decided_submit g.N.Naming.opened c.args.self.now.scope.now spies c.args.self.now.steps c.args.goal c.args.pass.now c.step_at_once.new.me _ _ _ at.before at.step c.in-Ok.receipt c.submitted.result.stop
    c.requires.steps c.requires.inside (at.world, at.proposed, nothing_spied spies at.world c.args.goal c.requires.unspied) call.number call.begins c.in-Ok.ensures.submits at.decided at.answered
    done.stop
    (done.step, (at.world, at.step, at.proposed, done.made ∙ same_made at.before at.step c.in-Ok.receipt c.args.pass.now c.step_at_once.new.me at.decided c.in-Ok.goals (length at.step.effect.makes) at.makes))
    (rw done.woken (woken_of g.N.Naming.opened c.args.goal at.step c.new-woken.result.items c.step_at_once.new.woken.items c.new-woken.ensures.items (at.world, at.proposed, at.wakes))))

pub returns-in-Err : goal.returns-in-Err
returns-in-Err g c =
    let d = c.args.self.now in
    let new = c.note_unproposed.new.pass in
    subst (λ (k : Known Item). MatchOption c.note_unproposed.result (GoesOnWithout g.N.Naming.opened d.scope.now d.spies.now d.steps k new) (IsDecidedAs g.N.Naming.opened d.scope.now d.spies.now d.steps c.args.goal k new)) c.in-Err.ensures.stays.0 c.note_unproposed.ensures
