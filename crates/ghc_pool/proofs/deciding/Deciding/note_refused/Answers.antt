use Rattle.std.proofs.Common.{false, refl, inr}
use Rattle.ghc_pool.proofs.Telling.{decided_note, goes_on, opposite, not_told, reason_of_note}
use Rattle.ghc_pool.proofs.deciding.Deciding.note_refused.Goals as goal

pub returns-then-is_ready : goal.returns-then-is_ready
returns-then-is_ready g c =
    let call = c.note-receipt.ensures in
    goes_on g.N.Naming.opened c.args.self.now.scope.now c.args.self.now.spies.now c.args.self.now.steps c.args.goal c.args.pass.now c.note-receipt.new.me call.decided.0 c.note-receipt.result call.number call.begins call.submits call.decided.1

pub returns : goal.returns
returns g c =
    let call = c.note-receipt.ensures in
    decided_note g.N.Naming.opened c.args.self.now.scope.now c.args.self.now.spies.now c.args.self.now.steps c.args.goal c.args.pass.now c.note-receipt.new.me _ _ _ call.decided.0 c.note-receipt.result c.stop_of_note-stop.result
    (λ _. inr (inr (c.requires.refused, not_told c.is_ready.result c.if-is_ready.false c.is_ready.ensures.1))) call.number call.begins call.submits call.decided.1 call.answered
    (reason_of_note g.N.Naming.opened c.args.self.now.scope.now c.args.self.now.spies.now c.args.self.now.steps c.args.goal false c.note-receipt.result c.stop_of_note-stop.result c.requires.steps (λ e. opposite false e refl) c.stop_of_note-stop.ensures) (refl, refl) c.new.ensures.items
