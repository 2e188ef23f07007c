use Rattle.std.proofs.Common.{refl, true, inl, inr}
use Rattle.ghc_pool.proofs.Telling.{decided_note, reason_of_note}
use Rattle.ghc_pool.proofs.deciding.Deciding.note_spied.Goals as goal

pub returns : goal.returns
returns g c =
    let call = c.note-receipt.ensures in
    decided_note g.N.Naming.opened c.args.self.now.scope.now c.args.self.now.spies.now c.args.self.now.steps c.args.goal c.args.pass.now c.note-receipt.new.me _ _ _ call.decided.0 c.note-receipt.result c.stop_of_note-stop.result
    (λ _. inr (inl c.requires.spied)) call.number call.begins call.submits call.decided.1 call.answered
    (reason_of_note g.N.Naming.opened c.args.self.now.scope.now c.args.self.now.spies.now c.args.self.now.steps c.args.goal true c.note-receipt.result c.stop_of_note-stop.result c.requires.steps (λ _. c.requires.spied) c.stop_of_note-stop.ensures) (refl, refl) c.new.ensures.items
