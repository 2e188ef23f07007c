use Rattle.std.proofs.Common.{refl, inl, inr}
use Rattle.ghc_pool.proofs.Telling.{decided_note, reason_of_settling, opposite}
use Rattle.ghc_pool.proofs.deciding.Deciding.note_unstepped.Goals as goal

pub returns : goal.returns
returns g c =
    let call = c.note-receipt.ensures in
    decided_note g.N.Naming.opened c.args.self.now.scope.now c.args.self.now.spies.now c.args.self.now.steps c.args.goal c.args.pass.now c.note-receipt.new.me _ _ _ call.decided.0 c.note-receipt.result c.stop_of_settling-stop.result
    (λ taken. elim c.requires [ inl none ↦ opposite c.args.self.now.steps taken none | inr outside ↦ inl outside ]) call.number call.begins call.submits call.decided.1 call.answered
    (reason_of_settling g.N.Naming.opened c.args.self.now.scope.now c.args.self.now.spies.now c.args.self.now.steps c.args.goal c.note-receipt.result c.stop_of_settling-stop.result c.stop_of_settling-stop.ensures) (refl, refl) c.new.ensures.items
