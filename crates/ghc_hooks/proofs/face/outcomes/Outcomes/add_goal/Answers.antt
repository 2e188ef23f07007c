use Rattle.ghc_hooks.proofs.Words.{Some, sym, ap, ◌∙◌, on_ok_weaker}
use Rattle.ghc_hooks.proofs.FoundFace.{call_told}
use Rattle.ghc_hooks.proofs.face.outcomes.Outcomes.add_goal.Goals as goal

pub returns-in-Call : goal.returns-in-Call
returns-in-Call c =
    on_ok_weaker c.add_call.result
    (call_told c.args.program.now c.args.goals.now.held c.args.store.now.held c.args.goal c.in-Call.name.now c.in-Call.arguments.now (sym c.in-Some.ensures ∙ ap Some (sym c.in-Call.ensures)) c.args.self.now c.add_call.new.self)
    c.add_call.ensures
