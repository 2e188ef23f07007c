use Rattle.ghc_core.proofs.Words.{◌∙◌, inl, inr, IsBoundBy, command_of}
use Rattle.ghc_core.proofs.Loading.{none_noted}
use Rattle.ghc_core.proofs.Resuming.{refused_asks_nothing}
use Rattle.ghc_core.proofs.core_state.Core.command_again.Goals as goal

pub returns-in-Err-clause-refused : goal.returns-in-Err-clause-refused
returns-in-Err-clause-refused c _ change v asked changes = elim c.in-Err.ensures.answer.1 [
  | inl memory ↦ c.in_ok-for_another_cause-in-Err.ensures memory
  | inr fails ↦ refused_asks_nothing c.args.self.now.world c.stands.ensures.standing (command_of c.args.command) c.in-Err.fault fails change v asked changes
]

pub returns-clause-notes : goal.returns-clause-notes
returns-clause-notes c none _ =
    none_noted c.make.new.self.world.state.goals (IsBoundBy c.in-Ok.change) c.prepare_command.new.self.notes c.make.new.self.notes c.in_ok-make.ensures.notes (c.in-Ok.ensures.stays.notes ∙ none)
