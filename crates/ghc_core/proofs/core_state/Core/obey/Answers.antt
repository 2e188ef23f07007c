use Rattle.ghc_core.proofs.Words.{◌∙◌, refl, subst, inl, inr, AreLeft, World, does, Changes, IsBoundBy, command_of, Moves}
use Rattle.ghc_term.specs.declared.fault.Fault.TheVariants as fault
use Rattle.ghc_core.proofs.Replying.{not_obeyed}
use Rattle.ghc_core.proofs.core_state.Core.obey.Goals as goal

pub returns-in-Err-clause-answer : goal.returns-in-Err-clause-answer
returns-in-Err-clause-answer c = not_obeyed c.args.self.now.world (command_of c.args.command.now) c.in-Err.refusal c.prepare_command.new.self.world c.in-Err.ensures.answer.1 c.in-Err.ensures.stays.world

-- the change was made in the world in which it was found
abbrev moved : (c : goal.In-Ok-carry_out) → Moves c.args.self.now c.carry_out.new.self
moved c =
    let stays = c.in-Ok.ensures.stays in
    let left = c.in-Ok-carry_out.ensures in
    record {
      change = c.in-Ok.change;
      possible = c.in-Ok.ensures.answer.0.1;
      changed = subst (λ (w : World). Changes w c.in-Ok.change c.carry_out.new.self.world) stays.world left.changed;
      notes = subst (λ notes. AreLeft c.carry_out.new.self.world.state.goals (IsBoundBy c.in-Ok.change) notes c.carry_out.new.self.notes) stays.notes left.notes;
    }

pub returns-in-Ok-carry_out-clause-moves : goal.returns-in-Ok-carry_out-clause-moves
returns-in-Ok-carry_out-clause-moves c = inr (moved c)

pub returns-in-Ok-carry_out-clause-answer : goal.returns-in-Ok-carry_out-clause-answer
returns-in-Ok-carry_out-clause-answer c = let asked = c.in-Ok.ensures.answer.0 in does asked.0 asked.1 (moved c).changed c.in-Ok-carry_out.ensures.told

pub returns-in-Err-carry_out-clause-answer : goal.returns-in-Err-carry_out-clause-answer
returns-in-Err-carry_out-clause-answer c =
    not_obeyed c.args.self.now.world (command_of c.args.command.now) fault.Memory c.carry_out.new.self.world (inl refl) (c.in-Err-carry_out.ensures.stays.world ∙ c.in-Ok.ensures.stays.world)
