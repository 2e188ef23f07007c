use Rattle.ghc_hooks.proofs.Words.{◌∙◌, sym, subst, arith, AreUnblocked}
use Rattle.ghc_hooks.proofs.Fitting.{one_note_less}
use Rattle.ghc_hooks.proofs.Changing.{fit_woken}
use Rattle.ghc_hooks.proofs.tries.Tries.wake_goal.Goals as goal

pub put-requires : goal.put-requires
put-requires c = grind (arith, one_note_less)

pub invariant_of-self-2 : goal.invariant_of-self-2
invariant_of-self-2 c =
    let t = c.self.inside in (
      fit_woken t.notes.held t.untried c.put.new.self t.looks c.self.invariant.0 c.remove.new.self.held c.remove_all.new.self c.args.goal c.in-Some.note c.members.result.now (c.members.ensures.all ∙ c.looked.ensures)
          (sym c.in-Some.ensures.value) c.remove.ensures.held c.remove_all.ensures c.put.ensures.held c.put.ensures.room,
      subst (λ m. AreUnblocked m c.remove-2.new.self) (sym c.remove.ensures.held)
          (c.remove-2.ensures t.notes.held c.self.invariant.1 (c.in-Some.note, sym c.in-Some.ensures.value, c.verdict.ensures)),
    )

pub returns-clause-room : goal.returns-clause-room
returns-clause-room c = grind (arith, one_note_less)
