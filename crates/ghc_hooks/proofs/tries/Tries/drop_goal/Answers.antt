use Rattle.ghc_hooks.proofs.Words.{◌∙◌, sym, subst, arith, AreUnblocked}
use Rattle.ghc_hooks.proofs.Fitting.{one_note_less, nothing_gone}
use Rattle.ghc_hooks.proofs.Changing.{fit_dropped, fit_unmarked}
use Rattle.ghc_hooks.proofs.tries.Tries.drop_goal.Goals as goal

pub invariant_of-self : goal.invariant_of-self
invariant_of-self c =
    let t = c.self.inside in (
      fit_unmarked t.notes.held t.untried c.remove.new.self t.looks c.self.invariant.0 c.args.goal c.remove.ensures.held c.remove.ensures.room,
      c.self.invariant.1,
    )

pub returns-then-remove-clause-notes : goal.returns-then-remove-clause-notes
returns-then-remove-clause-notes c = grind (arith, nothing_gone)

pub invariant_of-self-in-Some : goal.invariant_of-self-in-Some
invariant_of-self-in-Some c =
    let t = c.self.inside in (
      fit_dropped t.notes.held t.untried c.remove.new.self t.looks c.self.invariant.0 c.remove-2.new.self.held c.remove_all.new.self c.args.goal c.in-Some.note c.members.result.now (c.members.ensures.all ∙ c.looked.ensures)
          (sym c.in-Some.ensures.value) c.remove-2.ensures.held c.remove_all.ensures c.remove.ensures.held c.remove.ensures.room,
      subst (λ m. AreUnblocked m c.remove-in-Some.new.self) (sym c.remove-2.ensures.held)
          (c.remove-in-Some.ensures t.notes.held c.self.invariant.1 (c.in-Some.note, sym c.in-Some.ensures.value, c.verdict.ensures)),
    )

pub invariant_of-self-in_default : goal.invariant_of-self-in_default
invariant_of-self-in_default c =
    let t = c.self.inside in
    rw (c.remove-2.ensures.held ∙ nothing_gone t.notes.held c.args.goal (sym c.in_default.ensures.value)) (
      fit_unmarked t.notes.held t.untried c.remove.new.self t.looks c.self.invariant.0 c.args.goal c.remove.ensures.held c.remove.ensures.room,
      c.self.invariant.1,
    )

pub returns-in-Some-clause-room : goal.returns-in-Some-clause-room
returns-in-Some-clause-room c = grind (arith, one_note_less)

pub returns-in_default-clause-room : goal.returns-in_default-clause-room
returns-in_default-clause-room c = grind (arith, nothing_gone)
