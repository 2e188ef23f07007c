use Rattle.ghc_core.proofs.Words.{◌≡◌, sym, subst, ap, ◌∙◌, Some, World, Comes as comes, Coming, AreLeft, Binds, stepped, to_redo, does, with_coming, CanChange}
use Rattle.std.specs.FinMap as finite
use Rattle.ghc_core.proofs.core_state.Core.redo.Goals as goal

pub returns-clause-ok : goal.returns-clause-ok
returns-clause-ok c =
    let left = c.in_ok-make.ensures.changed ∙ ap (with_coming Coming.Shelved c.in-Ok.addition) c.in-Ok.ensures.stays.world in
    does (to_redo c.in-Ok.ensures.step) c.in-Ok.ensures.found left (ap stepped (sym c.in-Ok.ensures.step))

pub returns-clause-notes : goal.returns-clause-notes
returns-clause-notes c =
    let r = c.in-Ok.addition in (
      r,
      subst (λ n. finite.get c.args.self.now.world.shelf n ≡ Some r) c.in-Ok.ensures.step c.in-Ok.ensures.found.0,
      subst (λ notes. AreLeft c.make.new.self.world.state.goals (Binds r) notes c.make.new.self.notes) c.in-Ok.ensures.stays.notes c.in_ok-make.ensures.notes,
    )

pub make-requires : goal.make-requires
make-requires c = record { found = subst (λ (w : World). CanChange w (comes Coming.Shelved c.in-Ok.addition)) (sym c.in-Ok.ensures.stays.world) c.in-Ok.ensures.found }

pub returns-in-Err-clause-no_goal : goal.returns-in-Err-clause-no_goal
returns-in-Err-clause-no_goal c fails =
    let told = c.in-Err.ensures.no_goal fails in
    (cc told.0, told.1)

pub returns-in-Err-clause-no_variable : goal.returns-in-Err-clause-no_variable
returns-in-Err-clause-no_variable c fails =
    let told = c.in-Err.ensures.no_variable fails in
    (cc told.0, told.1)
