use Rattle.ghc_core.proofs.Words.{◌≡◌, ◌<◌, ◌+◌, [], ◌∷◌, ◌++◌, refl, subst, sym, ap, ◌∙◌, In, numbers, loaded_opening, number_in, AreLeft, Binds, State, World, Core, IsConsistent, Comes as comes, Coming, with_coming, CanChange}
use Rattle.ghc_records.specs.Journal.{took, step_of}
use Rattle.ghc_core.proofs.Arriving.{comes_new, comes_acyclic, comes_consistent, comes_left}
use Rattle.ghc_core.proofs.Standing.{standing_replay}
use Rattle.ghc_core.proofs.Taking.{unbound_there}
use Rattle.ghc_core.proofs.Preparing.{same_world}
use Rattle.ghc_core.proofs.Exactness.{unnoted, not_there}
use Rattle.ghc_core.proofs.core_state.Core.add_next.Goals as goal

pub take_step-requires-clause-acyclic : goal.take_step-requires-clause-acyclic
take_step-requires-clause-acyclic c = comes_acyclic _ c.self.invariant.standing Coming.Next c.args.step (subst (λ (x : Core). CanChange x.world (comes Coming.Next c.args.step)) (sym c.self.view_is) c.requires.found)

pub put-requires-clause-new : goal.put-requires-clause-new
put-requires-clause-new c r i same =
    let new = comes_new _ c.self.invariant.standing Coming.Next c.args.step (subst (λ (x : Core). CanChange x.world (comes Coming.Next c.args.step)) (sym c.self.view_is) c.requires.found) in
    new.own (subst (λ n. In n (numbers c.self.inside.records.held)) same (number_in c.self.inside.records.held r i))

pub put-requires-clause-room : goal.put-requires-clause-room
put-requires-clause-room c = subst (λ (x : Core). 0 < x.room.kept) (sym c.self.view_is) c.requires.room.1

pub put-requires-clause-unbound : goal.put-requires-clause-unbound
put-requires-clause-unbound c a x i bound again =
    let new = comes_new _ c.self.invariant.standing Coming.Next c.args.step (subst (λ (x : Core). CanChange x.world (comes Coming.Next c.args.step)) (sym c.self.view_is) c.requires.found) in
    unbound_there _ _ _ _ (standing_replay _ c.self.invariant.standing) c.args.step new.fires a x i bound again

pub carry_over-requires-clause-new : goal.carry_over-requires-clause-new
carry_over-requires-clause-new c g made =
    let w : World = record { opening = loaded_opening c.self.inside.program.value c.self.inside.query.goals c.self.inside.query.variables c.self.inside.loaded; state = c.self.inside.state.held; kept = c.self.inside.records.held; shelf = c.self.inside.shelf.held; next = c.self.inside.next; journal = c.self.inside.journal.held } in
    let new = comes_new w c.self.invariant.standing Coming.Next c.args.step (subst (λ (x : Core). CanChange x.world (comes Coming.Next c.args.step)) (sym c.self.view_is) c.requires.found) in
    unnoted c.self.invariant.exact g (not_there w c.args.step new.fires new.number g made)

pub invariant_of-self : goal.invariant_of-self
invariant_of-self c = rw c.in_err-take_step.ensures.stays c.self.invariant

pub invariant_of-self-2 : goal.invariant_of-self-2
invariant_of-self-2 c =
    let w : World = record { opening = loaded_opening c.self.inside.program.value c.self.inside.query.goals c.self.inside.query.variables c.self.inside.loaded; state = c.self.inside.state.held; kept = c.self.inside.records.held; shelf = c.self.inside.shelf.held; next = c.self.inside.next; journal = c.self.inside.journal.held } in
    let v : World = record { opening = loaded_opening c.self.inside.program.value c.self.inside.query.goals c.self.inside.query.variables c.self.inside.loaded; state = c.take_step.new.self.held; kept = c.put.new.self.held; shelf = c.self.inside.shelf.held; next = c.self.inside.next + 1; journal = c.put-2.new.self.held } in
    let left : v ≡ with_coming Coming.Next c.args.step w = same_world (loaded_opening c.self.inside.program.value c.self.inside.query.goals c.self.inside.query.variables c.self.inside.loaded) (c.self.inside.next + 1) c.in_ok-take_step.ensures.state c.put.ensures refl
    (c.put-2.ensures.held ∙ ap (λ r. c.self.inside.journal.held ++ took (step_of r) ∷ []) c.in_ok-share.ensures) in
    let can : CanChange w (comes Coming.Next c.args.step) = subst (λ (x : Core). CanChange x.world (comes Coming.Next c.args.step)) (sym c.self.view_is) c.requires.found in
    subst (λ u. IsConsistent u c.carry_over.new.tries.notes c.carry_over.new.tries.untried c.tell.new.self) (sym left)
    (comes_consistent w c.self.invariant.standing c.self.inside.tries c.carry_over.new.tries c.self.invariant.exact Coming.Next c.args.step can c.carry_over.ensures c.self.inside.streams c.tell.new.self c.self.invariant.streams c.tell.ensures)

pub returns-clause-world : goal.returns-clause-world
returns-clause-world c =
    let w : World = record { opening = loaded_opening c.self.inside.program.value c.self.inside.query.goals c.self.inside.query.variables c.self.inside.loaded; state = c.self.inside.state.held; kept = c.self.inside.records.held; shelf = c.self.inside.shelf.held; next = c.self.inside.next; journal = c.self.inside.journal.held } in
    let v : World = record { opening = loaded_opening c.self.inside.program.value c.self.inside.query.goals c.self.inside.query.variables c.self.inside.loaded; state = c.take_step.new.self.held; kept = c.put.new.self.held; shelf = c.self.inside.shelf.held; next = c.self.inside.next + 1; journal = c.put-2.new.self.held } in
    let left : v ≡ with_coming Coming.Next c.args.step w = same_world (loaded_opening c.self.inside.program.value c.self.inside.query.goals c.self.inside.query.variables c.self.inside.loaded) (c.self.inside.next + 1) c.in_ok-take_step.ensures.state c.put.ensures refl
    (c.put-2.ensures.held ∙ ap (λ r. c.self.inside.journal.held ++ took (step_of r) ∷ []) c.in_ok-share.ensures) in
    left ∙ ap (λ (x : Core). with_coming Coming.Next c.args.step x.world) c.self.view_is

pub returns-clause-notes : goal.returns-clause-notes
returns-clause-notes c =
    subst (λ (x : Core). AreLeft c.take_step.new.self.held.goals (Binds c.args.step) x.notes c.carry_over.new.tries.notes) c.self.view_is
    (subst (λ (t : State). AreLeft t.goals (Binds c.args.step) c.self.inside.tries.notes c.carry_over.new.tries.notes) (sym c.in_ok-take_step.ensures.state)
    (comes_left _ c.self.invariant.standing c.self.inside.tries c.carry_over.new.tries c.self.invariant.exact Coming.Next c.args.step (subst (λ (x : Core). CanChange x.world (comes Coming.Next c.args.step)) (sym c.self.view_is) c.requires.found) c.carry_over.ensures))
