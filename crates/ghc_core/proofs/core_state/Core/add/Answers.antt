use Rattle.ghc_core.proofs.Words.{◌≡◌, ◌<◌, ◌+◌, [], ◌∷◌, ◌++◌, refl, subst, sym, ap, ◌∙◌, In, State, Record, numbers, redid, loaded_opening, number_in, AreLeft, MakesGoal, Binds, World, Core, IsConsistent, AreCarriedOver, told, Comes as comes, Coming, with_coming, CanChange}
use Rattle.std.specs.FinMap as finite
use Rattle.ghc_core.proofs.Arriving.{comes_new, comes_acyclic, comes_consistent, comes_left}
use Rattle.ghc_core.proofs.Standing.{standing_replay}
use Rattle.ghc_core.proofs.Taking.{unbound_there}
use Rattle.ghc_core.proofs.Preparing.{same_world}
use Rattle.ghc_core.proofs.Exactness.{unnoted, not_there}
use Rattle.ghc_core.proofs.core_state.Core.add.Goals as goal

pub take-step-requires-clause-acyclic : goal.take-step-requires-clause-acyclic
take-step-requires-clause-acyclic c = comes_acyclic _ c.self.invariant.standing c.args.from c.args.addition (subst (λ (x : Core). CanChange x.world (comes c.args.from c.args.addition)) (sym c.self.view_is) c.requires.found)

pub put-requires-clause-new : goal.put-requires-clause-new
put-requires-clause-new c r i same =
    let new = comes_new _ c.self.invariant.standing c.args.from c.args.addition (subst (λ (x : Core). CanChange x.world (comes c.args.from c.args.addition)) (sym c.self.view_is) c.requires.found) in
    new.own (subst (λ n. In n (numbers c.self.inside.records.held)) (same ∙ ap (λ (q : Record). q.number) c.take-step.ensures.record) (number_in c.self.inside.records.held r i))

pub put-requires-clause-room : goal.put-requires-clause-room
put-requires-clause-room c = subst (λ (x : Core). 0 < x.room.kept) (sym c.self.view_is) c.requires.room.1

pub put-requires-clause-unbound : goal.put-requires-clause-unbound
put-requires-clause-unbound c a x i bound again =
    let new = comes_new _ c.self.invariant.standing c.args.from c.args.addition (subst (λ (x : Core). CanChange x.world (comes c.args.from c.args.addition)) (sym c.self.view_is) c.requires.found) in
    unbound_there _ _ _ _ (standing_replay _ c.self.invariant.standing) c.args.addition new.fires a x i bound (subst (λ r. Binds r x) c.take-step.ensures.record again)

pub carry_over-requires-clause-new : goal.carry_over-requires-clause-new
carry_over-requires-clause-new c g made =
    let w : World = record { opening = loaded_opening c.self.inside.program.value c.self.inside.query.goals c.self.inside.query.variables c.self.inside.loaded; state = c.self.inside.state.held; kept = c.self.inside.records.held; shelf = c.self.inside.shelf.held; next = c.self.inside.next; journal = c.self.inside.journal.held } in
    let new = comes_new w c.self.invariant.standing c.args.from c.args.addition (subst (λ (x : Core). CanChange x.world (comes c.args.from c.args.addition)) (sym c.self.view_is) c.requires.found) in
    unnoted c.self.invariant.exact g (not_there w c.args.addition new.fires new.number g (subst (λ r. MakesGoal r g) c.take-step.ensures.record made))

pub invariant_of-self : goal.invariant_of-self
invariant_of-self c =
    let w : World = record { opening = loaded_opening c.self.inside.program.value c.self.inside.query.goals c.self.inside.query.variables c.self.inside.loaded; state = c.self.inside.state.held; kept = c.self.inside.records.held; shelf = c.self.inside.shelf.held; next = c.self.inside.next; journal = c.self.inside.journal.held } in
    let v : World = record { opening = loaded_opening c.self.inside.program.value c.self.inside.query.goals c.self.inside.query.variables c.self.inside.loaded; state = c.take-step.new.self.held; kept = c.put.new.self.held; shelf = c.self.inside.shelf.held; next = c.self.inside.next + 1; journal = c.put-in-Next.new.self.held } in
    let left : v ≡ with_coming Coming.Next c.args.addition w = same_world (loaded_opening c.self.inside.program.value c.self.inside.query.goals c.self.inside.query.variables c.self.inside.loaded) (c.self.inside.next + 1) c.take-step.ensures.state
    (c.put.ensures ∙ ap (λ (r : Record). c.self.inside.records.held ++ r ∷ []) c.take-step.ensures.record) refl
    (c.put-in-Next.ensures.held ∙ ap (λ e. c.self.inside.journal.held ++ e ∷ []) c.take-step.ensures.entry) in
    let can : CanChange w (comes Coming.Next c.args.addition) = subst (λ from. CanChange w (comes from c.args.addition)) c.in-Next.is (subst (λ (x : Core). CanChange x.world (comes c.args.from c.args.addition)) (sym c.self.view_is) c.requires.found) in
    let carried = subst (λ r. AreCarriedOver r c.self.inside.tries c.carry_over.new.tries) c.take-step.ensures.record c.carry_over.ensures in
    subst (λ u. IsConsistent u c.carry_over.new.tries.notes c.carry_over.new.tries.untried c.tell.new.self) (sym left)
    (comes_consistent w c.self.invariant.standing c.self.inside.tries c.carry_over.new.tries c.self.invariant.exact Coming.Next c.args.addition can carried c.self.inside.streams c.tell.new.self c.self.invariant.streams
    (c.tell.ensures ∙ ap (λ (r : Record). told r c.self.inside.streams) c.take-step.ensures.record))

pub returns-in-Next-clause-world : goal.returns-in-Next-clause-world
returns-in-Next-clause-world c =
    let w : World = record { opening = loaded_opening c.self.inside.program.value c.self.inside.query.goals c.self.inside.query.variables c.self.inside.loaded; state = c.self.inside.state.held; kept = c.self.inside.records.held; shelf = c.self.inside.shelf.held; next = c.self.inside.next; journal = c.self.inside.journal.held } in
    let v : World = record { opening = loaded_opening c.self.inside.program.value c.self.inside.query.goals c.self.inside.query.variables c.self.inside.loaded; state = c.take-step.new.self.held; kept = c.put.new.self.held; shelf = c.self.inside.shelf.held; next = c.self.inside.next + 1; journal = c.put-in-Next.new.self.held } in
    let left : v ≡ with_coming Coming.Next c.args.addition w = same_world (loaded_opening c.self.inside.program.value c.self.inside.query.goals c.self.inside.query.variables c.self.inside.loaded) (c.self.inside.next + 1) c.take-step.ensures.state
    (c.put.ensures ∙ ap (λ (r : Record). c.self.inside.records.held ++ r ∷ []) c.take-step.ensures.record) refl
    (c.put-in-Next.ensures.held ∙ ap (λ e. c.self.inside.journal.held ++ e ∷ []) c.take-step.ensures.entry) in
    left ∙ ap (λ from. with_coming from c.args.addition w) (sym c.in-Next.is) ∙ ap (λ (x : Core). with_coming c.args.from c.args.addition x.world) c.self.view_is

pub returns-in-Next-clause-notes : goal.returns-in-Next-clause-notes
returns-in-Next-clause-notes c =
    let carried = subst (λ r. AreCarriedOver r c.self.inside.tries c.carry_over.new.tries) c.take-step.ensures.record c.carry_over.ensures in
    subst (λ (x : Core). AreLeft c.take-step.new.self.held.goals (Binds c.args.addition) x.notes c.carry_over.new.tries.notes) c.self.view_is
    (subst (λ (t : State). AreLeft t.goals (Binds c.args.addition) c.self.inside.tries.notes c.carry_over.new.tries.notes) (sym c.take-step.ensures.state)
    (comes_left _ c.self.invariant.standing c.self.inside.tries c.carry_over.new.tries c.self.invariant.exact c.args.from c.args.addition (subst (λ (x : Core). CanChange x.world (comes c.args.from c.args.addition)) (sym c.self.view_is) c.requires.found) carried))

pub invariant_of-self-in-Shelved-1 : goal.invariant_of-self-in-Shelved-1
invariant_of-self-in-Shelved-1 c =
    let w : World = record { opening = loaded_opening c.self.inside.program.value c.self.inside.query.goals c.self.inside.query.variables c.self.inside.loaded; state = c.self.inside.state.held; kept = c.self.inside.records.held; shelf = c.self.inside.shelf.held; next = c.self.inside.next; journal = c.self.inside.journal.held } in
    let number = c.number-number.ensures ∙ ap (λ (r : Record). r.number) c.take-step.ensures.record in
    let v : World = record { opening = loaded_opening c.self.inside.program.value c.self.inside.query.goals c.self.inside.query.variables c.self.inside.loaded; state = c.take-step.new.self.held; kept = c.put.new.self.held; shelf = c.remove.new.self.held; next = c.self.inside.next; journal = c.put-in-Shelved.new.self.held } in
    let left : v ≡ with_coming Coming.Shelved c.args.addition w = same_world (loaded_opening c.self.inside.program.value c.self.inside.query.goals c.self.inside.query.variables c.self.inside.loaded) c.self.inside.next c.take-step.ensures.state
    (c.put.ensures ∙ ap (λ (r : Record). c.self.inside.records.held ++ r ∷ []) c.take-step.ensures.record)
    (c.remove.ensures.held ∙ ap (finite.remove c.self.inside.shelf.held) number)
    (c.put-in-Shelved.ensures.held ∙ ap (λ n. c.self.inside.journal.held ++ redid n ∷ []) number) in
    let can : CanChange w (comes Coming.Shelved c.args.addition) = subst (λ from. CanChange w (comes from c.args.addition)) c.in-Shelved.is (subst (λ (x : Core). CanChange x.world (comes c.args.from c.args.addition)) (sym c.self.view_is) c.requires.found) in
    let carried = subst (λ r. AreCarriedOver r c.self.inside.tries c.carry_over.new.tries) c.take-step.ensures.record c.carry_over.ensures in
    subst (λ u. IsConsistent u c.carry_over.new.tries.notes c.carry_over.new.tries.untried c.tell.new.self) (sym left)
    (comes_consistent w c.self.invariant.standing c.self.inside.tries c.carry_over.new.tries c.self.invariant.exact Coming.Shelved c.args.addition can carried c.self.inside.streams c.tell.new.self c.self.invariant.streams
    (c.tell.ensures ∙ ap (λ (r : Record). told r c.self.inside.streams) c.take-step.ensures.record))

pub returns-in-Shelved-clause-world : goal.returns-in-Shelved-clause-world
returns-in-Shelved-clause-world c =
    let w : World = record { opening = loaded_opening c.self.inside.program.value c.self.inside.query.goals c.self.inside.query.variables c.self.inside.loaded; state = c.self.inside.state.held; kept = c.self.inside.records.held; shelf = c.self.inside.shelf.held; next = c.self.inside.next; journal = c.self.inside.journal.held } in
    let number = c.number-number.ensures ∙ ap (λ (r : Record). r.number) c.take-step.ensures.record in
    let v : World = record { opening = loaded_opening c.self.inside.program.value c.self.inside.query.goals c.self.inside.query.variables c.self.inside.loaded; state = c.take-step.new.self.held; kept = c.put.new.self.held; shelf = c.remove.new.self.held; next = c.self.inside.next; journal = c.put-in-Shelved.new.self.held } in
    let left : v ≡ with_coming Coming.Shelved c.args.addition w = same_world (loaded_opening c.self.inside.program.value c.self.inside.query.goals c.self.inside.query.variables c.self.inside.loaded) c.self.inside.next c.take-step.ensures.state
    (c.put.ensures ∙ ap (λ (r : Record). c.self.inside.records.held ++ r ∷ []) c.take-step.ensures.record)
    (c.remove.ensures.held ∙ ap (finite.remove c.self.inside.shelf.held) number)
    (c.put-in-Shelved.ensures.held ∙ ap (λ n. c.self.inside.journal.held ++ redid n ∷ []) number) in
    left ∙ ap (λ from. with_coming from c.args.addition w) (sym c.in-Shelved.is) ∙ ap (λ (x : Core). with_coming c.args.from c.args.addition x.world) c.self.view_is

pub returns-in-Shelved-clause-notes : goal.returns-in-Shelved-clause-notes
returns-in-Shelved-clause-notes c =
    let carried = subst (λ r. AreCarriedOver r c.self.inside.tries c.carry_over.new.tries) c.take-step.ensures.record c.carry_over.ensures in
    subst (λ (x : Core). AreLeft c.take-step.new.self.held.goals (Binds c.args.addition) x.notes c.carry_over.new.tries.notes) c.self.view_is
    (subst (λ (t : State). AreLeft t.goals (Binds c.args.addition) c.self.inside.tries.notes c.carry_over.new.tries.notes) (sym c.take-step.ensures.state)
    (comes_left _ c.self.invariant.standing c.self.inside.tries c.carry_over.new.tries c.self.invariant.exact c.args.from c.args.addition (subst (λ (x : Core). CanChange x.world (comes c.args.from c.args.addition)) (sym c.self.view_is) c.requires.found) carried))
