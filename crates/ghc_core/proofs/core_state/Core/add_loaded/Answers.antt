use Rattle.ghc_core.proofs.Words.{◌≡◌, ◌<◌, [], ◌∷◌, ◌++◌, subst, sym, ap, ◌∙◌, In, Record, numbers, loaded_opening, step_of, AreLeft, MakesGoal, Binds, World, Opens, Core, IsConsistent, AreCarriedOver, CanLoad, with_loaded, told, number_in}
use Rattle.ghc_core.proofs.Standing.{standing_replay, standing_well_made}
use Rattle.ghc_core.proofs.Taking.{unbound_there}
use Rattle.ghc_core.proofs.StreamNames.{stands_over}
use Rattle.ghc_core.proofs.Exactness.{unnoted, not_there, over_exact, over_left}
use Rattle.ghc_core.proofs.Loading.{loaded_opens, loaded_stands, loaded_is_new, loaded_world, none_noted}
use Rattle.ghc_core.proofs.core_state.Core.add_loaded.Goals as goal

-- the world before the step, and what is known of it
abbrev before : goal.After-put-2 → World
before c = record { opening = loaded_opening c.self.inside.program.value c.self.inside.query.goals c.self.inside.query.variables c.self.inside.loaded; state = c.self.inside.state.held; kept = c.self.inside.records.held; shelf = c.self.inside.shelf.held; next = c.self.inside.next; journal = c.self.inside.journal.held }

opened : (c : goal.After-put-2) → Opens (before c).opening (before c)
opened c = subst (λ (x : Core). Opens x.world.opening x.world) (sym c.self.view_is) c.requires.opened

found : (c : goal.After-put-2) → CanLoad (before c) c.args.addition
found c = subst (λ (x : Core). CanLoad x.world c.args.addition) (sym c.self.view_is) c.requires.found

pub take-taken-requires-clause-acyclic : goal.take-taken-requires-clause-acyclic
take-taken-requires-clause-acyclic c =
    (standing_well_made _ (loaded_stands _ c.self.invariant.standing c.args.addition (subst (λ (x : Core). Opens x.world.opening x.world) (sym c.self.view_is) c.requires.opened) (subst (λ (x : Core). CanLoad x.world c.args.addition) (sym c.self.view_is) c.requires.found))).acyclic

pub put-requires-clause-new : goal.put-requires-clause-new
put-requires-clause-new c r i same =
    let found = subst (λ (x : Core). CanLoad x.world c.args.addition) (sym c.self.view_is) c.requires.found in
    let taken = ap (λ (q : Record). q.number) c.take-taken.ensures.record in
    found.own (subst (λ n. In n (numbers c.self.inside.records.held)) (same ∙ taken) (number_in c.self.inside.records.held r i))

pub put-requires-clause-room : goal.put-requires-clause-room
put-requires-clause-room c = subst (λ (x : Core). 0 < x.room.kept) (sym c.self.view_is) c.requires.room.1

pub put-requires-clause-unbound : goal.put-requires-clause-unbound
put-requires-clause-unbound c a x i bound again =
    let found = subst (λ (x : Core). CanLoad x.world c.args.addition) (sym c.self.view_is) c.requires.found in
    unbound_there _ _ _ _ (standing_replay _ c.self.invariant.standing) c.args.addition found.possible a x i bound (subst (λ r. Binds r x) c.take-taken.ensures.record again)

pub carry_over-requires-clause-new : goal.carry_over-requires-clause-new
carry_over-requires-clause-new c g made =
    let w : World = record { opening = loaded_opening c.self.inside.program.value c.self.inside.query.goals c.self.inside.query.variables c.self.inside.loaded; state = c.self.inside.state.held; kept = c.self.inside.records.held; shelf = c.self.inside.shelf.held; next = c.self.inside.next; journal = c.self.inside.journal.held } in
    let found = subst (λ (x : Core). CanLoad x.world c.args.addition) (sym c.self.view_is) c.requires.found in
    unnoted c.self.invariant.exact g (not_there w c.args.addition found.possible (loaded_is_new w c.self.invariant.standing c.args.addition found) g (subst (λ r. MakesGoal r g) c.take-taken.ensures.record made))

-- the world that is left is the one with the step
left : (c : goal.After-put-2)
    → record { opening = loaded_opening c.self.inside.program.value c.self.inside.query.goals c.self.inside.query.variables c.args.loaded; state = c.take-taken.new.self.held; kept = c.put.new.self.held; shelf = c.self.inside.shelf.held; next = c.self.inside.next; journal = c.put-2.new.self.held }
    ≡ with_loaded c.args.addition (before c)
left c =
    loaded_world c.args.addition (before c) (subst (λ (x : Core). c.args.loaded ≡ record { steps = x.world.opening.steps ++ step_of c.args.addition ∷ []; next = x.world.opening.next }) (sym c.self.view_is) c.requires.loaded)
    c.take-taken.ensures.state
    (c.put.ensures ∙ ap (λ (r : Record). c.self.inside.records.held ++ r ∷ []) c.take-taken.ensures.record)
    (c.put-2.ensures.held ∙ ap (λ e. c.self.inside.journal.held ++ e ∷ []) c.take-taken.ensures.entry)

-- notes and marks were carried over the step
carried : (c : goal.After-put-2) → AreCarriedOver c.args.addition c.self.inside.tries c.carry_over.new.tries
carried c = subst (λ r. AreCarriedOver r c.self.inside.tries c.carry_over.new.tries) c.take-taken.ensures.record c.carry_over.ensures

pub invariant_of-self : goal.invariant_of-self
invariant_of-self c =
    subst (λ w. IsConsistent w c.carry_over.new.tries.notes c.carry_over.new.tries.untried c.tell.new.self) (sym (left c)) (record {
      standing = loaded_stands (before c) c.self.invariant.standing c.args.addition (opened c) (found c);
      exact = over_exact (before c) c.args.addition (found c).possible (loaded_is_new (before c) c.self.invariant.standing c.args.addition (found c)) c.self.inside.tries c.carry_over.new.tries c.self.invariant.exact (carried c);
      streams = stands_over (before c) c.self.invariant.standing c.args.addition (found c).possible c.self.inside.streams c.tell.new.self
          (c.tell.ensures ∙ ap (λ (r : Record). told r c.self.inside.streams) c.take-taken.ensures.record) c.self.invariant.streams;
    })

pub returns-clause-world : goal.returns-clause-world
returns-clause-world c = left c ∙ ap (λ (x : Core). with_loaded c.args.addition x.world) c.self.view_is

pub returns-clause-opens : goal.returns-clause-opens
returns-clause-opens c = subst (λ w. Opens w.opening w) (sym (left c)) (loaded_opens (before c) c.self.invariant.standing c.args.addition (opened c) (found c))

pub returns-clause-notes : goal.returns-clause-notes
returns-clause-notes c none =
    none_noted c.take-taken.new.self.held.goals (Binds c.args.addition) c.self.inside.tries.notes c.carry_over.new.tries.notes
    (subst (λ (w : World). AreLeft w.state.goals (Binds c.args.addition) c.self.inside.tries.notes c.carry_over.new.tries.notes) (sym (left c))
    (over_left (before c) c.args.addition (found c).possible (loaded_is_new (before c) c.self.invariant.standing c.args.addition (found c)) c.self.inside.tries c.carry_over.new.tries c.self.invariant.exact (carried c)))
    (ap (λ (x : Core). x.notes) c.self.view_is ∙ none)
