use Rattle.ghc_core.proofs.Words.{◌≡◌, refl, inr, ap, sym, subst, ◌∙◌, Some, arith, Fault, Record, loaded_opening, same_value, not_both as both_found, Core, RedoFails, LacksGoal, asking_fires, Comes as comes, Coming, CanChange}
use Rattle.std.specs.FinMap as finite
use Rattle.ghc_term.proofs.ListsLemmas.{not_both}
use Rattle.ghc_core.proofs.Refusing.{not_shelved, no_goal, no_variable, changed, full}
use Rattle.ghc_core.proofs.Reaching.{reached_good}
use Rattle.ghc_core.proofs.Replayed.{replayed}
use Rattle.ghc_core.proofs.Redone.{said_not_shelved, said_no_goal, known_not_refused}
use Rattle.ghc_core.proofs.Reversing.{redo_fails_once}
use Rattle.ghc_core.proofs.core_state.Core.prepare_redo.Goals as goal

pub returns-in_default-clause-fault : goal.returns-in_default-clause-fault
returns-in_default-clause-fault c = inr (subst (λ (x : Core). RedoFails x.world c.args.number Fault.NotShelved) c.self.view_is (not_shelved (sym c.in_default.ensures)))

pub returns-in_default-clause-fired : goal.returns-in_default-clause-fired
returns-in_default-clause-fired c shelved there unknown = absurd (shelved (subst (λ (x : Core). RedoFails x.world c.args.number Fault.NotShelved) c.self.view_is (not_shelved (sym c.in_default.ensures))))

pub returns-then-lacks_goal-clause-fault : goal.returns-then-lacks_goal-clause-fault
returns-then-lacks_goal-clause-fault c =
    let lacks = subst (λ m. LacksGoal m c.in-Some.shelved.now) c.goals.ensures (c.lacks_goal.ensures.0 c.if-lacks_goal.true) in
    inr (subst (λ (x : Core). RedoFails x.world c.args.number Fault.NoGoal) c.self.view_is (no_goal c.in-Some.shelved.now lacks.0 (sym c.in-Some.ensures) lacks.1 lacks.2))

pub returns-then-lacks_goal-clause-fired : goal.returns-then-lacks_goal-clause-fired
returns-then-lacks_goal-clause-fired c shelved there unknown =
    let lacks = subst (λ m. LacksGoal m c.in-Some.shelved.now) c.goals.ensures (c.lacks_goal.ensures.0 c.if-lacks_goal.true) in
    absurd (there (subst (λ (x : Core). RedoFails x.world c.args.number Fault.NoGoal) c.self.view_is (no_goal c.in-Some.shelved.now lacks.0 (sym c.in-Some.ensures) lacks.1 lacks.2)))

pub returns-then-not-names_known-clause-fault : goal.returns-then-not-names_known-clause-fault
returns-then-not-names_known-clause-fault c =
    inr (subst (λ (x : Core). RedoFails x.world c.args.number Fault.NoVariable) c.self.view_is (no_variable c.in-Some.shelved.now (sym c.in-Some.ensures)
    (λ g named none. not_both c.lacks_goal.result c.if-lacks_goal.false (c.lacks_goal.ensures.1 (subst (λ m. LacksGoal m c.in-Some.shelved.now) (sym c.goals.ensures) (g, named, none))))
    (λ known. not_both c.names_known.result c.if-not-names_known.true (c.names_known.ensures.1 known))))

pub returns-then-not-names_known-clause-fired : goal.returns-then-not-names_known-clause-fired
returns-then-not-names_known-clause-fired c shelved there unknown =
    absurd (unknown (subst (λ (x : Core). RedoFails x.world c.args.number Fault.NoVariable) c.self.view_is (no_variable c.in-Some.shelved.now (sym c.in-Some.ensures)
    (λ g named none. not_both c.lacks_goal.result c.if-lacks_goal.false (c.lacks_goal.ensures.1 (subst (λ m. LacksGoal m c.in-Some.shelved.now) (sym c.goals.ensures) (g, named, none))))
    (λ known. not_both c.names_known.result c.if-not-names_known.true (c.names_known.ensures.1 known)))))

pub fires-requires : goal.fires-requires
fires-requires c = rw c.deref.ensures (record { asks = λ none. asking_fires c.self.inside.program.value c.self.inside.state.held c.in-Some.shelved.now ((replayed c.self.invariant.standing).asking c.args.number c.in-Some.shelved.now (sym c.in-Some.ensures) none) })

pub returns-then-not-branch-clause-fault : goal.returns-then-not-branch-clause-fault
returns-then-not-branch-clause-fault c =
    let r = c.in-Some.shelved.now in
    inr (subst (λ (x : Core). RedoFails x.world c.args.number Fault.Changed) c.self.view_is (changed r (sym c.in-Some.ensures)
    (λ g named none. not_both c.lacks_goal.result c.if-lacks_goal.false (c.lacks_goal.ensures.1 (subst (λ m. LacksGoal m r) (sym c.goals.ensures) (g, named, none))))
    (c.names_known.ensures.0 c.if-not-names_known.false)
    (λ fires. not_both c.in_ok-fires.field-0 c.if-not-branch.true (c.in_ok-fires.ensures.answer.1 (rw c.deref.ensures fires)))))

pub returns-then-len-ge-KEPT_LIMIT-clause-fault : goal.returns-then-len-ge-KEPT_LIMIT-clause-fault
returns-then-len-ge-KEPT_LIMIT-clause-fault c =
    let count = c.len.ensures.count in
    let many = c.if-len-ge-KEPT_LIMIT.true in
    inr (subst (λ (x : Core). RedoFails x.world c.args.number Fault.Full) c.self.view_is (full c.in-Some.shelved.now (sym c.in-Some.ensures) (c.names_known.ensures.0 c.if-not-names_known.false) (rw c.deref.ensures at (c.in_ok-fires.ensures.answer.0 c.if-not-branch.false)) (omega (arith, count, many))))

pub returns-clause-found : goal.returns-clause-found
returns-clause-found c =
    let r = c.in-Some.shelved.now in
    let number = ((reached_good c.self.invariant.standing).shelf c.args.number r (sym c.in-Some.ensures)).0 in
    let count = c.len.ensures.count in
    let few = c.if-len-ge-KEPT_LIMIT.false in
    let same : c.in_ok-of.field-0 ≡ r = c.in_ok-of.ensures ∙ c.in_ok-share.ensures in
    subst (λ (x : Core). CanChange x.world (comes Coming.Shelved c.in_ok-of.field-0)) c.self.view_is
    (subst (λ (q : Record). CanChange (record { opening = loaded_opening c.self.inside.program.value c.self.inside.query.goals c.self.inside.query.variables c.self.inside.loaded; state = c.self.inside.state.held; kept = c.self.inside.records.held; shelf = c.self.inside.shelf.held; next = c.self.inside.next; journal = c.self.inside.journal.held }) (comes Coming.Shelved q)) (sym same)
    (subst (λ n. finite.get c.self.inside.shelf.held n ≡ Some r) (sym number) (sym c.in-Some.ensures), rw c.deref.ensures at (c.in_ok-fires.ensures.answer.0 c.if-not-branch.false), omega (arith, count, few), c.names_known.ensures.0 c.if-not-names_known.false))

pub returns-clause-step : goal.returns-clause-step
returns-clause-step c =
    ap (λ (q : Record). q.number) (c.in_ok-of.ensures ∙ c.in_ok-share.ensures) ∙ ((reached_good c.self.invariant.standing).shelf c.args.number c.in-Some.shelved.now (sym c.in-Some.ensures)).0

pub returns-clause-not_shelved : goal.returns-clause-not_shelved
returns-clause-not_shelved c fails =
    let none = said_not_shelved (subst (λ (x : Core). RedoFails x.world c.args.number Fault.NotShelved) (sym c.self.view_is) fails) refl in
    absurd (both_found (sym c.in-Some.ensures) none)

pub returns-clause-no_goal : goal.returns-clause-no_goal
returns-clause-no_goal c fails =
    let said = said_no_goal (subst (λ (x : Core). RedoFails x.world c.args.number Fault.NoGoal) (sym c.self.view_is) fails) refl in
    let lacks = subst (λ (q : Record). LacksGoal c.self.inside.state.held.goals q) (same_value said.1 (sym c.in-Some.ensures)) said.2 in
    absurd (not_both c.lacks_goal.result c.if-lacks_goal.false (c.lacks_goal.ensures.1 (subst (λ m. LacksGoal m c.in-Some.shelved.now) (sym c.goals.ensures) lacks)))

pub returns-then-lacks_goal-clause-no_variable : goal.returns-then-lacks_goal-clause-no_variable
returns-then-lacks_goal-clause-no_variable c fails =
    let lacks = subst (λ m. LacksGoal m c.in-Some.shelved.now) c.goals.ensures (c.lacks_goal.ensures.0 c.if-lacks_goal.true) in
    let first = subst (λ (x : Core). RedoFails x.world c.args.number Fault.NoGoal) c.self.view_is (no_goal c.in-Some.shelved.now lacks.0 (sym c.in-Some.ensures) lacks.1 lacks.2) in
    let clash : Fault.NoGoal ≡ Fault.NoVariable = redo_fails_once c.args.self.now.world c.args.number first fails in
    cc

pub returns-in_err-fires-clause-no_variable : goal.returns-in_err-fires-clause-no_variable
returns-in_err-fires-clause-no_variable c fails =
    absurd (known_not_refused c.in-Some.shelved.now (sym c.in-Some.ensures) (c.names_known.ensures.0 c.if-not-names_known.false) (subst (λ (x : Core). RedoFails x.world c.args.number Fault.NoVariable) (sym c.self.view_is) fails))

pub returns-then-not-branch-clause-no_variable : goal.returns-then-not-branch-clause-no_variable
returns-then-not-branch-clause-no_variable c fails =
    absurd (known_not_refused c.in-Some.shelved.now (sym c.in-Some.ensures) (c.names_known.ensures.0 c.if-not-names_known.false) (subst (λ (x : Core). RedoFails x.world c.args.number Fault.NoVariable) (sym c.self.view_is) fails))

pub returns-then-len-ge-KEPT_LIMIT-clause-no_variable : goal.returns-then-len-ge-KEPT_LIMIT-clause-no_variable
returns-then-len-ge-KEPT_LIMIT-clause-no_variable c fails =
    absurd (known_not_refused c.in-Some.shelved.now (sym c.in-Some.ensures) (c.names_known.ensures.0 c.if-not-names_known.false) (subst (λ (x : Core). RedoFails x.world c.args.number Fault.NoVariable) (sym c.self.view_is) fails))

pub returns-in_err-share-clause-no_variable : goal.returns-in_err-share-clause-no_variable
returns-in_err-share-clause-no_variable c fails =
    absurd (known_not_refused c.in-Some.shelved.now (sym c.in-Some.ensures) (c.names_known.ensures.0 c.if-not-names_known.false) (subst (λ (x : Core). RedoFails x.world c.args.number Fault.NoVariable) (sym c.self.view_is) fails))

pub returns-in_err-of-clause-no_variable : goal.returns-in_err-of-clause-no_variable
returns-in_err-of-clause-no_variable c fails =
    absurd (known_not_refused c.in-Some.shelved.now (sym c.in-Some.ensures) (c.names_known.ensures.0 c.if-not-names_known.false) (subst (λ (x : Core). RedoFails x.world c.args.number Fault.NoVariable) (sym c.self.view_is) fails))

pub returns-clause-no_variable : goal.returns-clause-no_variable
returns-clause-no_variable c fails =
    absurd (known_not_refused c.in-Some.shelved.now (sym c.in-Some.ensures) (c.names_known.ensures.0 c.if-not-names_known.false) (subst (λ (x : Core). RedoFails x.world c.args.number Fault.NoVariable) (sym c.self.view_is) fails))
