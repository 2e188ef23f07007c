-- Events can do each change, so they lead where changes lead; and the next step binds what no kept step bound.
use Rattle.ghc_core.proofs.Words.{[], ◌≡◌, ◌⊎◌, List, true, inl, inr, refl, sym, ap, ◌∙◌, subst, arith, Option, Some, None, is_some, nat_cmp_total, VarName, GoalName, Tree, Goal, call, unify, assign, stream, In, value_at, Program, Query, variables_of_goals, Act, ByClause as by_clause, Unified as unified, Assigned as assigned, Given as given, Closed as closed, Asked as asked, NameNoneOf, variables_asked, asks_back, Effect, HasEffect, no_step, effect_each, State, Record, Fires, Replays, first_in, Binds, not_both, results_of, firing, step_binds, Hands, no_hands, IsHand, with_hand, emptied, World, IsNextStep, with_step, Change, Comes as comes, Goes as goes, Reorders as reorders, Coming, Going, CanChange, Changes, Command, input, finish, undo, roll, redo, arrange, ask, propose, commit, command, held, stepped, IsReduction, IsCommitOf, Asks, to_give, to_close, to_undo, to_roll, to_redo, to_arrange, to_ask, told_of, by_hand, by_command, Says, Answers, makes, says, Reaches, from_opening, by_change, IsProper, IsReachable, at_opening, by_event, with_other_hands, NoStepIsFree, choice_of}
use Rattle.std.specs.FinMap as finite
use Rattle.ghc_fire.specs.Proposal.{Proposal}
use Rattle.ghc_core.proofs.Committing.{still_proposed}
use Rattle.ghc_core.proofs.Standing.{standing_apart}

-- The step is that of a commit, or a proper command asks for it.
abbrev IsAsked : World → Record → Type 0
IsAsked w r = ((p : Proposal) × IsCommitOf w p r) ⊎ ((c : Command) × Asks c (comes Coming.Next r) × IsProper (command c))

module _ (w : World) (r : Record) (next : IsNextStep w r) (g : GoalName) (named : r.goal ≡ Some g) where
  by_commit : (b : Goal) (a : Act) (e : Effect) → r.act ≡ a → IsReduction a → finite.get w.state.goals g ≡ Some b
      → HasEffect w.opening.program b a no_step (value_at w.state.store) e → IsAsked w r
  by_commit b a e act reduces there has =
      inl (record { goal = g; consumed = b; act = r.act; effect = e }, ((b, rw act reduces, there, rw act has), next, named, refl))

  by_act : (b : Goal) (a : Act) → r.act ≡ a → r.consumed ≡ Some b → finite.get w.state.goals g ≡ Some b → HasEffect w.opening.program b a r.number (value_at w.state.store) r.effect → IsAsked w r
  by_act (call f ts) (by_clause k) act consumed there has =
      let e = effect_each w.opening.program (call f ts) (by_clause k) r.number no_step (value_at w.state.store) r.effect has in
      by_commit (call f ts) (by_clause k) e.0 act tt there e.1
  by_act (unify l t) unified act consumed there has = by_commit (unify l t) unified r.effect act tt there has
  by_act (assign t x) assigned act consumed there has = by_commit (assign t x) assigned r.effect act tt there has
  by_act (stream k x) (given u) act consumed there has = inr (input k u, to_give (g, x, named, consumed, act), has.1)
  by_act (stream k x) closed act consumed there has = inr (finish k, to_close (g, x, named, consumed, act), tt)
  by_act b a act consumed there has = absurd has

-- Each step that is possible as the next one is asked for, where the world has no variable of no step.
step_asked : (w : World) (r : Record) → NoStepIsFree w → IsNextStep w r → IsAsked w r
step_asked w r free next = elim (firing w.opening.program w.state r next.1) [
  | inl t ↦ by_act w r next t.name t.named t.goal r.act refl t.consumed t.there t.effect
  | inr a ↦
      let none : NameNoneOf no_step a.goals = λ x i no.
      let named : In x (variables_asked r.act) = rw a.act (first_in [] (variables_of_goals a.goals) x i refl) in
      free x (next.3 x (named, λ own. omega (arith, own, no, next.0, next.2.0))) no in
      let back = asks_back w.opening.program a.goals r.number r.effect (λ no. omega (arith, no, next.0, next.2.0)) none a.asks in
      inr (ask back.goals, to_ask (back.ask, back.none, a.none, a.act ∙ ap asked back.same), back.ask)
]

-- The change takes the step of a commit, or a proper command asks for it.
abbrev pub IsDone : World → Change → World → Type 0
IsDone w change v = ((p : Proposal) × (r : Record) × IsCommitOf w p r × (v ≡ with_step r w)) ⊎ ((c : Command) × Asks c change × IsProper (command c))

-- Each change is one that events can do.
pub change_done : (w v : World) (change : Change) → NoStepIsFree w → CanChange w change → Changes w change v → IsDone w change v
change_done w v (comes Coming.Next r) free can e = elim (step_asked w r free can) [ inl q ↦ inl (q.0, r, q.1, e) | inr q ↦ inr q ]
change_done w v (comes Coming.Shelved r) free can e = inr (redo r.number, to_redo refl, tt)
change_done w v (goes Going.Alone gone) free can e = inr (undo gone.first.number, to_undo refl, tt)
change_done w v (goes Going.Together gone) free can e = inr (roll gone.first.number, to_roll refl, tt)
change_done w v (reorders a) free can e = inr (arrange a.order, to_arrange refl, tt)

-- one hand, which holds nothing
abbrev one_hand : Hands
one_hand = record { count = 1; held = finite.empty }

-- one hand, which holds the proposal
abbrev pub holding : Proposal → Hands
holding p = with_hand 1 p one_hand

-- A hand that holds the proposal commits it.
pub hand_commits : {Starved : Type 0} (w v : World) (p : Proposal) (r : Record) → IsCommitOf w p r → v ≡ with_step r w → Answers Starved w (holding p) (commit 1) (stepped w.next) v (emptied 1 (holding p))
hand_commits {Starved} w v p r c e =
    subst (λ u. Answers Starved w (holding p) (commit 1) (stepped w.next) u (emptied 1 (holding p))) (sym e)
    (makes {change = comes Coming.Next r} (omega arith, omega arith) (by_hand (finite.get-insert nat_cmp_total one_hand.held 1 p 1) c) c.1 refl (ap stepped (sym c.1.0)))

-- A commit leaves a reachable world: a hand proposes the step and commits it.
commit_reachable : (w v : World) (p : Proposal) (r : Record) → IsReachable w no_hands → IsCommitOf w p r → v ≡ with_step r w → IsReachable v no_hands
commit_reachable w v p r s c e =
    let h = c.0 in
    let asked : Proposal = record { goal = p.goal; consumed = h.0; act = p.act; effect = p.effect } in
    let is_hand : IsHand one_hand 1 = (omega arith, omega arith) in
    let proposed : IsReachable w (holding asked) = by_event (propose 1 p.goal (choice_of p.act)) (held 1) (with_other_hands s refl) tt (says is_hand (Says.holds asked (record { named = refl; there = h.2; proposed = still_proposed w p h }))) in
    with_other_hands (by_event (commit 1) (stepped w.next) proposed tt (hand_commits w v asked r c e)) refl

-- What changes reach, events reach.
pub reached_reachable : {w : World} → Reaches w → IsReachable w no_hands
reached_reachable (from_opening sound opens) = at_opening sound opens refl
reached_reachable (by_change {w = w} {v = v} change r can changes) = elim (change_done w v change (standing_apart w r) can changes) [
  | inl (p, q, c, e) ↦ commit_reachable w v p q (reached_reachable r) c e
  | inr (c, asks, proper) ↦ by_event (command c) (told_of change) (reached_reachable r) proper (makes tt (by_command asks) can changes refl)
]

there : (o : Option Tree) → is_some o ≡ true → (t : Tree) × (o ≡ Some t)
there (Some t) e = (t, refl)
there None e = cc

-- Of steps whose replay is a state none bound what a step binds that is possible there.
pub unbound_there : (P : Program) (query : Query) (rs : List Record) (s : State) → Replays P query rs s → (r : Record) → Fires P s r → (a : Record) (x : VarName) → In a rs → Binds a x → ¬ Binds r x
unbound_there P query rs s replay r fires a x i bound again =
    let first = there (value_at a.effect.binds x) bound in
    let second = there (value_at r.effect.binds x) again in
    not_both ((results_of P query rs s replay).bound a x first.0 i first.1) ((step_binds P s r fires).binds_new x second.0 second.1)
