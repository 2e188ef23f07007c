-- What a hand holds is judged alike as the next step and under the number that no step has.
use Rattle.ghc_core.proofs.Words.{◌≡◌, ℕ, ◌<◌, ◌≤◌, ◌⊎◌, ◌==◌, List, map, refl, sym, ap, ◌∙◌, subst, inl, inr, arith, Some, None, if◌then◌else◌, nat_cmp, nat_cmp_total, VarName, GoalName, Tree, variable, Goal, In, value_at, replace, made, replace_in_goal, Act, Effect, HasEffect, no_step, numbered, under, variables_come, effect_once, effect_each, effect_under, IsVariableOf, Hands, with_hand, emptied, World, Event, commit, Reply, hands_after, Says, Answers, no_hand, makes, says, IsReachable, at_opening, by_event, with_other_hands, goals_twice, in_goals, same_goals, ne_eqb, eqb_tells}
use Rattle.std.proofs.Common.{eq-eqb}
use Rattle.std.specs.FinMap as finite
use Rattle.ghc_term.specs.Variables.{variables_of_goals}
use Rattle.ghc_fire.specs.Proposal.{Proposal}
use Rattle.ghc_records.proofs.Replaying as replaying
use Rattle.ghc_core.specs.Laws as laws
use Rattle.ghc_core.proofs.Moving.{next_goes_on, reachable_reached}
use Rattle.ghc_core.proofs.Reaching.{reachable_good, known}
use Rattle.ghc_core.proofs.Standing.{standing_numbered}
use Rattle.ghc_core.proofs.Committing.{proposed_holds, no_stream}

-- The variable is of a step before the n-th, or of no step.
abbrev IsOld : ℕ → VarName → Type 0
IsOld n x = (x.step < n) ⊎ (x.step ≡ no_step)

-- All variables of the list are so.
abbrev AreOld : ℕ → List VarName → Type 0
AreOld n xs = (x : VarName) → In x xs → IsOld n x

-- what the variables of step n were under no step
abbrev back : ℕ → VarName → Tree
back n x = if x.step == n then variable (made no_step x.place) else variable x

back_variable : (n : ℕ) (x : VarName) → IsOld n x → replace (back n) (numbered n x) ≡ variable x
back_variable n x old = elim (eqb_tells x.step no_step) [
  | inl (e, p) ↦ rw (e, eq-eqb n n refl) (ap (λ s. variable (made s x.place)) (sym p))
  | inr (e, p) ↦ rw (e, ne_eqb x.step n (λ own. elim old [ inl less ↦ omega arith | inr same ↦ p same ]))
]

-- goals of such variables, numbered and put back, are as they were
back_goals : (n : ℕ) (gs : List Goal) → AreOld n (variables_of_goals gs) → map (replace_in_goal (back n)) (map (replace_in_goal (numbered n)) gs) ≡ gs
back_goals n gs old =
    let twice = λ (x : VarName). replace (back n) (numbered n x) in
    goals_twice (back n) (numbered n) twice (λ x. refl) gs ∙ in_goals twice variable gs (λ x i. back_variable n x (old x i)) ∙ same_goals gs

-- effects that are one as step n are one
under_once : (n : ℕ) (e f : Effect) → AreOld n (variables_of_goals e.makes) → AreOld n (variables_of_goals f.makes) → under n e ≡ under n f → e ≡ f
under_once n e f old new same =
    let makes : e.makes ≡ f.makes = sym (back_goals n e.makes old) ∙ ap (λ (x : Effect). map (replace_in_goal (back n)) x.makes) same ∙ back_goals n f.makes new in
    λ i. record { reads = (same i).reads; binds = (same i).binds; makes = makes i; fresh = (same i).fresh }

-- What a reduction would make now, under no number, has variables of steps before the next one, and of no step.
makes_old : (w : World) (hands : Hands) → IsReachable w hands → (g : GoalName) (b : Goal) (a : Act) (e : Effect) → finite.get w.state.goals g ≡ Some b
    → HasEffect w.opening.program b a no_step (value_at w.state.store) e → AreOld w.next (variables_of_goals e.makes)
makes_old w hands r g b a e there has x i =
    let good = reachable_good r in
    let well = known w hands r in
    let is_known : (y : VarName) → IsVariableOf w.opening.query w.kept y → IsOld w.next y =
    λ y of. elim of [
      | inl q ↦ inl (let zero : y.step ≡ 0 = replaying.of_query w.opening.program w.opening.query y good.asked q in let first = good.first in omega arith)
      | inr m ↦ inl (let below = good.below m.0 m.1 in let step = m.2.0 in omega arith)
    ] in
    elim ((variables_come w.opening.program b a no_step w.state.store e good.accepted good.acyclic has).made x i) [
      | inl of_goal ↦ is_known x (well.goals g b x there of_goal)
      | inr (inl value) ↦ is_known x (well.values value.0 x value.1 value.2 value.3)
      | inr (inr own) ↦ inr own.0
    ]

-- What a hand holds makes goals of such variables.
abbrev HoldsOld : World → Hands → Type 0
HoldsOld w hands = (h : ℕ) (p : Proposal) → finite.get hands.held h ≡ Some p → AreOld w.next (variables_of_goals p.effect.makes)

later : (m n : ℕ) (xs : List VarName) → m ≤ n → AreOld m xs → AreOld n xs
later m n xs le old x i = elim (old x i) [ inl less ↦ inl (omega arith) | inr same ↦ inr same ]

nothing_held : (hands : Hands) (h : ℕ) (p : Proposal) → hands.held ≡ finite.empty → finite.get hands.held h ≡ Some p → ⊥
nothing_held hands h p empty e = let clash : None ≡ Some p = sym (finite.get-empty nat_cmp h) ∙ ap (λ m. finite.get m h) (sym empty) ∙ e in cc

-- a hand that was emptied holds nothing, and the others what they held
still_held : (hands : Hands) (k h : ℕ) (p : Proposal) → finite.get (emptied k hands).held h ≡ Some p → finite.get hands.held h ≡ Some p
still_held hands k h p e = grind (arith, finite.get-remove nat_cmp_total hands.held k h)

-- a hand that got a proposal holds it, and the others what they held
held_or : (hands : Hands) (k : ℕ) (q : Proposal) (h : ℕ) (p : Proposal) → finite.get (with_hand k q hands).held h ≡ Some p → (q ≡ p) ⊎ (finite.get hands.held h ≡ Some p)
held_or hands k q h p e = grind (arith, finite.get-insert nat_cmp_total hands.held k q h)

module _ (w : World) (hands : Hands) (r : IsReachable w hands) (old : HoldsOld w hands) where
  -- what a hand holds after an event that gives it nothing, it held before
  held_before : (e : Event) (h : ℕ) (p : Proposal) → finite.get (hands_after e hands).held h ≡ Some p → finite.get hands.held h ≡ Some p
  held_before (commit k) h p got = still_held hands k h p got
  held_before e h p got = got

  answered_old : (e : Event) (reply : Reply) (v : World) (left : Hands) → Answers (Unit {0}) w hands e reply v left → HoldsOld v left
  answered_old e reply v left (no_hand missing) h p got = old h p got
  answered_old e reply v left (makes {change = change} has asks can changes told) h p got =
      later w.next v.next (variables_of_goals p.effect.makes) (next_goes_on w v (inr (change, can, changes))) (old h p (held_before e h p got))
  answered_old e reply v left (says has (Says.holds {h = k} {g = g} {choice = choice} q is)) h p got = elim (held_or hands k q h p got) [
    | inl new ↦ rw new at
        (makes_old w hands r g q.consumed q.act q.effect is.there (proposed_holds w g choice q.consumed q.act q.effect is.there is.proposed).0)
    | inr kept ↦ old h p kept
  ]
  answered_old e reply v left a h p got = old h p (held_before e h p got)

held_old : {w : World} {hands : Hands} → IsReachable w hands → HoldsOld w hands
held_old (at_opening {hands = hands} sound opens empty) h p got = absurd (nothing_held hands h p empty got)
held_old (by_event {w = w} {v = v} {hands = hands} {left = left} e reply r proper a) h p got = answered_old w hands r (held_old r) e reply v left a h p got
held_old (with_other_hands {other = other} r empty) h p got = absurd (nothing_held other h p empty got)

pub still_next : laws.StillHoldsAsNext
still_next w hands h p r got =
    let P = w.opening.program in
    let S = value_at w.state.store in
    let good = reachable_good r in
    let apart = λ (b : Goal) (there : finite.get w.state.goals p.goal ≡ Some b). standing_numbered w (reachable_reached r) p.goal b there in (
      λ now. (now.0, now.1, now.2, effect_under P now.0 p.act w.next S p.effect (no_stream P now.0 p.act no_step S p.effect now.1 now.3) (apart now.0 now.2) now.3),
      λ next.
          let b = next.0 in
          let f = effect_each P b p.act w.next no_step S (under w.next p.effect) next.3 in
          let renumbered = effect_under P b p.act w.next S f.0 (no_stream P b p.act no_step S f.0 next.1 f.1) (apart b next.2) f.1 in
          let alike : under w.next f.0 ≡ under w.next p.effect = effect_once P b p.act w.next S (under w.next f.0) (under w.next p.effect) good.acyclic renumbered next.3 in
          let same : f.0 ≡ p.effect = under_once w.next f.0 p.effect (makes_old w hands r p.goal b p.act f.0 next.2 f.1) (held_old r h p got) alike in
          (b, next.1, next.2, subst (HasEffect P b p.act no_step S) same f.1),
    )
