-- Two plays, event by event.
use Rattle.ghc_core.proofs.Words.{◌≡◌, ℕ, List, [], ◌∷◌, refl, sym, ap, ◌∙◌, subst, inl, inr, arith, Some, None, pos, Option, nat_cmp_total, VarName, GoalName, Tree, integer, Goal, value_at, here, through, now, name_cmp, name_total, Program, left, stay, go, Unified as unified, Effect, HasEffect, no_step, effect_binds, nothing, leave, IsSplitAt, Goals, Record, Fires, undid, goal_total, bound_at, option_or, Proposal, Hands, with_hand, emptied, World, with_step, Comes as comes, Goes as goes, Coming, Going, without_steps, to_undo, by_hand, by_command, Says, makes, says, fails, played, query_world, two_hands, equals, SecondHandIsStale, RedoIsChanged}
use Rattle.std.specs.FinMap as finite
use Rattle.std.specs.FinSet as set
use Rattle.ghc_term.specs.Bindings.{Reaches}
use Rattle.ghc_fire.specs.Attempt as attempt
use Rattle.ghc_records.specs.Orders.{take}
use Rattle.ghc_core.specs.Facts.{of_query}
use Rattle.ghc_core.proofs.Naming.{none_named, nothing_named}
use Rattle.ghc_core.proofs.Refusing.{changed, stale, has_not}

abbrev x : VarName
x = record { step = 0; place = 1 }

-- the effect of `X = k` where X is unbound
abbrev binding : ℕ → Effect
binding k = record { reads = set.empty; binds = finite.insert finite.empty x (integer (pos k)); makes = []; fresh = 0 }

no_reach : {S : VarName → Option Tree} {k : _} {y : VarName} → ¬ Reaches S (integer k) y
no_reach (here o) = o
no_reach (through o e r) = o

binds : (P : Program) (k n : ℕ) (S : VarName → Option Tree) → S x ≡ None → HasEffect P (equals k) unified n S (binding k)
binds P k n S e = (((x, integer (pos k)) ∷ [], [], (_, go (left now e no_reach) stay), refl, refl), refl, refl)

proposed : (P : Program) (k : ℕ) (S : VarName → Option Tree) → S x ≡ None → (o : Option Goal) → o ≡ Some (equals k) → attempt.Attempts P S o None (attempt.proposes unified (binding k))
proposed P k S e o at = subst (λ z. attempt.Attempts P S z None (attempt.proposes unified (binding k))) (sym at) (attempt.UnificationAnswers.solves (binds P k no_step S e))

unbound : value_at finite.empty x ≡ None
unbound = finite.get-empty name_cmp x

abbrev proposal : ℕ → ℕ → Proposal
proposal i k = record { goal = of_query i; consumed = equals k; act = unified; effect = binding k }

abbrev step : ℕ → ℕ → ℕ → Record
step n i k = record { number = n; goal = Some (of_query i); consumed = Some (equals k); act = unified; effect = binding k }

module _ where
  abbrev query : List Goal
  query = equals 1 ∷ []

  abbrev start : World
  start = query_world query

  first_goal : finite.get start.state.goals (of_query 1) ≡ Some (equals 1)
  first_goal = finite.get-insert goal_total finite.empty (of_query 1) (equals 1) (of_query 1)

  abbrev one_held : Hands
  one_held = with_hand 1 (proposal 1 1) two_hands

  abbrev both_held : Hands
  both_held = with_hand 2 (proposal 1 1) one_held

  held_1 : finite.get both_held.held 1 ≡ Some (proposal 1 1)
  held_1 = finite.get-insert nat_cmp_total one_held.held 2 (proposal 1 1) 1 ∙ finite.get-insert nat_cmp_total finite.empty 1 (proposal 1 1) 1

  held_2 : finite.get (emptied 1 both_held).held 2 ≡ Some (proposal 1 1)
  held_2 = finite.get-remove nat_cmp_total both_held.held 1 2 ∙ finite.get-insert nat_cmp_total one_held.held 2 (proposal 1 1) 2

  abbrev stepped_on : World
  stepped_on = with_step (step 1 1 1) start

  gone : finite.get stepped_on.state.goals (of_query 1) ≡ None
  gone = finite.get-remove goal_total start.state.goals (of_query 1) (of_query 1)

  pub stale_play : SecondHandIsStale
  stale_play = (
    stepped_on,
    emptied 2 (emptied 1 both_held),
    played (
      start,
      one_held,
      says (omega arith, omega arith) (Says.holds (proposal 1 1) (record { named = refl; there = first_goal; proposed = proposed [] 1 (value_at finite.empty) unbound _ first_goal })),
      (
        start,
        both_held,
        says (omega arith, omega arith) (Says.holds (proposal 1 1) (record { named = refl; there = first_goal; proposed = proposed [] 1 (value_at finite.empty) unbound _ first_goal })),
        (
          stepped_on,
          emptied 1 both_held,
          makes {change = comes Coming.Next (step 1 1 1)} (omega arith, omega arith) (by_hand {p = (proposal 1 1)} held_1 (
            (equals 1, tt, first_goal, binds [] 1 no_step (value_at finite.empty) unbound),
            (refl, ((equals 1, refl, first_goal), binds [] 1 1 (value_at finite.empty) unbound), (omega arith, omega arith), nothing_named query [] (step 1 1 1) refl),
            refl,
            refl,
          )) (refl, ((equals 1, refl, first_goal), binds [] 1 1 (value_at finite.empty) unbound), (omega arith, omega arith), nothing_named query [] (step 1 1 1) refl) refl refl,
          (
            stepped_on,
            emptied 2 (emptied 1 both_held),
            fails (omega arith, omega arith) (inr ((λ f none. has_not held_2 none.1), (proposal 1 1, held_2, stale (λ s. has_not s.2 gone)))),
            (refl, refl),
          ),
        ),
      ),
    ),
  )

module _ where
  abbrev queries : List Goal
  queries = equals 1 ∷ equals 2 ∷ []

  abbrev at_first : World
  at_first = query_world queries

  abbrev rest : Goals
  rest = finite.insert finite.empty (of_query 2) (equals 2)

  there_1 : finite.get at_first.state.goals (of_query 1) ≡ Some (equals 1)
  there_1 = finite.get-insert goal_total rest (of_query 1) (equals 1) (of_query 1)

  there_2 : finite.get at_first.state.goals (of_query 2) ≡ Some (equals 2)
  there_2 = finite.get-insert goal_total rest (of_query 1) (equals 1) (of_query 2) ∙ finite.get-insert goal_total finite.empty (of_query 2) (equals 2) (of_query 2)

  abbrev hand_1 : Hands
  hand_1 = with_hand 1 (proposal 1 1) two_hands

  abbrev after_one : World
  after_one = with_step (step 1 1 1) at_first

  goes_by_itself : IsSplitAt (step 1 1 1 ∷ []) (step 1 1 1) (step 1 1 1 ∷ []) []
  goes_by_itself = (take (inl refl) nothing, leave (λ n. n (inl refl)) nothing)

  abbrev after_undo : World
  after_undo = without_steps (step 1 1 1 ∷ []) [] at_first.state (undid 1) after_one

  abbrev hand_2 : Hands
  hand_2 = with_hand 1 (proposal 2 2) (emptied 1 hand_1)

  abbrev after_two : World
  after_two = with_step (step 2 2 2) after_undo

  shelved : finite.get after_two.shelf 1 ≡ Some (step 1 1 1)
  shelved = finite.get-insert nat_cmp_total finite.empty 1 (step 1 1 1) 1

  left_there : finite.get after_two.state.goals (of_query 1) ≡ Some (equals 1)
  left_there = finite.get-remove goal_total at_first.state.goals (of_query 2) (of_query 1) ∙ there_1

  named : {g : GoalName} → Some (of_query 1) ≡ Some g → of_query 1 ≡ g
  named e = cc

  bound_to_2 : value_at after_two.state.store x ≡ Some (integer (pos 2))
  bound_to_2 = bound_at (binding 2).binds finite.empty x ∙ ap (λ o. option_or o (value_at finite.empty x)) (finite.get-insert name_total finite.empty x (integer (pos 2)) x)

  not_again : ¬ Fires [] after_two.state (step 1 1 1)
  not_again f = has_not bound_to_2 ((effect_binds [] (equals 1) unified 1 (value_at after_two.state.store) (binding 1) f.1).binds_new x (integer (pos 1)) (finite.get-insert name_total finite.empty x (integer (pos 1)) x))

  pub changed_play : RedoIsChanged
  changed_play = (
    after_two,
    emptied 1 hand_2,
    played (
      at_first,
      hand_1,
      says (omega arith, omega arith) (Says.holds (proposal 1 1) (record { named = refl; there = there_1; proposed = proposed [] 1 (value_at finite.empty) unbound _ there_1 })),
      (
        after_one,
        emptied 1 hand_1,
        makes {change = comes Coming.Next (step 1 1 1)} (omega arith, omega arith) (by_hand {p = (proposal 1 1)} (finite.get-insert nat_cmp_total finite.empty 1 (proposal 1 1) 1) (
          (equals 1, tt, there_1, binds [] 1 no_step (value_at finite.empty) unbound),
          (refl, ((equals 1, refl, there_1), binds [] 1 1 (value_at finite.empty) unbound), (omega arith, omega arith), nothing_named queries [] (step 1 1 1) refl),
          refl,
          refl,
        )) (refl, ((equals 1, refl, there_1), binds [] 1 1 (value_at finite.empty) unbound), (omega arith, omega arith), nothing_named queries [] (step 1 1 1) refl) refl refl,
        (
          after_undo,
          emptied 1 hand_1,
          makes {change = goes Going.Alone (record { first = step 1 1 1; others = [] })} tt (by_command (to_undo refl)) (inl refl, ([], goes_by_itself), refl) ([], goes_by_itself, (at_first.state, (((λ r i. absurd i), tt), refl, none_named queries), refl)) refl,
          (
            after_undo,
            hand_2,
            says (omega arith, omega arith) (Says.holds (proposal 2 2) (record { named = refl; there = there_2; proposed = proposed [] 2 (value_at finite.empty) unbound _ there_2 })),
            (
              after_two,
              emptied 1 hand_2,
              makes {change = comes Coming.Next (step 2 2 2)} (omega arith, omega arith) (by_hand {p = (proposal 2 2)} (finite.get-insert nat_cmp_total (emptied 1 hand_1).held 1 (proposal 2 2) 1) (
                (equals 2, tt, there_2, binds [] 2 no_step (value_at finite.empty) unbound),
                (refl, ((equals 2, refl, there_2), binds [] 2 2 (value_at finite.empty) unbound), (omega arith, omega arith), nothing_named queries [] (step 2 2 2) refl),
                refl,
                refl,
              )) (refl, ((equals 2, refl, there_2), binds [] 2 2 (value_at finite.empty) unbound), (omega arith, omega arith), nothing_named queries [] (step 2 2 2) refl) refl refl,
              (
                after_two,
                emptied 1 hand_2,
                fails tt (changed (step 1 1 1) shelved (λ g e none. has_not (subst (λ z. finite.get after_two.state.goals z ≡ Some (equals 1)) (named e) left_there) none) (nothing_named queries (step 2 2 2 ∷ []) (step 1 1 1) refl) not_again),
                (refl, refl),
              ),
            ),
          ),
        ),
      ),
    ),
  )
