-- Notes and marks that were carried over a step are exact in the world that it leaves.
use Rattle.ghc_core.proofs.Words.{◌≡◌, ◌≤◌, ◌↔◌, ◌⊎◌, false, sym, ap, ◌∙◌, inl, inr, arith, Option, Some, None, is_some, if◌then◌else◌, IsTrue, option_or, VarName, GoalName, Goal, In, StoreValue, value_at, Program, Query, is_stream, goal_cmp, Goals, State, Record, numbers, after, without_goal, Fires, query_state, ConsumesGoal, IsTakenBack, number_in, bound_at, Note, NotesByGoal, IsExact, AreExact, AreLeft, Tries, exact_stays, MakesGoal, Binds, by_option, not_both, same_value, named_or_not, own, makes_at, own_made, without_it, without_other, firing, taken_at, Results, is_old, Place, results_of, place_of, apart_at, World, IsNextStep, IsStanding, AreExactIn, IsToTry, Consumed, MadeToTry, ConsumedToTry, AreMarked, AreCarried, AreCarriedOver, AreCarriedBack}
use Rattle.std.specs.FinMap as finite
use Rattle.std.specs.FinSet as set
use Rattle.ghc_term.proofs.Decided.{true_decided}
use Rattle.ghc_match.specs.Looked.{GoalLooksAt}
use Rattle.ghc_core.proofs.Reaching.{Good, reached_good, not_kept_next}
use Rattle.ghc_core.proofs.Standing.{standing_replay}

-- In a change the goals G and the store s gave way to H and t: goals went and came, and each other stayed; at each variable but those touched the stores agree.
pub record Passes (G H : Goals) (s t : StoreValue) (Gone : GoalName → Type 0) (Touched : VarName → Type 0) (Come : GoalName → Type 0) : Type 0 where
  pub stays : (g : GoalName) (b : Goal) → finite.get G g ≡ Some b → ¬ Gone g → finite.get H g ≡ Some b
  pub went : (g : GoalName) → Gone g → finite.get H g ≡ None
  pub came : (g : GoalName) → Come g → (b : Goal) × (finite.get H g ≡ Some b) × (is_stream b ≡ false) × (finite.get G g ≡ None)
  pub origin : (g : GoalName) (b : Goal) → finite.get H g ≡ Some b → ((finite.get G g ≡ Some b) × ¬ Gone g) ⊎ (is_stream b ≡ false → Come g)
  pub agree : (x : VarName) → ¬ Touched x → value_at s x ≡ value_at t x

-- a goal that is not there has no note
pub unnoted : {P : Program} {G : Goals} {s : StoreValue} {notes : NotesByGoal} {untried : set.FinSet goal_cmp} → AreExact P G s notes untried → (g : GoalName) → finite.get G g ≡ None → finite.get notes g ≡ None
unnoted exact g gone = by_option (finite.get _ g) (λ e. e) (λ n e. let at = exact.noted g n e in absurd (not_both at.1 gone))

-- a goal that stayed and lost its note is marked
lost : (Gone : GoalName → Type 0) (T : VarName → Type 0) (Come : GoalName → Type 0) (old new : Tries) → AreCarried Gone T Come old new
    → (g : GoalName) (n : Note) → finite.get old.notes g ≡ Some n → ¬ Gone g → finite.get new.notes g ≡ None → IsTrue (set.contains new.untried g)
lost Gone T Come old new c g n was stayed none = elim (true_decided (set.contains new.untried g)) [
  | inl marked ↦ marked
  | inr free ↦
      absurd (not_both ((c.notes g n).1 (was, stayed, λ x touched looks. free ((c.untried g).1 (inl (stayed, inr (x, touched, (n, was, looks))))))) none)
]

module _ (P : Program) (G H : Goals) (s t : StoreValue) (Gone : GoalName → Type 0) (T : VarName → Type 0) (Come : GoalName → Type 0) (old new : Tries)
    (before : AreExact P G s old.notes old.untried) (p : Passes G H s t Gone T Come) (c : AreCarried Gone T Come old new) where
  pub are_left : AreLeft H T old.notes new.notes
  are_left g note = grind (arith, c.notes g note, before.noted g note, p.stays g, p.went g)

  -- a note that stayed is exact
  noted : (g : GoalName) (note : Note) → finite.get new.notes g ≡ Some note → (b : Goal) × (finite.get H g ≡ Some b) × (is_stream b ≡ false) × IsExact P (value_at t) b note
  noted g note k =
      let (was, stayed, spared) = (c.notes g note).0 k in
      let (b, there, plain, exact) = before.noted g note was in
      let agrees = λ (x : VarName) (looks : GoalLooksAt P (value_at s) b x). p.agree x (λ touched. spared x touched ((exact.1 x).1 looks)) in
      (b, p.stays g b there stayed, plain, exact_stays P (value_at s) (value_at t) b note exact agrees)

  pub are_exact : AreExact P H t new.notes new.untried
  are_exact = record {
    noted = noted;
    marked = λ g. (
      λ k. by_option (finite.get new.notes g) (λ e. grind (arith, c.untried g, before.noted g, before.marked g, p.stays g, p.came g))
          (λ n e. grind (arith, c.untried g, c.notes g n, before.noted g, before.marked g, p.stays g, p.came g)),
      λ u. by_option (finite.get old.notes g) (λ e. grind (arith, c.untried g, before.marked g, p.origin g u.0))
          (λ n e. elim (p.origin g u.0 u.1) [ inl o ↦ lost Gone T Come old new c g n e o.1 u.3 | inr comes ↦ (c.untried g).1 (inr (comes u.2)) ]),
    );
  }

-- a variable that is not bound has no value
no_value : (r : Record) (x : VarName) → ¬ Binds r x → value_at r.effect.binds x ≡ None
no_value r x never = by_option (value_at r.effect.binds x) (λ e. e) (λ v e. absurd (never (ap is_some e)))

-- No goal that is there has the number of the step.
abbrev pub IsNumberNew : World → Record → Type 0
IsNumberNew w r = (g : GoalName) (b : Goal) → finite.get w.state.goals g ≡ Some b → ¬ (g.step ≡ r.number)

module _ (w : World) (stands : IsStanding w) where
  good : Good w
  good = reached_good stands

  results : Results w.opening.query w.kept w.state
  results = results_of w.opening.program w.opening.query w.kept w.state (standing_replay w stands)

  -- the goal that a kept step consumed is gone
  pub consumed_gone : (r : Record) → In r w.kept → (g : GoalName) → Consumed r g → finite.get w.state.goals g ≡ None
  consumed_gone r kept g e = results.consumed r g kept e

  is_new : (r : Record) → 1 ≤ r.number → ¬ In r.number (numbers w.kept) → IsNumberNew w r
  is_new r first apart g b there same = elim (is_old w.opening.query w.kept w.state results g b there) [
    | inl zero ↦ omega (arith, zero, same, first)
    | inr m ↦ apart (rw (← same, m.2) (number_in w.kept m.0 m.1))
  ]

  -- of the next step
  pub next_is_new : (r : Record) → IsNextStep w r → IsNumberNew w r
  next_is_new r next = is_new r (rw next.0 good.first) (rw next.0 (not_kept_next w good))

  -- of a step on the shelf
  pub shelved_is_new : (r : Record) → finite.get w.shelf r.number ≡ Some r → IsNumberNew w r
  shelved_is_new r on = let shelved = good.shelf r.number r on in is_new r shelved.1 shelved.3

-- A step is taken that is possible, and no goal that is there has its number.
module _ (w : World) (r : Record) (fires : Fires w.opening.program w.state r) (not_new : IsNumberNew w r) where
  at : (g : GoalName) → finite.get (after w.state r).goals g ≡ option_or (own r g) (finite.get (without_goal r.goal w.state.goals) g)
  at g = makes_at r.number 1 r.effect.makes (without_goal r.goal w.state.goals) g

  -- what the step makes was not there
  pub not_there : (g : GoalName) → MakesGoal r g → finite.get w.state.goals g ≡ None
  not_there g m = by_option (finite.get w.state.goals g) (λ e. e) (λ b e. absurd (not_new g b e m.0))

  pub passes_over : Passes w.state.goals (after w.state r).goals w.state.store (after w.state r).store (Consumed r) (Binds r) (MadeToTry r)
  passes_over = record {
    stays = λ g b there stayed. grind (arith, at g, not_new g b there, own_made r g, without_other r.goal w.state.goals g stayed);
    went = λ g gone.
        let here = taken_at w.opening.program w.state r fires g gone in
        grind (arith, at g, not_new g here.0 here.1, own_made r g, without_it r.goal w.state.goals g gone);
    came = λ g c. (c.0, rw c.1 at (at g), c.2, not_there g (own_made r g c.0 c.1));
    origin = λ g b there. grind (arith, at g, without_it r.goal w.state.goals g, without_other r.goal w.state.goals g, named_or_not r.goal g);
    agree = λ x free. sym (bound_at r.effect.binds w.state.store x ∙ ap (λ o. option_or o (value_at w.state.store x)) (no_value r x free));
  }

  pub over_exact : (old new : Tries) → AreExactIn w old.notes old.untried → AreCarriedOver r old new → AreExact w.opening.program (after w.state r).goals (after w.state r).store new.notes new.untried
  over_exact old new exact c = are_exact w.opening.program _ _ _ _ (Consumed r) (Binds r) (MadeToTry r) old new exact passes_over c

  pub over_left : (old new : Tries) → AreExactIn w old.notes old.untried → AreCarriedOver r old new → AreLeft (after w.state r).goals (Binds r) old.notes new.notes
  over_left old new exact c = are_left w.opening.program _ _ _ _ (Consumed r) (Binds r) (MadeToTry r) old new exact passes_over c

-- A kept step is taken back.
module _ (w : World) (stands : IsStanding w) (r : Record) (kept : In r w.kept) (v : State) (back : IsTakenBack r w.state v) where
  place : Place w.opening.program w.opening.query w.kept r
  place = place_of w.opening.program w.opening.query w.kept w.state (standing_replay w stands) r kept

  -- the goal that it consumed was there
  used : (g : GoalName) → Consumed r g → (b : Goal) × (finite.get place.state.goals g ≡ Some b) × (r.consumed ≡ Some b)
  used g e = taken_at w.opening.program place.state r place.fires g e

  -- it did not make the goal that it consumed
  not_own : (g : GoalName) → Consumed r g → ¬ MakesGoal r g
  not_own g e m = elim (is_old w.opening.query place.before place.state place.results g (used g e).0 (used g e).1) [
    | inl zero ↦ let positive = (reached_good stands).positive r kept in omega (arith, zero, m.0, positive)
    | inr q ↦ apart_at place.before place.behind r (rw place.split at (reached_good stands).kept_once) q.0 q.1 (sym m.0 ∙ q.2)
  ]

  -- what it consumed is there again
  pub consumed_again : (b : Goal) → r.consumed ≡ Some b → (g : GoalName) × ConsumesGoal r g b × (finite.get v.goals g ≡ Some b)
  consumed_again b e = elim (firing w.opening.program place.state r place.fires) [
    | inl t ↦ (t.name, (t.named, e), back.goals.given_back t.name b (t.named, e) (not_own t.name t.named))
    | inr a ↦ absurd (not_both e a.nothing)
  ]

  -- A goal that is there was there, and is not the one that it consumed; or it is that one.
  pub come_back : (g : GoalName) (b : Goal) → finite.get v.goals g ≡ Some b → ((finite.get w.state.goals g ≡ Some b) × ¬ (r.goal ≡ Some g)) ⊎ ConsumesGoal r g b
  come_back g b there = elim (named_or_not r.goal g) [
    | inl e ↦ let u = used g e in inr (e, u.2 ∙ ap Some (same_value (back.goals.given_back g u.0 (e, u.2) (not_own g e)) there))
    | inr other ↦
        let free : ¬ MakesGoal r g = λ m. not_both there (back.goals.unmade g m) in
        inl (sym (back.goals.others g free (λ c h. other h.0)) ∙ there, other)
  ]

  pub passes_back : Passes w.state.goals v.goals w.state.store v.store (MakesGoal r) (Binds r) (ConsumedToTry r)
  passes_back = record {
    stays = λ g b there stayed. back.goals.others g stayed (λ c h. not_both there (consumed_gone w stands r kept g h.0)) ∙ there;
    went = λ g made. back.goals.unmade g made;
    came = λ g c. (c.0, back.goals.given_back g c.0 c.1 (not_own g c.1.0), c.2, consumed_gone w stands r kept g c.1.0);
    origin = λ g b there. grind (arith, come_back g b there, back.goals.unmade g);
    agree = λ x free. sym (back.store x ∙ ap (λ (o : Option _). if is_some o then None else value_at w.state.store x) (no_value r x free));
  }

  pub back_exact : (old new : Tries) → AreExactIn w old.notes old.untried → AreCarriedBack r old new → AreExact w.opening.program v.goals v.store new.notes new.untried
  back_exact old new exact c = are_exact w.opening.program _ _ _ _ (MakesGoal r) (Binds r) (ConsumedToTry r) old new exact passes_back c

  pub back_left : (old new : Tries) → AreExactIn w old.notes old.untried → AreCarriedBack r old new → AreLeft v.goals (Binds r) old.notes new.notes
  back_left old new exact c = are_left w.opening.program _ _ _ _ (MakesGoal r) (Binds r) (ConsumedToTry r) old new exact passes_back c

-- The goals of a query are marked, and no goal has a note.
pub opened_exact : (P : Program) (query : Query) (tries : Tries) → tries.notes ≡ finite.empty → ((g : GoalName) → IsTrue (set.contains tries.untried g) ↔ IsToTry 0 query g)
    → AreExact P (query_state query).goals (query_state query).store tries.notes tries.untried
opened_exact P query tries no_notes marks =
    let none : (g : GoalName) → finite.get tries.notes g ≡ None = λ g. ap (λ n. finite.get n g) no_notes ∙ finite.get-empty goal_cmp g in
    record { noted = λ g note e. absurd (not_both e (none g)); marked = λ g. grind (arith, marks g, none g) }
