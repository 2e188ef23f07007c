-- What was made by steps that took goals in question is in question.
use Rattle.ghc_pool.proofs.Words.{◌≡◌, ℕ, ◌≤◌, [], ◌∷◌, ◌++◌, ap, ◌∙◌, inl, inr, arith, Some, None, Option, GoalName, Goal, in_either, Record, MakesGoal, made_by, own_made, goal_by, of_query, results_of, NotesByGoal, World, IsStanding, reached_good, standing_replay, standing_below, Spies, IsInQuestion, IsRunStep, TookInQuestion}
use Rattle.std.specs.FinMap as finite
use Rattle.ghc_pool.proofs.AtTheEnd.{still_in_question, named_one}

-- with no step of this number or a greater one
pub none_since : (root : Option GoalName) (w : World) → IsStanding w → TookInQuestion root w.kept w.next
none_since root w stands = (
  (reached_good stands).first,
  λ r i least. absurd (let below = standing_below w stands r i in omega (arith, below, least)),
)

-- with one more step of the run
pub one_since : (workers : ℕ) (spies : Spies) (root : Option GoalName) (w : World) (notes : NotesByGoal) (r : Record) (since : ℕ) → IsRunStep workers spies root w notes r → TookInQuestion root w.kept since → TookInQuestion root (w.kept ++ r ∷ []) since
one_since workers spies root w notes r since s before = (
  before.0,
  λ q i least. elim (in_either w.kept (r ∷ []) q i) [
    | inl old ↦ let t = before.1 q old least in (t.0, t.1, still_in_question root w.kept (r ∷ []) t.0 t.2)
    | inr new ↦ elim new [
      | inl is ↦ (s.goal, ap (λ (z : Record). z.goal) is ∙ named_one s, still_in_question root w.kept (r ∷ []) s.goal s.asked)
      | inr none ↦ absurd none
    ]
  ],
)

-- a goal that was made since then
pub made_since : (root : Option GoalName) (w : World) (since : ℕ) → IsStanding w → TookInQuestion root w.kept since → (g : GoalName) (b : Goal) → finite.get w.state.goals g ≡ Some b → since ≤ g.step → IsInQuestion root w.kept g
made_since None w since stands took g b e late = tt
made_since (Some named) w since stands took g b e late =
    let replay = standing_replay w stands in
    elim (goal_by w.opening.query w.kept w.state (results_of w.opening.program w.opening.query w.kept w.state replay) g b e) [
      | inl m ↦
          let makes : MakesGoal m.0 g = own_made m.0 g b m.2 in
          let of = makes.0 in
          let t = took.1 m.0 m.1 (omega (arith, of, late)) in
          made_by m.0 m.1 makes t.1 t.2
      | inr q ↦ let zero = of_query w.opening.query g b q.1 in let least = took.0 in absurd (omega (arith, least, late, zero))
    ]
