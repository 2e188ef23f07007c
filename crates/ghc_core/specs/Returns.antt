-- Laws of taking steps away, and of taking them again, in reachable worlds.
use Rattle.std.specs.Prelude.{◌≡◌, ℕ, List, [], ◌∷◌, ◌++◌, map}
use Rattle.ghc_records.specs.Record.{Record, numbers}
use Rattle.ghc_depend.specs.Depend.{DependsOn, Follows, IsKeptAs}
use Rattle.ghc_depend.specs.Deletion.{IsWithoutSteps}
use Rattle.ghc_depend.specs.Kept.{IsWithout, IsSplitAt}
use Rattle.ghc_core.specs.World.{Hands, World, IsReplay}
use Rattle.ghc_core.specs.Events.{Command, undo, roll, redo, arrange, Event, command, stepped, undone, arranged}
use Rattle.ghc_core.specs.Answers.{Obeys, Answers, AnswersEach}
use Rattle.ghc_core.specs.Legal.{IsReachable}

-- The state of a reachable world is the replay of its kept steps.
abbrev pub ReachableIsReplay : Type 0
ReachableIsReplay = (w : World) (hands : Hands) → IsReachable w hands → IsReplay w w.kept w.state

-- In a reachable world each kept step without consequences can be undone, which leaves the others, and the state without it.
abbrev pub UndoTakesStepAway : Type 0
UndoTakesStepAway =
    (w : World) (hands : Hands) (n : ℕ) (r : Record) → IsReachable w hands → IsKeptAs w.kept n r → ((b : Record) → ¬ Follows w.kept r b)
    → (v : World) × Obeys ⊥ w (undo n) (undone (n ∷ [])) v × IsWithout w.kept r v.kept × IsWithoutSteps (r ∷ []) w.state v.state

-- In a reachable world each kept step can be rolled back, which takes away it and its consequences, and leaves the state without them.
abbrev pub RollTakesStepsAway : Type 0
RollTakesStepsAway =
    (w : World) (hands : Hands) (n : ℕ) (r : Record) → IsReachable w hands → IsKeptAs w.kept n r
    → (gone : List Record) × (v : World) × Obeys ⊥ w (roll n) (undone (numbers gone)) v × IsSplitAt w.kept r gone v.kept × IsWithoutSteps gone w.state v.state

-- In a reachable world a step that was just taken, by whatever event, can be undone, and that gives back the old state and the old kept list.
abbrev pub StepThenUndo : Type 0
StepThenUndo =
    (w v : World) (hands left : Hands) (e : Event) (n : ℕ) → IsReachable w hands → Answers (Unit {0}) w hands e (stepped n) v left
    → (u : World) × Obeys ⊥ v (undo n) (undone (n ∷ [])) u × (u.state ≡ w.state) × (u.kept ≡ w.kept)

-- In a reachable world, what an undo or a rollback took away can be redone, number after number in the order of its list, and that gives back the old state.
abbrev pub UndoneThenRedone : Type 0
UndoneThenRedone =
    (w v : World) (hands : Hands) (c : Command) (ns : List ℕ) → IsReachable w hands → Obeys (Unit {0}) w c (undone ns) v
    → (u : World) × AnswersEach (λ i. ⊥) v hands (map (λ n. command (redo n)) ns) (map stepped ns) u hands × (u.state ≡ w.state)

-- In a reachable world two neighbouring steps, of which the later one does not depend on the earlier one, can be arranged the other way round, and that leaves the state.
abbrev pub NeighboursAreArranged : Type 0
NeighboursAreArranged =
    (w : World) (hands : Hands) (front back : List Record) (a b : Record) → IsReachable w hands → w.kept ≡ front ++ a ∷ b ∷ back → ¬ DependsOn w.kept b a
    → (v : World) × Obeys ⊥ w (arrange (numbers (front ++ b ∷ a ∷ back))) arranged v × (v.kept ≡ front ++ b ∷ a ∷ back) × (v.state ≡ w.state)
