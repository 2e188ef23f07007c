-- What becomes of noted outcomes and untried goals where a step is taken or taken away.
use Rattle.std.specs.Prelude.{◌≡◌, ◌↔◌, ◌⊎◌, ◌<◌, ◌≤◌, false, ℕ, List, [], ◌∷◌, Some, IsTrue}
use Rattle.std.specs.FinMap as finite
use Rattle.std.specs.FinSet as set
use Rattle.ghc_term.specs.declared.var_name.VarName.{VarName}
use Rattle.ghc_term.specs.declared.goal_name.GoalName.{GoalName}
use Rattle.ghc_term.specs.Goal.{Goal}
use Rattle.ghc_term.specs.Store.{StoreValue}
use Rattle.ghc_flat.specs.Flat.{is_stream}
use Rattle.ghc_hooks.specs.Notes.{Note}
use Rattle.ghc_hooks.specs.Tries.{Tries, HasLookedAt}
use Rattle.ghc_records.specs.Record.{Record, with_makes}
use Rattle.ghc_records.specs.State.{ConsumesGoal}
use Rattle.ghc_depend.specs.Depend.{MakesGoal, Binds}

-- The goal has a name that step n gives: n.(i+1), .., n.k.
abbrev pub IsGiven : ℕ → ℕ → ℕ → GoalName → Type 0
IsGiven n i k g = (g.step ≡ n) × (i < g.place) × (g.place ≤ k)

-- The bindings bind the variable.
abbrev pub IsBound : StoreValue → VarName → Type 0
IsBound binds x = IsTrue (finite.contains_key binds x)

-- The goals Gone lost their notes and marks.
pub record AreDropped (Gone : GoalName → Type 0) (old new : Tries) : Type 0 where
  pub notes : (g : GoalName) (note : Note) → (finite.get new.notes g ≡ Some note) ↔ ((finite.get old.notes g ≡ Some note) × ¬ Gone g)
  pub untried : (g : GoalName) → IsTrue (set.contains new.untried g) ↔ (IsTrue (set.contains old.untried g) × ¬ Gone g)

-- The goals Come were marked untried, and no note changed.
pub record AreMarked (Come : GoalName → Type 0) (old new : Tries) : Type 0 where
  pub notes : new.notes ≡ old.notes
  pub untried : (g : GoalName) → IsTrue (set.contains new.untried g) ↔ (IsTrue (set.contains old.untried g) ⊎ Come g)

-- Goals went and came, and variables were bound or freed. A note stays just where its goal did not go and it looked at none of these variables. Untried are the goals that did not go and were untried or looked at one of them, and the goals that came.
pub record AreCarried (Gone : GoalName → Type 0) (Touched : VarName → Type 0) (Come : GoalName → Type 0) (old new : Tries) : Type 0 where
  pub notes : (g : GoalName) (note : Note) → (finite.get new.notes g ≡ Some note)
      ↔ ((finite.get old.notes g ≡ Some note) × (¬ Gone g) × ((x : VarName) → Touched x → ¬ IsTrue (set.contains note.looked x)))
  pub untried : (g : GoalName) → IsTrue (set.contains new.untried g)
      ↔ (((¬ Gone g) × (IsTrue (set.contains old.untried g) ⊎ ((x : VarName) × Touched x × HasLookedAt old.notes x g))) ⊎ Come g)

-- Where step n made the goals gs, it made the one named g, which is no stream goal.
abbrev pub IsToTry : ℕ → List Goal → GoalName → Type 0
IsToTry n gs g = (b : Goal) × (finite.get (with_makes n 1 gs finite.empty) g ≡ Some b) × (is_stream b ≡ false)

-- The step consumed the goal named g.
abbrev pub Consumed : Record → GoalName → Type 0
Consumed r g = r.goal ≡ Some g

-- The step made the goal named g, which is no stream goal.
abbrev pub MadeToTry : Record → GoalName → Type 0
MadeToTry r = IsToTry r.number r.effect.makes

-- The step consumed the goal named g, which is no stream goal.
abbrev pub ConsumedToTry : Record → GoalName → Type 0
ConsumedToTry r g = (b : Goal) × ConsumesGoal r g b × (is_stream b ≡ false)

-- The step was taken: the goal that it consumed went, those that it made came, and what it binds was bound.
abbrev pub AreCarriedOver : Record → Tries → Tries → Type 0
AreCarriedOver r = AreCarried (Consumed r) (Binds r) (MadeToTry r)

-- The step was taken away: the goals that it made went, the one that it consumed came, and what it binds was freed.
abbrev pub AreCarriedBack : Record → Tries → Tries → Type 0
AreCarriedBack r = AreCarried (MakesGoal r) (Binds r) (ConsumedToTry r)

-- The steps were taken away, the last one first.
abbrev pub AreAllCarriedBack : List Record → Tries → Tries → Type 0
AreAllCarriedBack [] old new = new ≡ old
AreAllCarriedBack (r ∷ rs) old new = (mid : Tries) × AreAllCarriedBack rs old mid × AreCarriedBack r mid new
