-- What is known of a slice that is told of, and what the lines about its calls say, one after another.
use Rattle.std.specs.Prelude.{◌≡◌, ◌≢◌, ◌⊎◌, ◌++◌, ℕ, List, [], codes, Option, Some, None}
use Rattle.std.specs.FinMap as finite
use Rattle.ghc_term.specs.declared.goal_name.GoalName.{GoalName}
use Rattle.ghc_term.specs.Goal.{Goal}
use Rattle.ghc_term.specs.Lists.{In}
use Rattle.ghc_term.specs.Store.{StoreValue}
use Rattle.ghc_flat.specs.Clause.{Query}
use Rattle.ghc_records.specs.Record.{Record, State, numbers, with_makes}
use Rattle.ghc_depend.specs.Depend.{IsKeptAs, MakesGoal}
use Rattle.ghc_core.specs.World.{World}
use Rattle.ghc_trace.specs.declared.blame_lines.Told.{Told}
use Rattle.ghc_trace.specs.declared.blaming.Behind.{Behind}
use Rattle.ghc_trace.specs.declared.judgements.Subject.{Subject}
use Rattle.ghc_trace.specs.declared.slice_calls.Call.{Call}
use Rattle.ghc_trace.specs.BlameLines.{AreMadeGoals, IsGoalNamed, IsNoPlace, IsSliceBehind, only, target_of}
use Rattle.ghc_trace.specs.GoalLines.{IsTooLong}
use Rattle.ghc_trace.specs.PartLines.{IsShown, TellsGiven}
use Rattle.ghc_trace.specs.Parts.{IsStoreGiven}
use Rattle.ghc_trace.specs.inner.BlameCode.{AreCallsOf, StandsAtPlace}
use Rattle.ghc_trace.specs.inner.PartsCode.{IsWorldOf}

-- The steps rs, which leave the state t, are a slice of the world: their numbers, the store and the calls are these. The goal asked about is there in both, and the step that made it is one of these.
pub record IsToldSlice (w : World) (ns : List ℕ) (store : StoreValue) (list : List Call) (target : Option GoalName) (rs : List Record) (t : State) : Type 0 where
  pub world : IsWorldOf w.kept ns store (only w rs t)
  pub calls : AreCallsOf rs t target list
  pub there : (g : GoalName) → target ≡ Some g → (b : Goal) × (finite.get w.state.goals g ≡ Some b) × (finite.get t.goals g ≡ Some b)
  pub makers : (g : GoalName) (r : Record) → target ≡ Some g → In r w.kept → MakesGoal r g → In r rs

-- What is told is about the slice of the steps rs, which leave the state t.
abbrev pub IsAbout : Told → List Record → State → Type 0
IsAbout told rs t = IsToldSlice told.core.now.world told.steps.now told.store.now.held told.calls.now.list.items told.target rs t

-- What is told is about a slice.
abbrev pub IsAboutSlice : Told → Type 0
IsAboutSlice told = (rs : List Record) × (t : State) × IsAbout told rs t

-- The goal b is named g: the query has it so, or one of the steps made it so.
abbrev pub IsGoalOf : Query → List Record → GoalName → Goal → Type 0
IsGoalOf query rs g b = (finite.get (with_makes 0 1 query finite.empty) g ≡ Some b) ⊎ ((r : Record) × In r rs × (finite.get (with_makes r.number 1 r.effect.makes finite.empty) g ≡ Some b))

-- These are the goals of the query, and the number is 0; or the step of this number made them, which is one of these.
abbrev pub AreGoalsOf : Query → List Record → ℕ → List Goal → Type 0
AreGoalsOf query rs n gs = ((n ≡ 0) × (query ≡ gs)) ⊎ ((r : Record) × IsKeptAs rs n r × (r.effect.makes ≡ gs))

-- The word tells how a call went on that was made: it is one of these calls, or none of them.
abbrev pub HasFate : List Call → GoalName → List ℕ → Type 0
HasFate calls g word =
    (((i : ℕ) × (c : Call) × StandsAtPlace calls i c × (c.name ≡ g)) × (word ≡ codes " gave "))
    ⊎ (((i : ℕ) (c : Call) → StandsAtPlace calls i c → c.name ≢ g) × (word ≡ codes " stands "))

-- The call is the goal b: the step took it that it names, or none did, and it is the goal asked about.
abbrev pub IsCallNamed : List Record → State → Option GoalName → Call → Goal → Type 0
IsCallNamed rs t target c b =
    ((n : ℕ) × (r : Record) × (c.taker ≡ Some n) × IsKeptAs rs n r × (r.goal ≡ Some c.name) × (r.consumed ≡ Some b))
    ⊎ ((c.taker ≡ None) × (target ≡ Some c.name) × (finite.get t.goals c.name ≡ Some b))

-- The text tells what the call, which is the goal b, was given, and what it gave, if a step took it.
abbrev pub TellsCallGiven : World → List Record → State → Call → Goal → List ℕ → Type 0
TellsCallGiven w rs t c b text =
    ((n : ℕ) × (given : List ℕ) × (shown : List ℕ) × (c.taker ≡ Some n) × TellsGiven (only w rs t) c.name b given × IsShown t.store b shown
    × (text ≡ given ++ (codes "gave " ++ (shown ++ codes "\n"))))
    ⊎ ((c.taker ≡ None) × TellsGiven (only w rs t) c.name b text)

-- The record is that of the step of this number, if a number is given.
abbrev pub IsTakerOf : List Record → Option ℕ → Option Record → Type 0
IsTakerOf rs None taker = taker ≡ None
IsTakerOf rs (Some n) taker = (r : Record) × IsKeptAs rs n r × (taker ≡ Some r)

-- A text of the goal b, named g, is too long: that of what it was given, or of what it gave.
abbrev pub HasTooLongGoal : List Record → State → GoalName → Goal → Type 0
HasTooLongGoal rs t g b = ((given : StoreValue) × IsStoreGiven rs t g b given × IsTooLong given b) ⊎ IsTooLong t.store b

-- A text of the goal named g is too long.
abbrev pub HasTooLongCall : List Record → State → GoalName → Type 0
HasTooLongCall rs t g = (b : Goal) × IsGoalNamed rs t g b × HasTooLongGoal rs t g b

-- The text is a line for each goal for which the step asked, and nothing where it took one.
abbrev pub TellsAsked : World → Option GoalName → Record → List ℕ → Type 0
TellsAsked w target r text = ((r.goal ≡ None) × AreMadeGoals w target r.number r.effect.makes text) ⊎ ((r.goal ≢ None) × (text ≡ []))

-- The step of this number asked for a goal whose text is too long.
abbrev pub HasTooLongAsked : List Record → StoreValue → ℕ → Type 0
HasTooLongAsked kept store n = (r : Record) × (b : Goal) × IsKeptAs kept n r × (r.goal ≡ None) × In b r.effect.makes × IsTooLong store b

-- These are the numbers of the slice of what is asked about, which is a place, if a place is asked about.
abbrev pub IsToldBehind : World → Subject → List ℕ → Type 0
IsToldBehind w s ns = (rs : List Record) × (rest : List Record) × IsSliceBehind w s rs rest × (numbers rs ≡ ns) × (¬ IsNoPlace w s)

-- What is told of the subject is about its slice, and the subject is in the term, if it is a place.
pub record IsGathered (w : World) (s : Subject) (behind : Behind) : Type 0 where
  pub slice : List Record
  pub rest : List Record
  pub state : State
  pub is_slice : IsSliceBehind w s slice rest
  pub is_there : ¬ IsNoPlace w s
  pub about : IsToldSlice w behind.steps.items behind.store.held behind.calls.list.items (target_of s) slice state
