-- What `blame` tells: the next question about a call of a slice, or the verdict. It tells of a call what would be told of it where only the steps of the slice were kept.
use Rattle.std.specs.Prelude.{◌≡◌, ◌≢◌, ◌⊎◌, ◌+◌, ℕ, List, [], ◌∷◌, ◌++◌, codes, length, Option, Some, None}
use Rattle.std.specs.Fmt.{decimal}
use Rattle.std.specs.FinMap as finite
use Rattle.ghc_term.specs.declared.goal_name.GoalName.{GoalName}
use Rattle.ghc_term.specs.Goal.{Goal}
use Rattle.ghc_term.specs.Lists.{In}
use Rattle.ghc_term.specs.Bindings.{Reaches}
use Rattle.ghc_term.specs.Store.{StoreValue, value_at}
use Rattle.ghc_term.specs.Tree.{variable}
use Rattle.ghc_records.specs.Journal.{step_of}
use Rattle.ghc_records.specs.Record.{Record, State}
use Rattle.ghc_records.specs.Replay.{IsVariableOf}
use Rattle.ghc_records.specs.StepText.{goal_name_text, step_text}
use Rattle.ghc_depend.specs.Depend.{Descends}
use Rattle.ghc_depend.specs.Deletion.{IsPartedBy}
use Rattle.ghc_depend.specs.Parts.{GavePlace}
use Rattle.ghc_depend.specs.Slices.{IsCauseOf, IsGoalSliceOf, IsSliceOf}
use Rattle.ghc_core.specs.World.{World, IsReplay}
use Rattle.ghc_hooks.specs.Status.{Status}
use Rattle.ghc_trace.specs.declared.judgements.Answer.{Answer}
use Rattle.ghc_trace.specs.declared.judgements.Subject.{Subject}
use Rattle.ghc_trace.specs.declared.judgements.Subject.TheVariants as subject
use Rattle.ghc_trace.specs.Blaming.{IsAsked, IsCallOf, IsFault, IsTop}
use Rattle.ghc_trace.specs.GoalLines.{IsTooLong}
use Rattle.ghc_trace.specs.News.{Stands, status_text}
use Rattle.ghc_trace.specs.PartLines.{IsShown, TellsGiven, TellsMade, made_line}
use Rattle.ghc_trace.specs.Parts.{IsStoreGiven}

-- the world in which only these steps were kept, and which they left in this state
abbrev pub only : World → List Record → State → World
only w rs t = record w { kept = rs; state = t }

-- The steps are the slice of the subject: of the kept steps those that gave it what it is, and all on which these depend.
abbrev pub IsSliceBehind : World → Subject → List Record → List Record → Type 0
IsSliceBehind w (subject.Value x) rs rest = IsSliceOf w.kept w.state x rs rest
IsSliceBehind w (subject.Place x y) rs rest = IsPartedBy w.kept (IsCauseOf w.kept (GavePlace (value_at w.state.store) x y)) rs rest
IsSliceBehind w (subject.Goal g) rs rest = (b : Goal) × (finite.get w.state.goals g ≡ Some b) × IsGoalSliceOf w.opening.program w.kept w.state g b rs rest

-- the goal that is the subject, if a goal is
abbrev pub target_of : Subject → Option GoalName
target_of (subject.Value x) = None
target_of (subject.Place x y) = None
target_of (subject.Goal g) = Some g

-- TellsMadeGoal w target h b line: the line tells the goal b, named h, which a step made or the query has: with `left` the goal asked about, and each other one as a part tells it.
pub data TellsMadeGoal (w : World) (target : Option GoalName) (h : GoalName) (b : Goal) : List ℕ → Type 0 where
  left : {text : List ℕ} → target ≡ Some h → IsShown w.state.store b text → TellsMadeGoal w target h b (made_line h (codes " left ") text)
  as_made : {line : List ℕ} → target ≢ Some h → TellsMade w h b line → TellsMadeGoal w target h b line

-- AreMadeGoals w target n bs text: the text is a line for each of the goals named n.1, n.2, .., by place.
pub data AreMadeGoals (w : World) (target : Option GoalName) (n : ℕ) : List Goal → List ℕ → Type 0 where
  no_goal : AreMadeGoals w target n [] []
  and_goal : {bs : List Goal} {text : List ℕ} (b : Goal) (line : List ℕ) → AreMadeGoals w target n bs text → TellsMadeGoal w target (record { step = n; place = length bs + 1 }) b line
      → AreMadeGoals w target n (bs ++ b ∷ []) (text ++ line)

-- AreAskedGoals w target rs text: the text is a line for each goal for which one of the steps asked.
pub data AreAskedGoals (w : World) (target : Option GoalName) : List Record → List ℕ → Type 0 where
  no_step : AreAskedGoals w target [] []
  and_ask : {rs : List Record} {text made : List ℕ} (r : Record) → AreAskedGoals w target rs text → r.goal ≡ None → AreMadeGoals w target r.number r.effect.makes made
      → AreAskedGoals w target (rs ++ r ∷ []) (text ++ made)
  and_step : {rs : List Record} {text : List ℕ} (r : Record) → AreAskedGoals w target rs text → r.goal ≢ None → AreAskedGoals w target (rs ++ r ∷ []) text

-- The line tells how the goal asked about stands in the world, where it descends from g in the slice; else there is none.
abbrev pub TellsLeft : World → List Record → Option GoalName → GoalName → List ℕ → Type 0
TellsLeft w rs target g line =
    ((h : GoalName) × (s : Status) × (target ≡ Some h) × Descends rs g h × Stands w h s
    × (line ≡ codes "left " ++ (goal_name_text h ++ (codes " " ++ (status_text s ++ codes "\n")))))
    ⊎ (((h : GoalName) → target ≡ Some h → ¬ Descends rs g h) × (line ≡ []))

-- TellsCallOf w rs t target g taker lines: the lines tell what the call g was given and what it gave, where a step of the slice took it, and how the goal asked about was left, if that descends from g.
pub data TellsCallOf (w : World) (rs : List Record) (t : State) (target : Option GoalName) (g : GoalName) : Option Record → List ℕ → Type 0 where
  taken_so : {given shown line : List ℕ} (r : Record) (b : Goal) → In r rs → r.goal ≡ Some g → r.consumed ≡ Some b → TellsGiven (only w rs t) g b given → IsShown t.store b shown
      → TellsLeft w rs target g line → TellsCallOf w rs t target g (Some r) (given ++ (codes "gave " ++ (shown ++ (codes "\n" ++ line))))
  not_taken : {given line : List ℕ} (b : Goal) → target ≡ Some g → finite.get t.goals g ≡ Some b → TellsGiven (only w rs t) g b given → TellsLeft w rs target g line
      → TellsCallOf w rs t target g None (given ++ line)

-- TellsBlame w rs t target told text: the text tells the next question about a call of the slice, by these answers; or what is at fault: a step, with what the goals that it made gave; the goal asked about; or the query.
pub data TellsBlame (w : World) (rs : List Record) (t : State) (target : Option GoalName) (told : List Answer) : List ℕ → Type 0 where
  asks : {top : Option GoalName} {count : ℕ} {g : GoalName} {taker : Option Record} {lines : List ℕ} → IsTop rs t target told top → IsAsked rs t target told top count g
      → TellsCallOf w rs t target g taker lines
      → TellsBlame w rs t target told (lines ++ (codes "ask " ++ (goal_name_text g ++ (codes " of " ++ (decimal count ++ codes "\n")))))
  fault_of_step : {g : GoalName} {r : Record} {lines made : List ℕ} → IsFault rs t target told (Some g) → TellsCallOf w rs t target g (Some r) lines
      → AreMadeGoals (only w rs t) target r.number r.effect.makes made
      → TellsBlame w rs t target told (lines ++ (made ++ (codes "fault " ++ (step_text (step_of r) ++ codes "\n"))))
  fault_of_goal : {g : GoalName} {lines : List ℕ} → IsFault rs t target told (Some g) → TellsCallOf w rs t target g None lines
      → TellsBlame w rs t target told (lines ++ (codes "fault " ++ (goal_name_text g ++ codes "\n")))
  fault_of_query : {made asked : List ℕ} → IsFault rs t target told None → AreMadeGoals (only w rs t) target 0 w.opening.query made → AreAskedGoals (only w rs t) target rs asked
      → TellsBlame w rs t target told (made ++ (asked ++ codes "fault 0\n"))

-- The subject is known: its variables are the query's or a kept step's, or its goal is there.
abbrev pub IsKnownSubject : World → Subject → Type 0
IsKnownSubject w (subject.Value x) = IsVariableOf w.opening.query w.kept x
IsKnownSubject w (subject.Place x y) = IsVariableOf w.opening.query w.kept x × IsVariableOf w.opening.query w.kept y
IsKnownSubject w (subject.Goal g) = (b : Goal) × (finite.get w.state.goals g ≡ Some b)

-- The subject is a place, and its first variable does not reach the second.
abbrev pub IsNoPlace : World → Subject → Type 0
IsNoPlace w (subject.Value x) = ⊥
IsNoPlace w (subject.Place x y) = ¬ Reaches (value_at w.state.store) (variable x) y
IsNoPlace w (subject.Goal g) = ⊥

-- The text tells the next question about the slice of the subject, or the verdict.
pub record TellsBlameOf (w : World) (s : Subject) (told : List Answer) (text : List ℕ) : Type 0 where
  pub slice : List Record
  pub rest : List Record
  pub state : State
  pub is_slice : IsSliceBehind w s slice rest
  pub is_there : ¬ IsNoPlace w s
  pub replays : IsReplay w slice state
  pub about_calls : (a : Answer) → In a told → IsCallOf slice state (target_of s) a.goal
  pub tells : TellsBlame w slice state (target_of s) told text

-- The goal b is named g: one of the steps took it, or it is there.
abbrev pub IsGoalNamed : List Record → State → GoalName → Goal → Type 0
IsGoalNamed rs t g b = ((r : Record) × In r rs × (r.goal ≡ Some g) × (r.consumed ≡ Some b)) ⊎ (finite.get t.goals g ≡ Some b)

-- It is told of the call g: it is the one to be asked about, or the one at fault.
abbrev pub IsToldOf : List Record → State → Option GoalName → List Answer → GoalName → Type 0
IsToldOf rs t target told g = ((top : Option GoalName) × (count : ℕ) × IsTop rs t target told top × IsAsked rs t target told top count g) ⊎ IsFault rs t target told (Some g)

-- HasTooLongTold w rs t target told: a text that would be told has more bytes than are printed: what a call was given, what it gave, or a goal that was made for it, or for the query.
pub data HasTooLongTold (w : World) (rs : List Record) (t : State) (target : Option GoalName) (told : List Answer) : Type 0 where
  given_is_too_long : (g : GoalName) (b : Goal) (store : StoreValue) → IsToldOf rs t target told g → IsGoalNamed rs t g b → IsStoreGiven rs t g b store → IsTooLong store b
      → HasTooLongTold w rs t target told
  gave_is_too_long : (g : GoalName) (b : Goal) → IsToldOf rs t target told g → IsGoalNamed rs t g b → IsTooLong t.store b → HasTooLongTold w rs t target told
  made_is_too_long : (g : GoalName) (r : Record) (b : Goal) → IsFault rs t target told (Some g) → In r rs → r.goal ≡ Some g → In b r.effect.makes → IsTooLong t.store b
      → HasTooLongTold w rs t target told
  query_is_too_long : (b : Goal) → IsFault rs t target told None → In b w.opening.query ⊎ ((r : Record) × In r rs × (r.goal ≡ None) × In b r.effect.makes) → IsTooLong t.store b
      → HasTooLongTold w rs t target told

-- The subject is in the term, if it is a place; and of its slice, one of the answers is about no call.
abbrev pub HasAnswerBeside : World → Subject → List Answer → Type 0
HasAnswerBeside w s told = (¬ IsNoPlace w s) × (rs rest : List Record) × (t : State) × (a : Answer) × IsSliceBehind w s rs rest × IsReplay w rs t × In a told × (¬ IsCallOf rs t (target_of s) a.goal)

-- The subject is in the term, if it is a place; of its slice, a text that would be told is too long, and each answer is about a call.
abbrev pub HasTooLongBlame : World → Subject → List Answer → Type 0
HasTooLongBlame w s told = (¬ IsNoPlace w s) × (rs rest : List Record) × (t : State) × IsSliceBehind w s rs rest × IsReplay w rs t × ((a : Answer) → In a told → IsCallOf rs t (target_of s) a.goal)
    × HasTooLongTold w rs t (target_of s) told
