-- Which call of a slice is asked about, and which step is at fault, by what a user told of the calls.
use Rattle.std.specs.Prelude.{◌≡◌, ◌≢◌, ◌⊎◌, ◌↔◌, ◌<◌, ◌+◌, ◌-◌, ℕ, Bool, List, ◌∷◌, ◌++◌, length, Option, Some, None, IsTrue}
use Rattle.std.specs.FinMap as finite
use Rattle.std.specs.BTreeMap.Range.{IsLtBy}
use Rattle.ghc_term.specs.declared.goal_name.GoalName.{GoalName}
use Rattle.ghc_term.specs.Goal.{Goal, call}
use Rattle.ghc_term.specs.GoalMap.{goal_cmp}
use Rattle.ghc_term.specs.Lists.{In}
use Rattle.ghc_term.specs.Tree.{Tree}
use Rattle.ghc_records.specs.Orders.{AreDistinct}
use Rattle.ghc_records.specs.Record.{Record, State}
use Rattle.ghc_depend.specs.Depend.{Descends, MakesGoal}
use Rattle.ghc_trace.specs.declared.judgements.Judgement.{Judgement}
use Rattle.ghc_trace.specs.declared.judgements.Judgement.TheVariants.{Right, Wrong}
use Rattle.ghc_trace.specs.declared.judgements.Answer.{Answer}

-- The goal is a call.
abbrev pub IsCall : Goal → Type 0
IsCall b = (f : List ℕ) × (ts : List Tree) × (b ≡ call f ts)

-- One of the steps took the call named g.
abbrev pub IsCallTaken : List Record → GoalName → Type 0
IsCallTaken rs g = (r : Record) × (b : Goal) × In r rs × (r.goal ≡ Some g) × (r.consumed ≡ Some b) × IsCall b

-- g is a call of the steps rs, which leave the state t: one of them took it, or it is the goal asked about, and a call.
abbrev pub IsCallOf : List Record → State → Option GoalName → GoalName → Type 0
IsCallOf rs t target g = IsCallTaken rs g ⊎ ((target ≡ Some g) × (b : Goal) × (finite.get t.goals g ≡ Some b) × IsCall b)

-- The goal g is below the top: it descends from the call that is the top, and is another one. Below the query each goal is.
abbrev pub IsBelow : List Record → Option GoalName → GoalName → Type 0
IsBelow rs None g = Unit {0}
IsBelow rs (Some top) g = Descends rs top g × (g ≢ top)

-- The last that was told of g is this.
abbrev pub IsTold : List Answer → GoalName → Judgement → Type 0
IsTold told g j = (earlier later : List Answer) × (told ≡ earlier ++ record { goal = g; judgement = j } ∷ later) × ((a : Answer) → In a later → a.goal ≢ g)

-- The call g is in question below the top: it is below, and neither it nor a goal between was told right.
abbrev pub IsInQuestion : List Record → State → Option GoalName → List Answer → Option GoalName → GoalName → Type 0
IsInQuestion rs t target told top g = IsCallOf rs t target g × IsBelow rs top g × ((k : GoalName) → IsBelow rs top k → Descends rs k g → ¬ IsTold told k Right)

-- Of the calls in question below the top, g was told wrong last.
abbrev pub IsLastWrong : List Record → State → Option GoalName → List Answer → Option GoalName → GoalName → Type 0
IsLastWrong rs t target told top g = IsInQuestion rs t target told top g
    × (earlier later : List Answer) × (told ≡ earlier ++ record { goal = g; judgement = Wrong } ∷ later)
    × ((a : Answer) → In a later → a.judgement ≡ Wrong → ¬ IsInQuestion rs t target told top a.goal)

-- IsReached rs t target told top: the top is the query, or of the calls in question below a top so reached it was told wrong last.
pub data IsReached (rs : List Record) (t : State) (target : Option GoalName) (told : List Answer) : Option GoalName → Type 0 where
  from_query : IsReached rs t target told None
  by_wrong : {top : Option GoalName} (g : GoalName) → IsReached rs t target told top → IsLastWrong rs t target told top g → IsReached rs t target told (Some g)

-- The top is reached so, and nothing in question below it was told wrong.
abbrev pub IsTop : List Record → State → Option GoalName → List Answer → Option GoalName → Type 0
IsTop rs t target told top = IsReached rs t target told top × ((a : Answer) → In a told → a.judgement ≡ Wrong → ¬ IsInQuestion rs t target told top a.goal)

-- So many goals have the property.
abbrev pub AreSoMany : (GoalName → Type 0) → ℕ → Type 0
AreSoMany P n = (gs : List GoalName) × AreDistinct gs × ((g : GoalName) → In g gs ↔ P g) × (length gs ≡ n)

-- The weight of a call: so many of those in question descend from it, itself one.
abbrev pub IsWeight : List Record → State → Option GoalName → List Answer → Option GoalName → GoalName → ℕ → Type 0
IsWeight rs t target told top g n = AreSoMany (λ h. IsInQuestion rs t target told top h × Descends rs g h) n

-- how far twice the weight is from one more than the count
abbrev pub off_half : ℕ → ℕ → ℕ
off_half weight count = (weight + weight - (count + 1)) + (count + 1 - (weight + weight))

-- Of the calls in question, so many, g is to be asked about: its weight is nearest to half of one more than are in question, and of those as near it is the first by name.
pub record IsAsked (rs : List Record) (t : State) (target : Option GoalName) (told : List Answer) (top : Option GoalName) (count : ℕ) (g : GoalName) : Type 0 where
  pub questions : AreSoMany (IsInQuestion rs t target told top) count
  pub one : IsInQuestion rs t target told top g
  pub weight : ℕ
  pub weighs : IsWeight rs t target told top g weight
  pub nearest : (h : GoalName) (n : ℕ) → IsInQuestion rs t target told top h → IsWeight rs t target told top h n
      → (off_half weight count < off_half n count) ⊎ ((off_half weight count ≡ off_half n count) × ((g ≡ h) ⊎ IsLtBy goal_cmp g h))

-- The top is the last one, and nothing is in question below it.
abbrev pub IsFault : List Record → State → Option GoalName → List Answer → Option GoalName → Type 0
IsFault rs t target told top = IsTop rs t target told top × ((g : GoalName) → ¬ IsInQuestion rs t target told top g)

-- A judgement of calls accords with what was told of them.
abbrev pub Accords : (GoalName → Bool) → List Answer → Type 0
Accords right told = ((g : GoalName) → IsTold told g Right → IsTrue (right g)) × ((g : GoalName) → IsTold told g Wrong → ¬ IsTrue (right g))

-- The top is judged wrong, where it is a call; and each call that its step made is judged right, or that the query has or was asked for.
abbrev pub IsJudgedAtFault : List Record → State → Option GoalName → (GoalName → Bool) → Option GoalName → Type 0
IsJudgedAtFault rs t target right (Some g) = (¬ IsTrue (right g))
    × ((r : Record) (h : GoalName) → In r rs → r.goal ≡ Some g → MakesGoal r h → IsCallOf rs t target h → IsTrue (right h))
IsJudgedAtFault rs t target right None = (h : GoalName) → IsCallOf rs t target h → ((r : Record) → In r rs → MakesGoal r h → r.goal ≡ None) → IsTrue (right h)
