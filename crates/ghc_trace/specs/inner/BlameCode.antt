-- How the calls of a slice stand in a list, and which of them are in question.
use Rattle.std.specs.Prelude.{◌≡◌, ◌≢◌, ◌⊎◌, ◌↔◌, ◌<◌, ◌≤◌, ◌+◌, ◌∷◌, ◌++◌, [], ℕ, Bool, true, false, List, length, map, slice_get, slice_index, slice_set, Option, Some, None, IfSome, IsTrue}
use Rattle.std.specs.BTreeMap.{BTreeMap, get}
use Rattle.std.specs.BTreeMap.Range.{IsLtBy}
use Rattle.std.specs.FinMap as finite
use Rattle.std.specs.List.{sum}
use Rattle.std.specs.Ordering.{eq_by_cmp, nat_cmp}
use Rattle.ghc_term.specs.declared.goal_name.GoalName.{GoalName}
use Rattle.ghc_term.specs.Goal.{Goal}
use Rattle.ghc_term.specs.GoalMap.{goal_cmp}
use Rattle.ghc_term.specs.Lists.{In}
use Rattle.ghc_records.specs.Record.{Record, State}
use Rattle.ghc_depend.specs.Depend.{MakesGoal}
use Rattle.ghc_trace.specs.declared.answered.ToldWrong.{ToldWrong}
use Rattle.ghc_trace.specs.declared.judgements.Answer.{Answer}
use Rattle.ghc_trace.specs.declared.judgements.Judgement.{Judgement}
use Rattle.ghc_trace.specs.declared.judgements.Judgement.TheVariants.{Right, Wrong}
use Rattle.ghc_trace.specs.declared.slice_calls.Call.{Call}
use Rattle.ghc_trace.specs.declared.tops.LastBelow.{LastBelow}
use Rattle.ghc_trace.specs.declared.next_question.Choice.{Choice}
use Rattle.ghc_trace.specs.Blaming.{IsCall, IsCallOf, IsInQuestion, IsTold}

-- The call stands at this place.
abbrev pub StandsAtPlace : List Call → ℕ → Call → Type 0
StandsAtPlace calls i c = slice_get calls i ≡ Some c

-- Of what is asked about, this is the call, if it is one that is there.
abbrev pub IsAskedAbout : State → Option GoalName → Option GoalName → Type 0
IsAskedAbout t target asked_about = (g : GoalName) → (asked_about ≡ Some g) ↔ ((target ≡ Some g) × (b : Goal) × (finite.get t.goals g ≡ Some b) × IsCall b)

-- One of the steps took the call named g, and made the goal named h.
abbrev pub IsMadeFor : List Record → GoalName → GoalName → Type 0
IsMadeFor rs g h = (r : Record) × In r rs × (r.goal ≡ Some g) × MakesGoal r h

-- The step of this number took the call; or none did, where no number is given.
abbrev pub IsTaker : List Record → GoalName → Option ℕ → Type 0
IsTaker rs g (Some n) = (r : Record) × (b : Goal) × In r rs × (r.number ≡ n) × (r.goal ≡ Some g) × (r.consumed ≡ Some b) × IsCall b
IsTaker rs g None = (r : Record) → In r rs → ¬ (r.goal ≡ Some g)

-- The list has each of the calls named once, after the call whose step made it. Each tells that one by its place, and the step that took it by its number.
pub record AreCallsBy (rs : List Record) (named : GoalName → Type 0) (calls : List Call) : Type 0 where
  pub all : (g : GoalName) → named g ↔ ((i : ℕ) × (c : Call) × StandsAtPlace calls i c × (c.name ≡ g))
  pub once : (i j : ℕ) (c d : Call) → StandsAtPlace calls i c → StandsAtPlace calls j d → c.name ≡ d.name → i ≡ j
  pub before : (i p : ℕ) (c : Call) → StandsAtPlace calls i c → c.maker ≡ Some p → p < i
  pub makers : (i p : ℕ) (c : Call) → StandsAtPlace calls i c → (c.maker ≡ Some p) ↔ ((d : Call) × StandsAtPlace calls p d × IsMadeFor rs d.name c.name)
  pub takers : (i : ℕ) (c : Call) → StandsAtPlace calls i c → IsTaker rs c.name c.taker

-- The list has the calls of the steps so.
abbrev pub AreCallsOf : List Record → State → Option GoalName → List Call → Type 0
AreCallsOf rs t target calls = AreCallsBy rs (IsCallOf rs t target) calls

-- Each call stands after its maker.
abbrev pub AreMakersBefore : List Call → Type 0
AreMakersBefore calls = (i p : ℕ) (c : Call) → StandsAtPlace calls i c → c.maker ≡ Some p → p < i

-- Under the name of each call stands its place.
abbrev pub ArePlacesOf : List Call → BTreeMap GoalName ℕ → Type 0
ArePlacesOf calls places = (g : GoalName)
    → ((i : ℕ) → get goal_cmp places g ≡ Some i → (i < length calls) × ((c : Call) → StandsAtPlace calls i c → IsTrue (eq_by_cmp goal_cmp c.name g)))
    × (get goal_cmp places g ≡ None → (i : ℕ) (c : Call) → StandsAtPlace calls i c → c.name ≢ g)

-- The step of this number took the call at the place; or it took none of these, where no place is given.
abbrev pub IsPlaceTakenBy : List Call → ℕ → Option ℕ → Type 0
IsPlaceTakenBy calls n (Some p) = (d : Call) × StandsAtPlace calls p d × (d.taker ≡ Some n)
IsPlaceTakenBy calls n None = (p : ℕ) (d : Call) → StandsAtPlace calls p d → d.taker ≢ Some n

-- Under the number of each step that took one of the calls stands its place; and each call stands after its maker.
pub record AreFound (calls : List Call) (takers : BTreeMap ℕ ℕ) : Type 0 where
  pub taken : (n : ℕ) → IsPlaceTakenBy calls n (get nat_cmp takers n)
  pub before : AreMakersBefore calls

-- The new list has a call of this name and taker more, at its end. Its maker is the call that the step of its name's number took.
abbrev pub AddsCall : List Call → List Call → GoalName → Option ℕ → Type 0
AddsCall old new name taker = (maker : Option ℕ) × IsPlaceTakenBy old name.step maker × (new ≡ old ++ record { name = name; maker = maker; taker = taker } ∷ [])

-- The step took the call named g.
abbrev pub TakesCall : Record → GoalName → Type 0
TakesCall r g = (b : Goal) × (r.goal ≡ Some g) × (r.consumed ≡ Some b) × IsCall b

-- If the step took a call, the new list has that call more.
abbrev pub AddsTaken : List Call → List Call → Record → Type 0
AddsTaken old new r = ((g : GoalName) × TakesCall r g × AddsCall old new g (Some r.number)) ⊎ (((g : GoalName) → ¬ TakesCall r g) × (new ≡ old))

-- This is the name of the call at the place, or none for the query.
abbrev pub IsNameOfTop : List Call → Option ℕ → Option GoalName → Type 0
IsNameOfTop calls None name = name ≡ None
IsNameOfTop calls (Some p) name = (c : Call) × StandsAtPlace calls p c × (name ≡ Some c.name)

-- Under each goal of which something was told stands what was told last.
abbrev pub AreJudged : List Answer → BTreeMap GoalName Judgement → Type 0
AreJudged told judged = (g : GoalName) (j : Judgement) → (get goal_cmp judged g ≡ Some j) ↔ IsTold told g j

-- The call at the place is said to be in question.
abbrev pub IsOpenAt : List Bool → ℕ → Type 0
IsOpenAt doubts i = slice_get doubts i ≡ Some true

-- A call with this maker is right below the top, or below a call that is in question.
abbrev pub IsOpenBelow : Option ℕ → Option ℕ → List Bool → Type 0
IsOpenBelow maker top doubts = ((maker ≡ None) × (top ≡ None)) ⊎ ((p : ℕ) × (maker ≡ Some p) × ((top ≡ Some p) ⊎ IsOpenAt doubts p))

-- The call is in question, if those before it are said to be in question as they are.
abbrev pub IsOpenCall : Call → BTreeMap GoalName Judgement → Option ℕ → List Bool → Type 0
IsOpenCall c judged top doubts = IsOpenBelow c.maker top doubts × ¬ (get goal_cmp judged c.name ≡ Some Right)

-- For each call, by place, it is said whether it is in question below the top.
pub record AreInQuestion (rs : List Record) (t : State) (target : Option GoalName) (told : List Answer) (top : Option GoalName) (calls : List Call) (doubts : List Bool) : Type 0 where
  pub long : length doubts ≡ length calls
  pub said : (i : ℕ) (c : Call) (b : Bool) → StandsAtPlace calls i c → slice_get doubts i ≡ Some b → IsTrue b ↔ IsInQuestion rs t target told top c.name

-- The call at the place has the property, and the answer tells it wrong.
abbrev pub IsToldWrong : List Call → List Answer → (GoalName → Type 0) → ToldWrong → Type 0
IsToldWrong calls told named w = (c : Call) × StandsAtPlace calls w.call c × named c.name × (slice_get told w.answer ≡ Some (record { goal = c.name; judgement = Wrong }))

-- The answer at the place comes after the one that tells this wrong, if there is one.
abbrev pub ComesAfter : Option ToldWrong → ℕ → Type 0
ComesAfter None j = Unit {0}
ComesAfter (Some w) j = w.answer < j

-- Of the goals with the property this is the call that was told wrong last; or none of them was told wrong, if there is none.
abbrev pub IsLastOf : List Call → List Answer → (GoalName → Type 0) → Option ToldWrong → Type 0
IsLastOf calls told named o = IfSome o (IsToldWrong calls told named) × ((j : ℕ) (a : Answer) → ComesAfter o j → slice_get told j ≡ Some a → a.judgement ≡ Wrong → ¬ named a.goal)

-- Each stands at the place of its call.
abbrev pub StandAtTheirPlaces : List (Option ToldWrong) → Type 0
StandAtTheirPlaces wrong = (i : ℕ) (w : ToldWrong) → slice_get wrong i ≡ Some (Some w) → w.call ≡ i

-- Under the place it is noted that the answer tells the call there wrong, if a place is given; the others stay.
abbrev pub NotesAnswer : Option ℕ → ℕ → List (Option ToldWrong) → List (Option ToldWrong) → Type 0
NotesAnswer None j old new = new ≡ old
NotesAnswer (Some p) j old new = new ≡ slice_set old p (Some (record { call = p; answer = j }))

-- For each call, by place, it is said whether it was told wrong, and by which answer last.
abbrev pub AreToldWrong : List Call → List Answer → List (Option ToldWrong) → Type 0
AreToldWrong calls told wrong = (i : ℕ) (c : Call) (o : Option ToldWrong) → StandsAtPlace calls i c → slice_get wrong i ≡ Some o → IsLastOf calls told (λ g. g ≡ c.name) o

-- The second was not told wrong before the first.
abbrev pub IsNotEarlier : Option ToldWrong → Option ToldWrong → Type 0
IsNotEarlier None o = Unit {0}
IsNotEarlier (Some w) None = ⊥
IsNotEarlier (Some w) (Some v) = w.answer ≤ v.answer

-- Of two, this is the one that was told wrong later.
abbrev pub IsLaterOf : Option ToldWrong → Option ToldWrong → Option ToldWrong → Type 0
IsLaterOf one other o = ((o ≡ one) ⊎ (o ≡ other)) × IsNotEarlier one o × IsNotEarlier other o

-- This is noted for the call at the place, or for the query, where no place is given.
abbrev pub IsNotedFor : LastBelow → Option ℕ → Option ToldWrong → Type 0
IsNotedFor last None o = last.query ≡ o
IsNotedFor last (Some p) o = slice_get last.calls.items p ≡ Some o

-- Nothing is noted, for the query and so many calls.
abbrev pub HasNothing : ℕ → LastBelow → Type 0
HasNothing count last = (length last.calls.items ≡ count) × ((place : Option ℕ) (o : Option ToldWrong) → IsNotedFor last place o → o ≡ None)

-- For the place the later of the two is noted now, and for others what was.
abbrev pub NotesLater : Option ℕ → Option ToldWrong → LastBelow → LastBelow → Type 0
NotesLater place wrong old new = (length new.calls.items ≡ length old.calls.items)
    × ((before now : Option ToldWrong) → IsNotedFor old place before → IsNotedFor new place now → IsLaterOf before wrong now)
    × ((other : Option ℕ) (now : Option ToldWrong) → other ≢ place → IsNotedFor new other now → IsNotedFor old other now)

-- Each that is noted is one of so many calls, and stands behind the one for which it is noted.
pub record StandBelow (count : ℕ) (last : LastBelow) : Type 0 where
  pub long : length last.calls.items ≡ count
  pub below : (place : Option ℕ) (w : ToldWrong) → IsNotedFor last place (Some w) → (w.call < count) × IfSome place (λ p. p < w.call)

-- For the query and for each call, the call is noted that was told wrong last of those in question below.
abbrev pub AreLastBelow : List Record → State → Option GoalName → List Answer → List Call → LastBelow → Type 0
AreLastBelow rs t target told calls last = (place : Option ℕ) (top : Option GoalName) (o : Option ToldWrong) → IsNameOfTop calls place top → IsNotedFor last place o
    → IsLastOf calls told (IsInQuestion rs t target told top) o

-- one for a call in question, and nothing for another one
abbrev pub one_of : Bool → ℕ
one_of true = 1
one_of false = 0

-- how many calls are in question
abbrev pub count_open : List Bool → ℕ
count_open doubts = sum (map one_of doubts)

-- The maker's weight has gained the weight at the place, if there is a maker; the others stay.
abbrev pub AddsToMaker : Option ℕ → ℕ → List ℕ → List ℕ → Type 0
AddsToMaker None place old new = new ≡ old
AddsToMaker (Some p) place old new = new ≡ slice_set old p (slice_index old p + slice_index old place)

-- Each call has a weight, of at most as many as are in question; and each in question weighs one or more.
pub record AreWeightsWithin (doubts : List Bool) (weights : List ℕ) : Type 0 where
  pub long : length weights ≡ length doubts
  pub within : (i w : ℕ) → slice_get weights i ≡ Some w → w ≤ count_open doubts
  pub some : (i w : ℕ) → IsOpenAt doubts i → slice_get weights i ≡ Some w → 1 ≤ w

-- The choice a is nearer to the half than b, or as near and not later by name.
abbrev pub IsNoWorse : Choice → Choice → Type 0
IsNoWorse a b = (a.off < b.off) ⊎ ((a.off ≡ b.off) × ((a.name ≡ b.name) ⊎ IsLtBy goal_cmp a.name b.name))
