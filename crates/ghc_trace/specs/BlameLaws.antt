-- Laws of what is asked about calls, and of what is said to be at fault.
use Rattle.std.specs.Prelude.{◌≡◌, Bool, List, [], ◌∷◌, ◌++◌, Option}
use Rattle.ghc_term.specs.declared.goal_name.GoalName.{GoalName}
use Rattle.ghc_flat.specs.Clause.{Program, Query}
use Rattle.ghc_records.specs.Record.{Record, State}
use Rattle.ghc_records.specs.Replay.{Replays}
use Rattle.ghc_trace.specs.declared.judgements.Judgement.{Judgement}
use Rattle.ghc_trace.specs.declared.judgements.Answer.{Answer}
use Rattle.ghc_trace.specs.Blaming.{Accords, IsFault, IsInQuestion, IsJudgedAtFault, IsTop}

-- What is said to be at fault is so, however one judges in accord with the answers.
abbrev pub BlameIsSound : Type 0
BlameIsSound =
    (P : Program) (query : Query) (rs : List Record) (t : State) (target : Option GoalName) (told : List Answer) (top : Option GoalName) (right : GoalName → Bool)
    → Replays P query rs t → IsFault rs t target told top → Accords right told → IsJudgedAtFault rs t target right top

-- One answer more about a call in question leaves a top below which that call is in question no more, and each that is was so before.
pub record GoesOn (rs : List Record) (t : State) (target : Option GoalName) (told more : List Answer) (top : Option GoalName) (g : GoalName) : Type 0 where
  pub new : Option GoalName
  pub is_top : IsTop rs t target more new
  pub answered : ¬ IsInQuestion rs t target more new g
  pub fewer : (h : GoalName) → IsInQuestion rs t target more new h → IsInQuestion rs t target told top h

-- So it is after each answer: no call is asked about twice, and fewer are in question each time.
abbrev pub BlameGoesOn : Type 0
BlameGoesOn =
    (P : Program) (query : Query) (rs : List Record) (t : State) (target : Option GoalName) (told : List Answer) (top : Option GoalName) (g : GoalName) (j : Judgement)
    → Replays P query rs t → IsTop rs t target told top → IsInQuestion rs t target told top g
    → GoesOn rs t target told (told ++ record { goal = g; judgement = j } ∷ []) top g

-- There is one top: which call is asked about, or what is at fault, is settled by the answers.
abbrev pub BlameHasOneTop : Type 0
BlameHasOneTop =
    (P : Program) (query : Query) (rs : List Record) (t : State) (target : Option GoalName) (told : List Answer) (one other : Option GoalName)
    → Replays P query rs t → IsTop rs t target told one → IsTop rs t target told other → one ≡ other
