-- Laws of chronicles as texts.
use Rattle.std.specs.Prelude.{◌≡◌, ◌≢◌, ◌⊎◌, ℕ, ◌+◌, ◌≤◌, All, List, [], ◌++◌, length, None}
use Rattle.ghc_term.specs.Goal.{Goal}
use Rattle.ghc_term.specs.InputTerm.{IsNameText}
use Rattle.ghc_term.specs.Lists.{In}
use Rattle.ghc_term.specs.Variables.{variables_of_goals, firsts}
use Rattle.ghc_reader.specs.Written.{IsWithinLimits}
use Rattle.ghc_reader.specs.PrintedGoals.{HasNumbers, IsWritableGoal}
use Rattle.ghc_fire.specs.Effect.{no_step}
use Rattle.ghc_fire.specs.Asked.{NameNoneOf}
use Rattle.ghc_fire.specs.declared.act.Act.TheVariants.{Asked as asked}
use Rattle.ghc_records.specs.declared.predicate.Predicate.{Predicate}
use Rattle.ghc_records.specs.Numbers.{kept_limit}
use Rattle.ghc_records.specs.Journal.{Step, Entry, took, undid, rolled, redid, reordered}
use Rattle.ghc_reader.specs.Lexed.{greatest_number}
use Rattle.ghc_records.specs.HistoryLaws.{IsOfAGoal, line_feeds}
use Rattle.ghc_records.specs.Chronicle.{Chronicle, AreBelow, AreInTurn, entry_limit, next_behind, spy_limit}
use Rattle.ghc_records.specs.StepText.{body_text}
use Rattle.ghc_records.specs.EntryText.{AreNewInOrder, IsNamed, OpensFew}
use Rattle.ghc_records.specs.ChronicleText.{IsNext, TellsChronicle, IsFirstWrongInChronicle, chronicle_text}

-- A text tells one chronicle at most, and none where a line of it is wrong: so just the texts that tell one are read, as what they tell.
pub record TextsTellOneChronicle : Type 0 where
  pub one : (text : List ℕ) (c other : Chronicle) → TellsChronicle text c → TellsChronicle text other → c ≡ other
  pub never_wrong : (text : List ℕ) (c : Chronicle) (line : ℕ) → TellsChronicle text c → ¬ IsFirstWrongInChronicle text line

-- ---- chronicles that can be written

-- Goals for which step n can ask in a text: the grammar has a text for each, with variables whose numbers have 32 bits; goals and variables are within the limits; no variable is one of no step; those of the step itself stand in order; and what is printed of the goals opens few brackets.
pub record CanBeAsked (n : ℕ) (gs : List Goal) : Type 0 where
  pub writable : (g : Goal) → In g gs → IsWritableGoal HasNumbers g
  pub limited : IsWithinLimits gs (length (firsts [] (variables_of_goals gs)))
  pub of_steps : NameNoneOf no_step gs
  pub new : AreNewInOrder n gs
  pub shallow : OpensFew (body_text gs)

-- The step asks for goals for which it can ask in a text, and consumes none.
pub record IsOfNoGoal (s : Step) : Type 0 where
  pub number : IsNamed s.number
  pub none : s.goal ≡ None
  pub goals : List Goal
  pub asks : s.act ≡ asked goals
  pub can : CanBeAsked s.number goals

-- A line can say the entry.
abbrev pub CanBeSaid : Entry → Type 0
CanBeSaid (took s) = IsOfAGoal s ⊎ IsOfNoGoal s
CanBeSaid (undid n) = IsNamed n
CanBeSaid (rolled n) = IsNamed n
CanBeSaid (redid n) = IsNamed n
CanBeSaid (reordered ns) = All IsNamed ns

-- The predicate has a name of the grammar, and an arity of 32 bits.
abbrev pub CanBeSpied : Predicate → Type 0
CanBeSpied p = IsNameText p.name × (p.arity ≤ greatest_number)

-- A text can tell the chronicle: the steps of its opening consume a goal each, no two have one number, and each has one below the next one; lines can say its entries, whose steps are numbered on from there one by one, up to its next number; its spies are predicates; and of none there are too many.
pub record CanBeTold (c : Chronicle) : Type 0 where
  pub few_steps : length c.opening.steps ≤ kept_limit
  pub steps : (s : Step) → In s c.opening.steps → IsOfAGoal s
  pub below : AreBelow c.opening.next c.opening.steps
  pub first : IsNext c.opening.next
  pub few_entries : length c.entries ≤ entry_limit
  pub entries : (e : Entry) → In e c.entries → CanBeSaid e
  pub in_turn : AreInTurn c.opening.next c.entries
  pub few_spies : length c.spies ≤ spy_limit
  pub spies : (p : Predicate) → In p c.spies → CanBeSpied p
  pub next : c.next ≡ next_behind c.opening.next c.entries

-- What is written of a chronicle that a text can tell tells it. A chronicle that a text tells is such a one, and its own text tells it.
pub record WrittenChroniclesAreReadAgain : Type 0 where
  pub written : (c : Chronicle) → CanBeTold c → TellsChronicle (chronicle_text c) c
  pub only : (text : List ℕ) (c : Chronicle) → TellsChronicle text c → CanBeTold c
  pub again : (text : List ℕ) (c : Chronicle) → TellsChronicle text c → TellsChronicle (chronicle_text c) c

-- A text that is cut off anywhere tells no chronicle: its first wrong line is the one after its last line feed.
abbrev pub CutChroniclesAreRefused : Type 0
CutChroniclesAreRefused =
    (text front back : List ℕ) (c : Chronicle) → TellsChronicle text c → text ≡ front ++ back → back ≢ [] → IsFirstWrongInChronicle front (line_feeds front + 1)
