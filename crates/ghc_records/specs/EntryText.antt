-- The texts of entries, and what lines say of them.
use Rattle.std.specs.Prelude.{◌≡◌, ◌⊎◌, ℕ, ◌≤◌, All, List, ◌++◌, codes, map, None}
use Rattle.std.specs.Fmt.{decimal}
use Rattle.ghc_term.specs.Goal.{Goal}
use Rattle.ghc_term.specs.InputTerm.{most_open}
use Rattle.ghc_term.specs.Lists.{In}
use Rattle.ghc_reader.specs.Read.{IsReadBody}
use Rattle.ghc_reader.specs.WrittenAsk.{WrittenAsk}
use Rattle.ghc_fire.specs.Asked.{asked_of, own_variables, made_from}
use Rattle.ghc_fire.specs.declared.act.Act.TheVariants.{Asked as asked}
use Rattle.ghc_records.specs.Journal.{Step, Entry, took, undid, rolled, redid, reordered}
use Rattle.ghc_records.specs.StepText.{body_text, followed_by, step_text}
use Rattle.ghc_records.specs.HistoryText.{SaysStep}
use Rattle.ghc_reader.specs.Lexed.{greatest_number}

-- numbers, each after a space
abbrev pub numbers_behind : List ℕ → List ℕ
numbers_behind ns = followed_by (codes " ") (map decimal ns)

-- an entry: a step, `undo N`, `roll N`, `redo N`, or `arrange N N ..`
abbrev pub entry_text : Entry → List ℕ
entry_text (took s) = step_text s
entry_text (undid n) = codes "undo " ++ decimal n
entry_text (rolled n) = codes "roll " ++ decimal n
entry_text (redid n) = codes "redo " ++ decimal n
entry_text (reordered ns) = codes "arrange" ++ numbers_behind ns

-- The number is one from 1 on, of 32 bits.
abbrev pub IsNamed : ℕ → Type 0
IsNamed n = (1 ≤ n) × (n ≤ greatest_number)

-- At no place of the text more than 1,000 brackets are open.
abbrev pub OpensFew : List ℕ → Type 0
OpensFew text = most_open 0 text ≤ 1000

-- The text is read as goals that are asked for, each variable of which it calls `_n_m`, and these are the goals. It opens few brackets, and so does what is printed of the goals.
abbrev pub SaysGoals : List ℕ → List Goal → Type 0
SaysGoals text gs = (a : WrittenAsk) × IsReadBody text a × ¬ In None a.named × (gs ≡ asked_of a) × OpensFew text × OpensFew (body_text gs)

-- The variables of step n in the goals are `_n_1`, `_n_2`, .. by first occurrence.
abbrev pub AreNewInOrder : ℕ → List Goal → Type 0
AreNewInOrder n gs = (k : ℕ) × (own_variables n gs ≡ made_from n 1 k)

-- The line says a step that asks for goals and consumes none: its number, from 1 on, then `- ask ` and any text of the goals. Its new
-- variables stand there in order.
pub record SaysAsking (line : List ℕ) (s : Step) : Type 0 where
  pub goals : List Goal
  pub body : List ℕ
  pub parts : line ≡ decimal s.number ++ (codes " " ++ (codes "- ask " ++ body))
  pub number : IsNamed s.number
  pub of_none : s.goal ≡ None
  pub asks : s.act ≡ asked goals
  pub says : SaysGoals body goals
  pub new : AreNewInOrder s.number goals

-- The line says the entry.
abbrev pub SaysEntry : List ℕ → Entry → Type 0
SaysEntry line (took s) = SaysStep line s ⊎ SaysAsking line s
SaysEntry line (undid n) = (line ≡ codes "undo " ++ decimal n) × IsNamed n
SaysEntry line (rolled n) = (line ≡ codes "roll " ++ decimal n) × IsNamed n
SaysEntry line (redid n) = (line ≡ codes "redo " ++ decimal n) × IsNamed n
SaysEntry line (reordered ns) = (line ≡ codes "arrange" ++ numbers_behind ns) × All IsNamed ns
