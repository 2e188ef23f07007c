-- The numbers and the texts of refusals.
use Rattle.std.specs.Prelude.{ℕ, List, ◌++◌, codes}
use Rattle.std.specs.Fmt.{decimal}
use Rattle.ghc_term.specs.Limit.{limit_word}
use Rattle.ghc_term.specs.declared.fault.Fault.{Fault}
use Rattle.ghc_term.specs.declared.fault.Fault.TheVariants.{Memory, Syntax, NotFlat, Repeated, Undefined, Limit, NoGoal, NoClause, Waits, NoMatch, Clash, Cycle, Arithmetic, NoStream, TailBound, NotKept, HasConsequence, NotShelved, Changed, Stale, NotLawful, Full, NoVariable, History, Command, Device}

-- the number of a refusal
abbrev pub fault_number : Fault → ℕ
fault_number Memory = 1
fault_number (Syntax line column) = 2
fault_number (NotFlat clause) = 3
fault_number (Repeated clause variable) = 4
fault_number (Undefined name arity) = 5
fault_number (Limit limit) = 6
fault_number NoGoal = 7
fault_number NoClause = 8
fault_number Waits = 9
fault_number NoMatch = 10
fault_number Clash = 11
fault_number Cycle = 12
fault_number Arithmetic = 13
fault_number NoStream = 14
fault_number TailBound = 15
fault_number NotKept = 16
fault_number (HasConsequence step) = 17
fault_number NotShelved = 18
fault_number Changed = 19
fault_number Stale = 20
fault_number (NotLawful earlier later) = 21
fault_number Full = 22
fault_number NoVariable = 23
fault_number (History line) = 24
fault_number Command = 25
fault_number Device = 26

-- the text of a refusal, byte by byte
abbrev pub fault_text : Fault → List ℕ
fault_text Memory = codes "F1 no memory"
fault_text (Syntax line column) = codes "F2 syntax at " ++ (decimal line ++ (codes ":" ++ decimal column))
fault_text (NotFlat clause) = codes "F3 not flat in clause " ++ decimal clause
fault_text (Repeated clause variable) = codes "F4 variable " ++ (variable ++ (codes " repeated in the head of clause " ++ decimal clause))
fault_text (Undefined name arity) = codes "F5 undefined " ++ (name ++ (codes "/" ++ decimal arity))
fault_text (Limit limit) = codes "F6 limit: " ++ limit_word limit
fault_text NoGoal = codes "F7 no goal"
fault_text NoClause = codes "F8 no such clause for the goal"
fault_text Waits = codes "F9 waits"
fault_text NoMatch = codes "F10 no clause matches"
fault_text Clash = codes "F11 clash"
fault_text Cycle = codes "F12 cycle"
fault_text Arithmetic = codes "F13 arithmetic"
fault_text NoStream = codes "F14 no open stream"
fault_text TailBound = codes "F15 tail is bound"
fault_text NotKept = codes "F16 not a kept step"
fault_text (HasConsequence step) = codes "F17 step " ++ (decimal step ++ codes " depends on it")
fault_text NotShelved = codes "F18 not on the shelf"
fault_text Changed = codes "F19 changed"
fault_text Stale = codes "F20 stale"
fault_text (NotLawful earlier later) = codes "F21 not lawful: " ++ (decimal earlier ++ (codes " " ++ decimal later))
fault_text Full = codes "F22 full"
fault_text NoVariable = codes "F23 no variable"
fault_text (History line) = codes "F24 history line " ++ decimal line
fault_text Command = codes "F25 command"
fault_text Device = codes "F26 device"
