-- What events count as fired and tried.
use Rattle.std.specs.Prelude.{◌≡◌, ℕ, zero, suc, ◌+◌, List, [], ◌∷◌, Option, Some, None}
use Rattle.ghc_term.specs.declared.goal_name.GoalName.{GoalName}
use Rattle.ghc_term.specs.declared.fault.Fault.{Fault}
use Rattle.ghc_fire.specs.declared.meter.Meter.{Meter}
use Rattle.ghc_fire.specs.Meter.{fired, tried}
use Rattle.std.specs.FinMap as finite
use Rattle.ghc_records.specs.Journal.{Entry, took, redid}
use Rattle.ghc_core.specs.World.{World, Hands, IsHand, Proposal}
use Rattle.ghc_core.specs.Proposes.{IsNoCandidate}
use Rattle.ghc_core.specs.Anyway.{IsNotObeyedAnyway}
use Rattle.ghc_core.specs.Events.{Command, redo, Event, propose, commit, note, command}

-- Where this holds one firing was counted, and else none.
abbrev pub FiresWhere : Type 0 → Meter → Meter → Type 0
FiresWhere Holds m n = (Holds → n ≡ fired m) × ((¬ Holds) → n ≡ m)

-- Where this holds no firing was counted, and else one.
abbrev pub FiresUnless : Type 0 → Meter → Meter → Type 0
FiresUnless Holds m n = (Holds → n ≡ m) × ((¬ Holds) → n ≡ fired m)

-- Where this holds no try was counted, and else one.
abbrev pub TriesUnless : Type 0 → Meter → Meter → Type 0
TriesUnless Holds m n = (Holds → n ≡ m) × ((¬ Holds) → n ≡ tried m)

-- A redo of step n is refused whatever memory is left: before it fires.
abbrev pub IsNotRedoneAnyway : World → ℕ → Type 0
IsNotRedoneAnyway w n = (f : Fault) × IsNotObeyedAnyway w (redo n) f

-- Obeying the command in the world w takes the counts from m to n: a redo fires once, unless it is refused whatever memory is left; no other command fires or tries.
abbrev pub CountsInObeying : World → Command → Meter → Meter → Type 0
CountsInObeying w (redo k) m n = FiresUnless (IsNotRedoneAnyway w k) m n
CountsInObeying w c m n = n ≡ m

-- Meeting the event takes the core's counts from m to n: a commit fires once where its hand holds a proposal, a note tries once unless there is no goal to try, and a command counts as it does where it is obeyed; a proposal does not count here.
abbrev pub Counts : World → Hands → Event → Meter → Meter → Type 0
Counts w hands (propose h g choice) m n = n ≡ m
Counts w hands (commit h) m n = FiresWhere (IsHand hands h × ((p : Proposal) × (finite.get hands.held h ≡ Some p))) m n
Counts w hands (note g) m n = TriesUnless (IsNoCandidate w g) m n
Counts w hands (command c) m n = CountsInObeying w c m n

-- Meeting the event takes the counts of what hands proposed from m to n: a proposal fires once where there is its hand; no other event counts here.
abbrev pub CountsProposal : Hands → Event → Meter → Meter → Type 0
CountsProposal hands (propose h g choice) m n = FiresWhere (IsHand hands h) m n
CountsProposal hands e m n = n ≡ m

-- the counts after so many firings more
abbrev pub after_firings : ℕ → Meter → Meter
after_firings zero m = m
after_firings (suc n) m = after_firings n (fired m)

-- how many firings a command counts that is obeyed: one for a redo, and none for another
abbrev pub firings_of_command : Command → ℕ
firings_of_command (redo n) = 1
firings_of_command c = 0

-- how many a step counts that is taken as written: one if it consumes a goal, and none if it asks for goals
abbrev pub firings_of_step : Option GoalName → ℕ
firings_of_step None = 0
firings_of_step (Some g) = 1

-- how many an entry counts that is carried out: one for a step that consumes a goal, and for a redo; none for another
abbrev pub firings_of_entry : Entry → ℕ
firings_of_entry (took s) = firings_of_step s.goal
firings_of_entry (redid n) = 1
firings_of_entry entry = 0

-- .. and all of them
abbrev pub firings_of_entries : List Entry → ℕ
firings_of_entries [] = 0
firings_of_entries (entry ∷ entries) = firings_of_entry entry + firings_of_entries entries
