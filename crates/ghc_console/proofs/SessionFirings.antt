-- How many firings a session has come to.
use Rattle.ghc_console.proofs.CitedWords.{◌≡◌, ◌≤◌, ◌+◌, ◌∙◌, ℕ, Option, None, Some, IfSome, List, [], ◌∷◌, inl, inr, ap, arith, sum_by-append, Command, command_of, Fires, FiresInObeying, firings_in, firings_of, firings_of_obeying, runs_in, runs_of, lines_of, TakesLine, LineCommand, Step, Obey, Leap, Skip}
use Rattle.ghc_core.specs.CommandCode.{command_of as core_command_of}
use Rattle.ghc_core.specs.Events as command

-- obeying a command of the core may fire nothing
pub obeys_nothing : (c : Command) (m n : ℕ) → n ≡ m → FiresInObeying c m n
obeys_nothing (command.redo k) m n e = inl e
obeys_nothing c m n e = e

-- and no more than it asks for
obeys_few : (c : Command) (m n : ℕ) → FiresInObeying c m n → n ≤ m + firings_of_obeying c
obeys_few (command.redo k) m n (inl e) = omega (arith, e)
obeys_few (command.redo k) m n (inr e) = omega (arith, e)
obeys_few c m n e = omega (arith, e)

-- a command may fire nothing
pub fires_nothing : (c : LineCommand) (m n : ℕ) → n ≡ m → Fires c m n
fires_nothing (Step goal choice) m n e = inl e
fires_nothing (Obey c) m n e = obeys_nothing (core_command_of c) m n e
fires_nothing (Leap limit) m n e = tt
fires_nothing (Skip goal) m n e = tt
fires_nothing c m n e = e

-- and where it is no run, no more than it asks for
fires_few : (c : LineCommand) (m n : ℕ) → runs_of c ≡ 0 → Fires c m n → n ≤ m + firings_of c
fires_few (Step goal choice) m n none (inl e) = omega (arith, e)
fires_few (Step goal choice) m n none (inr e) = omega (arith, e)
fires_few (Obey c) m n none fires = obeys_few (core_command_of c) m n fires
fires_few (Leap limit) m n none e = absurd (omega (arith, none))
fires_few (Skip goal) m n none e = absurd (omega (arith, none))
fires_few c m n none e = omega (arith, e)

-- where no line is a run, none that is left is one, and with those no more was fired than the lines ask for
abbrev pub FiredSo : Option (List ℕ) → Option (List ℕ) → ℕ → ℕ → Type 0
FiredSo None left m n = Unit {0}
FiredSo (Some input) None m n = ⊥
FiredSo (Some input) (Some rest) m n = runs_in (lines_of input) ≡ 0 → (runs_in (lines_of rest) ≡ 0) × (n + firings_in (lines_of rest) ≤ m + firings_in (lines_of input))

pub fired_start : (unread : Option (List ℕ)) (m n : ℕ) → n ≡ m → FiredSo unread unread m n
fired_start None m n e = tt
fired_start (Some input) m n e = λ none. (none, omega (arith, e))

firings_more : (line : List ℕ) (lines : List (List ℕ)) → firings_in (line ∷ lines) ≡ firings_of (command_of line) + firings_in lines
firings_more line lines =
    let both = sum_by-append (λ (l : List ℕ). firings_of (command_of l)) (line ∷ []) lines in
    omega (arith, both)

runs_more : (line : List ℕ) (lines : List (List ℕ)) → runs_in (line ∷ lines) ≡ runs_of (command_of line) + runs_in lines
runs_more line lines =
    let both = sum_by-append (λ (l : List ℕ). runs_of (command_of l)) (line ∷ []) lines in
    omega (arith, both)

-- one line on
pub fired_on : (unread left left' : Option (List ℕ)) (m n n' : ℕ) (P : List ℕ → Type 0) → FiredSo unread left m n → TakesLine left left' P
    → ((bytes : List ℕ) → P bytes → Fires (command_of bytes) n n') → FiredSo unread left' m n'
fired_on None left left' m n n' P f t r = tt
fired_on (Some input) None left' m n n' P f t r = absurd f
fired_on (Some input) (Some rest) None m n n' P f t r = absurd t
fired_on (Some input) (Some rest) (Some rest') m n n' P f t r = λ none.
    let before = f none in
    let runs : runs_in (lines_of rest) ≡ runs_of (command_of t.bytes) + runs_in (lines_of rest') = ap runs_in t.lines ∙ runs_more t.bytes (lines_of rest') in
    let no_run = before.0 in
    let fired = before.1 in
    let few = fires_few (command_of t.bytes) n n' (omega (arith, runs, no_run)) (r t.bytes t.says) in
    let lines : firings_in (lines_of rest) ≡ firings_of (command_of t.bytes) + firings_in (lines_of rest') = ap firings_in t.lines ∙ firings_more t.bytes (lines_of rest') in
    (omega (arith, runs, no_run), omega (arith, few, fired, lines))

-- what was fired by the end
pub fired_end : (unread left : Option (List ℕ)) (m n : ℕ) → FiredSo unread left m n → IfSome unread (λ input. runs_in (lines_of input) ≡ 0 → n ≤ m + firings_in (lines_of input))
fired_end None left m n f = tt
fired_end (Some input) None m n f = absurd f
fired_end (Some input) (Some rest) m n f = λ none. let fired = (f none).1 in omega (arith, fired)
