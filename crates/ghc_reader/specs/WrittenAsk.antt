-- What is asked for in mid-run, as it is written.
use Rattle.std.specs.Prelude.{◌≡◌, ◌≢◌, ℕ, ◌+◌, List, [], length, filter, Option, Some, None, slice_get, refl}
use Rattle.std.specs.Coded.{Coded, code_by, coded×, coded_list, coded_option}
use Rattle.ghc_term.specs.declared.var_name.VarName.{VarName}
use Rattle.ghc_term.specs.Goal.{Goal}
use Rattle.ghc_term.specs.inner.GoalCode.{goal_code}
use Rattle.ghc_term.specs.inner.Code.{name_code}
use Rattle.ghc_term.specs.Variables.{variables_of_goals, firsts}
use Rattle.ghc_reader.specs.Source as source
use Rattle.ghc_reader.specs.Lexed.{IsNumberedAs, greatest_number}
use Rattle.ghc_reader.specs.Lowered.{Names, blank, Each, SaysGoal, doing, AreNamed}
use Rattle.ghc_reader.specs.Written.{AreNumbered, is_stream, IsWithinLimits}

-- What is asked for: goals in order, whose i-th variable, by first occurrence, is `_0_i`; and for each of these the variable of the state that it names, or none where it is a new one.
pub record WrittenAsk : Type 0 where
  pub goals : List Goal
  pub named : List (Option VarName)

-- the code of what is asked for in mid-run, which no two different requests share
abbrev pub ask_code : Coded WrittenAsk
ask_code =
    code_by (List Goal × List (Option VarName)) (coded× (coded_list goal_code) (coded_list (coded_option name_code))) (λ a. (a.goals, a.named))
    (λ p. record { goals = p.0; named = p.1 }) (λ _. refl)

-- The name is no `_n_m` with numbers that a variable can have.
abbrev pub IsUnnumbered : List ℕ → Type 0
IsUnnumbered v = (n m : ℕ) → ¬ (IsNumberedAs v n m)

-- Where the query gives its variables these names, a variable called v in a text names this variable of the state, or none: `_n_m` the
-- one of these numbers, or `_0_0`, which no state has, where n is the greatest number, which no step has; another name the query's
-- variable of that name; and any else, as `_`, is that of a new variable.
pub data IsNaming (query : Names) (v : List ℕ) : Option VarName → Type 0 where
  of_state : {n m : ℕ} → IsNumberedAs v n m → n ≢ greatest_number → IsNaming query v (Some (record { step = n; place = m }))
  of_no_step : {m : ℕ} → IsNumberedAs v greatest_number m → IsNaming query v (Some (record { step = 0; place = 0 }))
  of_query : (i : ℕ) → IsUnnumbered v → v ≢ blank → slice_get query i ≡ Some v → IsNaming query v (Some (record { step = 0; place = i + 1 }))
  is_new : IsUnnumbered v → ((i : ℕ) → slice_get query i ≡ Some v → v ≡ blank) → IsNaming query v None

-- What is asked for says what the parse trees say, where the query gives its variables these names.
pub record SaysAsk (query : Names) (gs : List source.Goal) (a : WrittenAsk) : Type 0 where
  pub names : Names
  pub goals : Each (SaysGoal names) (doing gs) a.goals
  pub variables : AreNamed names (variables_of_goals a.goals)
  pub named : Each (IsNaming query) names a.named

-- What holds of what is asked for, in whatever text: its variables are numbered, and `named` has an entry for each.
-- No stream stands in it, and goals and variables are within the limits.
pub record IsWellPut (a : WrittenAsk) : Type 0 where
  pub numbered : AreNumbered (variables_of_goals a.goals)
  pub told : length a.named ≡ length (firsts [] (variables_of_goals a.goals))
  pub plain : filter is_stream a.goals ≡ []
  pub limited : IsWithinLimits a.goals (length a.named)
