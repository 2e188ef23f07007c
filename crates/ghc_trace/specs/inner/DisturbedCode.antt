-- Two such maps of goals with one code are one.
use Rattle.std.specs.Prelude.{◌≡◌, ◌⊎◌, ℕ, refl}
use Rattle.std.proofs.Common.{inl, inr}
use Rattle.std.specs.Coded.{Coded, code_by, coded⊎, coded_ℕ, coded_option}
use Rattle.std.specs.FinMap as finite
use Rattle.ghc_term.specs.Sets.{Variables}
use Rattle.ghc_fire.specs.inner.GoalsCode.{goal_name_code}
use Rattle.ghc_hooks.specs.inner.TriesCode.{variables_code}
use Rattle.ghc_trace.specs.Disturbed.{Disturbed}
use Rattle.ghc_trace.specs.declared.stuck.Stuck.{Stuck}
use Rattle.ghc_trace.specs.declared.stuck.Stuck.TheVariants.{Waiting, Failed}

-- what it is made of: the variables, or the number of the refusal
abbrev pub stuck_parts : Stuck → Variables ⊎ ℕ
stuck_parts (Waiting xs) = inl xs
stuck_parts (Failed n) = inr n

-- how a goal is stuck: on these variables, or by the refusal of this number
abbrev pub stuck_from : Variables ⊎ ℕ → Stuck
stuck_from (inl xs) = Waiting xs
stuck_from (inr n) = Failed n

-- How a goal is stuck is read back from its code as it was.
pub stuck_back : (s : Stuck) → stuck_from (stuck_parts s) ≡ s
stuck_back (Waiting xs) = refl
stuck_back (Failed n) = refl

-- the code of how a goal is stuck, which no other way to be stuck has
abbrev pub stuck_code : Coded Stuck
stuck_code = code_by (Variables ⊎ ℕ) (coded⊎ variables_code coded_ℕ) stuck_parts stuck_from stuck_back

-- the code of the disturbed goals, each with how it was stuck, which no other such map has
abbrev pub disturbed_code : Coded Disturbed
disturbed_code = finite.code goal_name_code (coded_option stuck_code)
