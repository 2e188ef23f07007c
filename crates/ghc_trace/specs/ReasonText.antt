-- The texts of reasons.
use Rattle.std.specs.Prelude.{ℕ, Bool, true, false, List, [], ◌++◌, codes}
use Rattle.std.specs.Fmt.{decimal}
use Rattle.ghc_term.specs.Text.{variable_text}
use Rattle.ghc_depend.specs.declared.cause.Cause.{Cause}
use Rattle.ghc_depend.specs.declared.cause.Cause.TheVariants.{Made as made, Read as read, Named as named}
use Rattle.ghc_trace.specs.declared.reasons.Reason.{Reason}

-- the mark of a variable that woke a goal
abbrev pub woke_text : Bool → List ℕ
woke_text true = codes " woke"
woke_text false = []

-- for what a step depends on another: `made`, `read _0_1`, `read _0_1 woke`, or `named _1_1`
abbrev pub cause_told : Cause → List ℕ
cause_told made = codes "made"
cause_told (read x woke) = codes "read " ++ (variable_text x ++ woke_text woke)
cause_told (named x) = codes "named " ++ variable_text x

-- a reason: the step, and for what, as `3 made` or `2 read _0_2 woke`
abbrev pub reason_text : Reason → List ℕ
reason_text r = decimal r.step ++ (codes " " ++ cause_told r.cause)
