use Rattle.ghc_console.proofs.CitedWords.{◌≡◌, List, ℕ, sym, subst, ◌∙◌, In, numbers, string_bytes}
use Rattle.ghc_records.specs.Orders.{Picks}
use Rattle.ghc_console.specs.Keeping.{TellsKept}
use Rattle.ghc_console.specs.Replies.{RepliesToKeepGoal, keeps_goal, keeps_no_goal}
use Rattle.ghc_console.proofs.Keeping.{slice_numbers, rest_numbers, keep_goal_opening, of_none, of_some, opening_kept}
use Rattle.ghc_console.proofs.StepReplies.{if_ok, on_ok}
use Rattle.ghc_console.proofs.replies.keep.keep_goal.Goals as goal

pub returns-in_default-clause-text : goal.returns-in_default-clause-text
returns-in_default-clause-text c = if_ok c.refused.result c.refused.ensures.text c.refused.ensures.memory (λ _ told kept.
    let w = c.args.core.now.world in
    subst (λ t. RepliesToKeepGoal w c.args.name t w) (sym told) (keeps_no_goal (of_none _ _ c.in_ok-found.found c.in_default.is c.in_ok-found.ensures)))

pub keep_alone-requires-clause-slice : goal.keep_alone-requires-clause-slice
keep_alone-requires-clause-slice c =
    let w = c.args.core.now.world in
    let told = (of_some _ _ c.in_ok-found.found c.in-Some.slice c.in-Some.is c.in_ok-found.ensures).2 in
    let ns = c.as_slice.result.now in
    let is : numbers told.0 ≡ ns = told.3 ∙ sym c.as_slice.ensures.value in
    subst (λ (l : List ℕ). Picks (λ n. In n l) (numbers w.kept) l) is (slice_numbers w.kept told.0 told.1 c.stands.ensures.orderly.kept_once told.2)

pub returns-clause-text : goal.returns-clause-text
returns-clause-text c = on_ok c.keep_alone.result c.keep_alone.ensures.told (λ alone.
    let w = c.args.core.now.world in
    let v = c.keep_alone.new.core.world in
    let text = string_bytes c.keep_alone.new.reply in
    let found = of_some _ _ c.in_ok-found.found c.in-Some.slice c.in-Some.is c.in_ok-found.ensures in
    let told = found.2 in
    let is : c.as_slice.result.now ≡ numbers told.0 = c.as_slice.ensures.value ∙ sym told.3 in
    let rest = rest_numbers w.kept told.0 told.1 c.stands.ensures.orderly.kept_once told.2 alone.0 (subst (λ (l : List ℕ). Picks (λ n. ¬ In n l) (numbers w.kept) alone.0) is alone.1) in
    keeps_goal found.0 told.0 told.1 found.1 told.2 (subst (λ (ns : List ℕ). TellsKept w ns text v) rest alone.2))

pub returns-clause-opening : goal.returns-clause-opening
returns-clause-opening c =
    let w = c.args.core.now.world in
    let v = c.keep_alone.new.core.world in
    opening_kept c.keep_alone.result w v (on_ok c.keep_alone.result (returns-clause-text c) (keep_goal_opening w v c.args.name (string_bytes c.keep_alone.new.reply))) c.keep_alone.ensures.err
