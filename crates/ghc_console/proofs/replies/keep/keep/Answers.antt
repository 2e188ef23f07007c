use Rattle.ghc_console.proofs.CitedWords.{◌≡◌, List, ℕ, sym, subst, ◌∙◌, In, numbers, string_bytes, VarName, IsVariableNamed, RepliesToKeep, keeps, keeps_nothing}
use Rattle.ghc_records.specs.Orders.{Picks}
use Rattle.ghc_console.specs.Keeping.{TellsKept}
use Rattle.ghc_console.proofs.Keeping.{slice_numbers, rest_numbers, keep_opening, opening_kept}
use Rattle.ghc_console.proofs.StepReplies.{if_ok, on_ok}
use Rattle.ghc_console.proofs.replies.keep.keep.Goals as goal

pub returns-in_default-clause-text : goal.returns-in_default-clause-text
returns-in_default-clause-text c = if_ok c.refused.result c.refused.ensures.text c.refused.ensures.memory (λ _ told kept.
    let w = c.args.core.now.world in
    subst (λ t. RepliesToKeep w c.args.word.now t w) (sym told) (keeps_nothing (subst (λ (b : List ℕ). (x : VarName) → ¬ IsVariableNamed w b x) c.as_bytes.ensures.value c.in_default.ensures.none)))

pub keep_alone-requires-clause-slice : goal.keep_alone-requires-clause-slice
keep_alone-requires-clause-slice c =
    let w = c.args.core.now.world in
    let told = c.in_ok-slice.ensures in
    let ns = c.as_slice.result.now in
    let is : numbers told.0 ≡ ns = told.3 ∙ sym c.as_slice.ensures.value in
    subst (λ (l : List ℕ). Picks (λ n. In n l) (numbers w.kept) l) is (slice_numbers w.kept told.0 told.1 c.stands.ensures.orderly.kept_once told.2)

pub returns-clause-text : goal.returns-clause-text
returns-clause-text c = on_ok c.keep_alone.result c.keep_alone.ensures.told (λ alone.
    let w = c.args.core.now.world in
    let v = c.keep_alone.new.core.world in
    let text = string_bytes c.keep_alone.new.reply in
    let told = c.in_ok-slice.ensures in
    let is : c.as_slice.result.now ≡ numbers told.0 = c.as_slice.ensures.value ∙ sym told.3 in
    let rest = rest_numbers w.kept told.0 told.1 c.stands.ensures.orderly.kept_once told.2 alone.0 (subst (λ (l : List ℕ). Picks (λ n. ¬ In n l) (numbers w.kept) alone.0) is alone.1) in
    let named : IsVariableNamed w c.args.word.now c.in-Some.x = subst (λ (b : List ℕ). IsVariableNamed w b c.in-Some.x) c.as_bytes.ensures.value c.in-Some.ensures.found in
    keeps c.in-Some.x told.0 told.1 named told.2 (subst (λ (ns : List ℕ). TellsKept w ns text v) rest alone.2))

pub returns-clause-opening : goal.returns-clause-opening
returns-clause-opening c =
    let w = c.args.core.now.world in
    let v = c.keep_alone.new.core.world in
    opening_kept c.keep_alone.result w v (on_ok c.keep_alone.result (returns-clause-text c) (keep_opening w v c.args.word.now (string_bytes c.keep_alone.new.reply))) c.keep_alone.ensures.err
