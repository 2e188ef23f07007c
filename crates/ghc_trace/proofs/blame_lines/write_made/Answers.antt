use Rattle.ghc_term.proofs.Pieces.{through}
use Rattle.ghc_trace.proofs.Words.{◌≡◌, ◌++◌, List, ℕ, true, false, arith, common_steps, sym, subst, ap, ◌∙◌, append_assoc, codes, string_bytes, Some, Goal, StoreValue, StartsWith}
use Rattle.ghc_term.specs.GoalText.{goal_text}
use Rattle.ghc_records.specs.StepText.{goal_name_text}
use Rattle.ghc_trace.specs.BlameLines.{as_made, left, only}
use Rattle.ghc_trace.specs.PartLines.{IsShown, TellsMade, made_line}
use Rattle.ghc_trace.specs.inner.BlameLinesCode.{IsGoalOf}
use Rattle.ghc_trace.proofs.BlameMade.{fate_told, other_told}
use Rattle.ghc_trace.proofs.CausePlaces.{on_ok}
use Rattle.ghc_trace.proofs.blame_lines.write_made.Goals as goal

pub returns-then-is_target-clause-text : goal.returns-then-is_target-clause-text
returns-then-is_target-clause-text c = on_ok c.write_goal.result c.write_goal.ensures.text (λ (text, shown, eq) rs t about of.
    let name = c.args.name in
    let tail = codes " left " ++ (text ++ codes "\n") in (
      made_line name (codes " left ") text,
      left (c.is_target.ensures.0 c.if-is_target.true) (subst (λ (s : StoreValue). IsShown s c.args.goal.now text) (sym about.world.left) shown),
      eq ∙ ap (λ m. m ++ tail) c.in_ok-push_goal_name.ensures ∙ append_assoc (string_bytes c.args.out.now) (goal_name_text name) tail,
    ))

pub returns-then-is_call-clause-text : goal.returns-then-is_call-clause-text
returns-then-is_call-clause-text c = on_ok c.write_fate.result c.write_fate.ensures.text (λ (word, text, fate, shown, eq) rs t about of.
    let w = c.args.told.now.core.now.world in
    let name = c.args.name in
    let call = c.is_call.ensures.0 c.if-is_call.true in
    let other : ¬ (c.args.told.now.target ≡ Some name) = λ e. let clash : false ≡ true = sym c.if-is_target.false ∙ c.is_target.ensures.1 e in cc in
    let here = subst (λ (s : StoreValue). IsShown s c.args.goal.now text) (sym about.world.left) shown in
    let tail = word ++ (text ++ codes "\n") in (
      made_line name word text,
      as_made other (subst (λ (z : Goal). TellsMade (only w rs t) name z (made_line name word text)) (sym call.2)
          (fate_told c.args.told.now rs t about name call.0 call.1 word text other (subst (IsGoalOf w.opening.query rs name) call.2 of) fate (subst (λ (z : Goal). IsShown t.store z text) call.2 here))),
      eq ∙ ap (λ m. m ++ tail) c.in_ok-push_goal_name.ensures ∙ append_assoc (string_bytes c.args.out.now) (goal_name_text name) tail,
    ))

pub returns-clause-text : goal.returns-clause-text
returns-clause-text c rs t about of =
    let name = c.args.name in
    let b = c.args.goal.now in
    let other : ¬ (c.args.told.now.target ≡ Some name) = λ e. let clash : false ≡ true = sym c.if-is_target.false ∙ c.is_target.ensures.1 e in cc in
    let tail = codes " " ++ (goal_text b ++ codes "\n") in (
      made_line name (codes " ") (goal_text b),
      as_made other (other_told c.args.told.now rs t about name b (λ k. let clash : false ≡ true = sym c.if-is_call.false ∙ c.is_call.ensures.1 k in cc)),
      c.in_ok-write_as_made.ensures.text ∙ ap (λ m. m ++ tail) c.in_ok-push_goal_name.ensures ∙ append_assoc (string_bytes c.args.out.now) (goal_name_text name) tail,
    )

pub returns-in_err-write_as_made-clause-begun : goal.returns-in_err-write_as_made-clause-begun
returns-in_err-write_as_made-clause-begun c =
    let old = string_bytes c.args.out.now in
    let name = goal_name_text c.args.name in
    let mid : StartsWith (old ++ name) old = grind (arith, common_steps) in
    through old (string_bytes c.push_goal_name.new.out) (string_bytes c.write_as_made.new.out) (subst (λ (z : List ℕ). StartsWith z old) (sym c.in_ok-push_goal_name.ensures) mid) c.write_as_made.ensures.begun
