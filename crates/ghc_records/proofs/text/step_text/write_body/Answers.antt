use Rattle.ghc_records.proofs.Words.{rules, ◌≡◌, ◌+◌, ◌++◌, ◌==◌, true, false, List, [], ◌∷◌, length, map, drop, refl, sym, ap, ◌∙◌, arith, string_bytes, codes, drop_more, common_steps, Goal, goal_text, body_text}
use Rattle.ghc_records.proofs.Listing.{led, led_next}
use Rattle.ghc_records.proofs.text.step_text.write_body.Goals as goal

led_body : (gs : List Goal) → (length gs == 0) ≡ false → led (codes ", ") [] (map goal_text gs) ≡ body_text gs
led_body [] some = let never : true ≡ false = some in cc
led_body (g ∷ gs) some = refl

pub loop-goal-init : goal.loop-goal-init
loop-goal-init c = (
  search rules,
  ap (λ l. string_bytes c.args.out.now ++ l) (led_body c.args.goals.now (sym c.is_empty.ensures ∙ c.if-is_empty.false)),
  grind (arith, common_steps),
)

pub loop-goal-preserved : goal.loop-goal-preserved
loop-goal-preserved c =
    let gs = c.args.goals.now in
    let i = c.loop-goal.goal-index in
    let g = c.goal-item.result in
    let here = string_bytes c.loop-goal.out in (
      search rules,
      led_next (codes ", ") c.loop-goal.mark.now (goal_text g) (map goal_text (drop (i + 1) gs)) here (string_bytes c.push_str-in-loop-goal.new.self) (string_bytes c.push_goal_written.new.out) _
          c.in_ok-push_str.ensures.bytes c.in_ok-push_goal_written.ensures
          (ap (λ rest. here ++ led (codes ", ") c.loop-goal.mark.now (map goal_text rest)) (ap (λ z. z ∷ drop (i + 1) gs) c.goal-item.is ∙ sym (drop_more gs i g c.loop-goal-test.true)) ∙ c.loop-goal.invariant.1),
      grind (arith, common_steps),
    )
