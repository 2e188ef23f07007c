use Rattle.ghc_console.proofs.CitedWords.{◌≡◌, ◌++◌, [], ◌∷◌, sym, ap, ◌∙◌, append_assoc, Named, lent, next_in}
use Rattle.ghc_console.proofs.replies.goal_listing.has_too_long.Goals as goal

pub loop-goal-init : goal.loop-goal-init
loop-goal-init c =
    let gives : c.into_iter-goal-iterator.result ≡ c.args.goals.now.entries = c.into_iter-goal-iterator.ensures.into_iter_gives.0 in
    ([], sym (ap lent gives))

pub loop-goal-preserved : goal.loop-goal-preserved
loop-goal-preserved c =
    let goal : Named = (c.in-Some.field-0-0.now, c.in-Some.goal.now.now) in
    let rest = c.loop-goal.invariant in
    (rest.0 ++ goal ∷ [], rest.1 ∙ ap (λ es. rest.0 ++ lent es) c.in-Some.ensures.steps ∙ sym (append_assoc rest.0 (goal ∷ []) (lent c.next.new.self)))

pub returns-then-is_too_long : goal.returns-then-is_too_long
returns-then-is_too_long c _ = (
  (c.in-Some.field-0-0.now, c.in-Some.goal.now.now),
  next_in _ c.loop-goal.invariant.0 _ _ _ c.loop-goal.invariant.1 c.in-Some.ensures.steps,
  c.is_too_long.ensures c.if-is_too_long.true,
)
