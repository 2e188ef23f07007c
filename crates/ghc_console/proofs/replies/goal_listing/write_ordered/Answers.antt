use Rattle.ghc_console.proofs.CitedWords.{◌≡◌, arith, length, length-map, subst, In, lent, one_long}
use Rattle.ghc_console.proofs.ListedGoals.{goals_wrote, no_goal_wrote, too_long_wrote}
use Rattle.ghc_trace.proofs.Lines.{listed}
use Rattle.ghc_console.proofs.replies.goal_listing.write_ordered.Goals as goal

pub returns-then-len-eq0-clause-told : goal.returns-then-len-eq0-clause-told
returns-then-len-eq0-clause-told g c =
    let es = c.args.goals.now.entries in
    let long : length (lent es) ≡ length es = length-map es (λ e. (e.0, e.1.now)) in
    no_goal_wrote c.args.core.now.world (lent es) _ _ c.write_all.result c.requires.ordered (omega (arith, c.if-len-eq0.true, c.len.ensures.len, long)) c.write_all.ensures.bytes

pub returns-then-has_too_long-clause-told : goal.returns-then-has_too_long-clause-told
returns-then-has_too_long-clause-told g c =
    let w = c.args.core.now.world in
    let found = rw c.store.ensures at (c.has_too_long.ensures c.if-has_too_long.true) in
    too_long_wrote w _ _ c.write_refusal.result (one_long w.state.goals w.state.store found.0 (subst (In found.0) c.requires.ordered found.1) found.2) c.write_refusal.ensures.told

pub write_each-requires-clause-there : goal.write_each-requires-clause-there
write_each-requires-clause-there g c goal i = listed c.args.core.now.world.state.goals goal (subst (In goal) c.requires.ordered i)

pub returns-clause-told : goal.returns-clause-told
returns-clause-told g c =
    let es = c.args.goals.now.entries in
    let long : length (lent es) ≡ length es = length-map es (λ e. (e.0, e.1.now)) in
    goals_wrote c.args.core.now.world (lent es) _ _ c.write_each.result c.requires.ordered
    (λ none. c.if-len-eq0.false (omega (arith, none, c.len.ensures.len, long))) c.write_each.ensures.told
