use Rattle.ghc_flat.proofs.Words.{◌∙◌, [], ◌∷◌, append-nil, length, refl, inr, YieldsList-from_vec, YieldsList-turn, in_place}
use Rattle.ghc_flat.proofs.Tests.{tests_more}
use Rattle.ghc_flat.proofs.guards.tests_of_guards.Goals as goal

pub loop-guard-preserved-in-Continue-1 : goal.loop-guard-preserved-in-Continue-1
loop-guard-preserved-in-Continue-1 c =
    let made = rw c.in-Ok-Some.field-0-is at c.in-Ok-Some.ensures in
    rw c.in_ok-push-in-Ok-Some.ensures.items (tests_more c.args.count _ _ _ (c.in-Ok-Some.test ∷ []) c.loop-guard.invariant made)

pub loop-guard-preserved : goal.loop-guard-preserved
loop-guard-preserved c =
    let made = rw c.in-Ok-None.field-0-is at c.in-Ok-None.ensures in
    rw append-nil at (tests_more c.args.count c.loop-guard.yielded c.in-Some.guard c.loop-guard.tests.items [] c.loop-guard.invariant made)

pub returns-in-Err-clause-refused : goal.returns-in-Err-clause-refused
returns-in-Err-clause-refused c =
    let gives = c.into_iter-guard-iterator.ensures.into_iter_gives in
    let all = YieldsList-from_vec {s = c.into_iter-guard-iterator.result} c.args.guards.items gives.0 (gives.1 ∙ c.args.guards.ok.0) in
    let turn = YieldsList-turn all c.loop-guard.yielded c.loop-guard.guard-iterator c.loop-guard.yielded_by c.next.result c.next.new.self c.in-Some.guard c.in-Some.is c.next.ensures.steps in
    inr (refl, (c.in-Some.guard, in_place c.args.guards.items (length c.loop-guard.yielded) c.in-Some.guard turn.0 turn.1, c.in-Err.ensures))
