use Rattle.ghc_pool.proofs.Words.{[], ◌∷◌, ◌++◌, refl, sym, subst, arith, length-append, World, at_start, TookInQuestion}
use Rattle.ghc_pool.proofs.Asked.{none_since, one_since}
use Rattle.ghc_pool.proofs.Failures.{none_noted}
use Rattle.ghc_pool.proofs.Taking.{takes_one, takes_tried}
use Rattle.ghc_pool.proofs.runs.drain.drain.Goals as goal

pub loop-taken-init : goal.loop-taken-init
loop-taken-init c =
    let core = c.args.core.now in
    record {
      steps = [];
      taken = at_start;
      count = refl;
      asked = subst (TookInQuestion c.args.root core.world.kept) (sym c.next-since.ensures) (none_since c.args.root core.world c.stands.ensures.standing);
      unfailed = none_noted c.args.root core.world core.notes core.untried c.stands.ensures.exact c.requires;
    }

pub advance-requires-clause-took : goal.advance-requires-clause-took
advance-requires-clause-took c = c.loop-taken.invariant.asked

pub advance-requires-clause-unfailed : goal.advance-requires-clause-unfailed
advance-requires-clause-unfailed c = c.loop-taken.invariant.unfailed

pub loop-taken-preserved : goal.loop-taken-preserved
loop-taken-preserved c =
    let old = c.args.core.now in
    let core = c.loop-taken.core in
    let new = c.advance.new.core in
    let before = c.loop-taken.invariant in
    let s = c.advance.ensures.step c.if-not-advance.false in
    let long = length-append before.steps (s.0 ∷ []) in
    let count = before.count in
    record {
      steps = before.steps ++ s.0 ∷ [];
      taken = takes_one c.args.spies.now c.args.root old.world core.world new.world old.notes core.notes new.notes before.steps s.0 before.taken s.1;
      count = omega (arith, long, count);
      asked = subst (λ (w : World). TookInQuestion c.args.root w.kept c.next-since.result) (sym s.1.world) (one_since 1 c.args.spies.now c.args.root core.world s.1.notes s.0 c.next-since.result s.1.step before.asked);
      unfailed = s.1.unfailed;
    }

pub returns-then-not-advance-clause-taken : goal.returns-then-not-advance-clause-taken
returns-then-not-advance-clause-taken c =
    let old = c.args.core.now in
    let core = c.loop-taken.core in
    let new = c.advance.new.core in
    let before = c.loop-taken.invariant in
    let none = c.advance.ensures.none c.if-not-advance.true in
    (before.steps, takes_tried 1 c.args.spies.now c.args.root old.world core.world new.world old.notes core.notes new.notes before.steps before.taken none.0 none.1, before.count)
