use Rattle.ghc_pool.proofs.Words.{◌+◌, [], ◌++◌, refl, arith, length-append, at_start, starved, all_taken}
use Rattle.ghc_pool.proofs.Taking.{takes_more, takes_tried}
use Rattle.ghc_pool.proofs.runs.stretches.Team.go_on.Goals as goal

pub loop-added-init : goal.loop-added-init
loop-added-init g c = record { steps = []; taken = at_start; count = refl; few = omega arith; goes_on = c.requires.can; asked = c.requires.asked }

pub stretch-left-requires-clause-unfailed : goal.stretch-left-requires-clause-unfailed
stretch-left-requires-clause-unfailed g c κs within = c.loop-added.invariant.goes_on.unstopped.unfailed

pub loop-added-preserved : goal.loop-added-preserved
loop-added-preserved g c =
    let team = c.args.self.now in
    let old = c.args.core in
    let core = c.loop-added.core in
    let new = c.stretch-left.result.0 in
    let before = c.loop-added.invariant in
    let more = c.stretch-left.ensures.taken in
    let long = length-append before.steps more.0 in
    let count = before.count in
    let few = c.stretch-left.ensures.few in
    record {
      steps = before.steps ++ more.0;
      taken = takes_tried team.workers team.spies.now c.args.root old.world new.world c.pause.new.core.world old.notes new.notes c.pause.new.core.notes (before.steps ++ more.0)
          (takes_more team.workers team.spies.now c.args.root old.world core.world old.notes core.notes before.steps new.world new.notes more.0 before.taken more.1) c.in-Ok.ensures.world c.in-Ok.ensures.kept;
      count = omega (arith, long, count, more.2);
      few = omega (arith, few, before.few);
      goes_on = c.in-Ok.ensures.ready;
      asked = λ h i. (c.in-Ok.ensures.each h i).0;
    }

pub returns-then-taken-eq0 : goal.returns-then-taken-eq0
returns-then-taken-eq0 g c =
    let team = c.args.self.now in
    let old = c.args.core in
    let core = c.loop-added.core in
    let new = c.stretch-left.result.0 in
    let before = c.loop-added.invariant in
    let more = c.stretch-left.ensures.taken in
    let long = length-append before.steps more.0 in
    let count = before.count in
    record {
      before = old.notes;
      steps = before.steps ++ more.0;
      taken = takes_more team.workers team.spies.now c.args.root old.world core.world old.notes core.notes before.steps new.world new.notes more.0 before.taken more.1;
      count = omega (arith, long, count, more.2, c.if-taken-eq0.true);
      few = before.few;
      reason = starved tt;
    }

pub returns-in-Err : goal.returns-in-Err
returns-in-Err g c =
    let team = c.args.self.now in
    let old = c.args.core in
    let core = c.loop-added.core in
    let new = c.stretch-left.result.0 in
    let before = c.loop-added.invariant in
    let more = c.stretch-left.ensures.taken in
    let long = length-append before.steps more.0 in
    let count = before.count in
    let few = c.stretch-left.ensures.few in
    record {
      before = old.notes;
      steps = before.steps ++ more.0;
      taken = takes_tried team.workers team.spies.now c.args.root old.world new.world c.pause.new.core.world old.notes new.notes c.pause.new.core.notes (before.steps ++ more.0)
          (takes_more team.workers team.spies.now c.args.root old.world core.world old.notes core.notes before.steps new.world new.notes more.0 before.taken more.1) c.in-Err.ensures.world c.in-Err.ensures.kept;
      count = omega (arith, long, count, more.2);
      few = omega (arith, few, before.few);
      reason = c.in-Err.ensures.stop c.args.limit (c.loop-added.added + c.stretch-left.result.1);
    }

pub returns : goal.returns
returns g c =
    let before = c.loop-added.invariant in
    let few = before.few in
    record { before = c.args.core.notes; steps = before.steps; taken = before.taken; count = before.count; few = before.few; reason = all_taken before.goes_on (omega (arith, few, c.loop-added-test.false)) }
