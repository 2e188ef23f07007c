use Rattle.ghc_pool.proofs.Words.{refl, subst, sym, ap, ◌∙◌, arith, World, one_less, TookInQuestion}
use Rattle.std.specs.FinSet as set
use Rattle.ghc_pool.proofs.Failures.{all_kept, met_further, unmet_still}
use Rattle.ghc_pool.proofs.runs.drain.among_untried.Goals as goal

pub loop-goal-init : goal.loop-goal-init
loop-goal-init c = (refl, all_kept c.args.core.now.notes, c.requires.unfailed)

pub meet-requires-clause-took : goal.meet-requires-clause-took
meet-requires-clause-took c = subst (λ (w : World). TookInQuestion c.args.root w.kept c.args.since) (sym c.loop-goal.invariant.0) c.requires.took

pub meet-requires-clause-unfailed : goal.meet-requires-clause-unfailed
meet-requires-clause-unfailed c = unmet_still c.args.spies.now c.args.root c.args.core.now.world c.loop-goal.core.world c.args.core.now.notes c.loop-goal.core.notes c.loop-goal.invariant

pub loop-goal-smaller : goal.loop-goal-smaller
loop-goal-smaller c =
    let there = ap (λ s. set.contains s c.in-Some.goal) (sym c.tries.ensures.untried) ∙ c.in-Some.ensures.some in
    let less = one_less c.loop-goal.core.untried c.in-Some.goal there in
    let taken = ap set.len c.in-Passed.ensures.passed in
    omega (arith, less, taken)

pub returns-in_default-meet : goal.returns-in_default-meet
returns-in_default-meet c =
    let old = c.args.core.now in
    let core = c.loop-goal.core in
    let new = c.meet.new.core in
    met_further c.args.spies.now c.args.root old.world core.world new.world old.notes core.notes new.notes c.meet.result c.loop-goal.invariant c.meet.ensures.met
