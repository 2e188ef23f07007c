use Rattle.ghc_hooks.proofs.Words.{take_all, subst, TellsOutcomes}
use Rattle.ghc_hooks.proofs.FoundFace.{no_outcomes, outcomes_more}
use Rattle.ghc_hooks.proofs.face.outcomes.Outcomes.of.Goals as goal

pub loop-name-init : goal.loop-name-init
loop-name-init c = no_outcomes c.args.program.now c.args.goals.now.held c.args.store.now.held c.new-outcomes.result c.new-outcomes.ensures

pub add_goal-requires : goal.add_goal-requires
add_goal-requires c k o e = ((c.loop-name.invariant _ k o).0 e).1

pub loop-name-preserved : goal.loop-name-preserved
loop-name-preserved c =
    outcomes_more c.args.names.now c.loop-name.name-index (record { step = 0; place = 0 }) c.loop-name-test.true c.args.program.now c.args.goals.now.held c.args.store.now.held c.loop-name.outcomes c.add_goal.new.self
    c.loop-name.invariant c.in_ok-add_goal.ensures

pub returns : goal.returns
returns c =
    subst (λ l. TellsOutcomes c.args.program.now c.args.goals.now.held c.args.store.now.held l c.loop-name.outcomes) (take_all c.loop-name.name-index c.args.names.now c.loop-name-test.false) c.loop-name.invariant
