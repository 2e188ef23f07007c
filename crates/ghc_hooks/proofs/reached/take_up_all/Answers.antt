use Rattle.ghc_hooks.proofs.Words.{map, subst, take_all, value_at, VarName, In, TakesUpAll}
use Rattle.ghc_hooks.proofs.TakingUp.{taken_none, taken_next}
use Rattle.ghc_hooks.proofs.reached.take_up_all.Goals as goal

pub loop-name-init : goal.loop-name-init
loop-name-init c = taken_none (value_at c.args.store.now.held) c.args.names.now c.args.reached.now (map (λ t. t.now) c.args.waiting.now.items)

pub loop-name-preserved : goal.loop-name-preserved
loop-name-preserved c =
    let zero_name : VarName = record { step = 0; place = 0 } in
    taken_next (value_at c.args.store.now.held) c.args.names.now c.loop-name.name-index zero_name c.args.reached.now c.loop-name.reached c.take_up.new.reached _ _ _ c.loop-name-test.true
    c.loop-name.invariant c.in_ok-take_up.ensures

pub returns : goal.returns
returns c =
    subst
    (λ l. TakesUpAll (value_at c.args.store.now.held) (λ x. In x l) c.args.reached.now c.loop-name.reached (map (λ t. t.now) c.args.waiting.now.items) (map (λ t. t.now) c.loop-name.waiting.items))
    (take_all c.loop-name.name-index c.args.names.now c.loop-name-test.false) c.loop-name.invariant
