use Rattle.ghc_pool.proofs.Words.{List, get_or, sym, subst, All, All-nil, Contains-get_or, All-insert_key, GoalName, In, contains_in}
use Rattle.ghc_pool.proofs.runs.stretches.set_of.Goals as goal

pub loop-name-init : goal.loop-name-init
loop-name-init c =
    let P = λ (g : GoalName). In g c.args.names.now in
    subst (λ (l : List GoalName). All P l) (sym c.new-set.ensures.empty) (All-nil P)

pub loop-name-preserved : goal.loop-name-preserved
loop-name-preserved c =
    let none : GoalName = record { step = 0; place = 0 } in
    let gs = c.args.names.now in
    let i = c.loop-name.name-index in
    let P = λ (g : GoalName). In g gs in
    subst (λ (l : List GoalName). All P l) (sym c.in-Ok.ensures.keys) (All-insert_key _ (get_or gs i none) P c.loop-name.set.keys c.loop-name.invariant (contains_in gs (get_or gs i none) (Contains-get_or gs i none c.loop-name-test.true)))
