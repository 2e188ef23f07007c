use Rattle.ghc_term.specs.Store.{value_at}
use Rattle.ghc_fire.proofs.FoundEffects.{not_assigned, none_where}
use Rattle.ghc_fire.proofs.recorded.by_assignment.Goals as goal

pub returns-in-Err-clause-none : goal.returns-in-Err-clause-none
returns-in-Err-clause-none c =
    none_where c.none_but_memory.result (λ no_memory.
    not_assigned (value_at c.args.store.now.held) c.acyclic.ensures c.in-Err.fault no_memory c.args.left.now c.args.value.now c.in-Err.ensures.fault)
    c.none_but_memory.ensures.none
