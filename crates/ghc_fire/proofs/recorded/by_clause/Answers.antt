use Rattle.ghc_term.specs.Store.{value_at}
use Rattle.ghc_fire.proofs.FoundEffects.{chosen, not_reduced, none_where}
use Rattle.ghc_fire.proofs.recorded.by_clause.Goals as goal

pub returns-in-Ok-clause-some : goal.returns-in-Ok-clause-some
returns-in-Ok-clause-some c = chosen c.in-Ok.ensures.proposed

pub returns-in-Err-clause-none : goal.returns-in-Err-clause-none
returns-in-Err-clause-none c =
    none_where c.none_but_memory.result (λ no_memory.
    not_reduced (value_at c.args.store.now.held) c.acyclic.ensures c.in-Err.fault no_memory c.args.step c.args.program.now c.args.name.now c.args.arguments.now c.args.clause c.in-Err.ensures.fault)
    c.none_but_memory.ensures.none
