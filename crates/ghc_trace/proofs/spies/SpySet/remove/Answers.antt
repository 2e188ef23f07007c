use Rattle.ghc_trace.proofs.Words.{◌∙◌, ap, ◌<◌, key_taken, predicate}
use Rattle.std.specs.FinSet as set
use Rattle.ghc_trace.proofs.Spied.{predicate_total, predicate_antisymmetric, same, same_is}
use Rattle.ghc_trace.proofs.SpyOrder.{kept_of_each}
use Rattle.ghc_trace.proofs.spies.SpySet.remove.Goals as goal

pub returns : goal.returns
returns c =
    let p = predicate c.args.name.now c.args.arity in
    key_taken predicate_total predicate_antisymmetric same same_is c.self.inside.table.keys c.swap_remove.new.self.keys p c.swap_remove.ensures.updates.0 ∙ ap (λ t. set.remove t p) c.self.view_is

pub invariant_of-self : goal.invariant_of-self
invariant_of-self c =
    kept_of_each (λ p. p.arity < 4294967296) c.self.inside.table.keys c.swap_remove.new.self.keys (predicate c.args.name.now c.args.arity) c.swap_remove.ensures.updates.0 c.self.invariant
