use Rattle.ghc_trace.proofs.Words.{◌≡◌, ◌∙◌, ap, sym, has_key, predicate}
use Rattle.std.specs.FinSet as set
use Rattle.ghc_trace.proofs.Spied.{predicate_total, predicate_antisymmetric, same, same_is}
use Rattle.ghc_trace.proofs.spies.SpySet.has.Goals as goal

pub returns : goal.returns
returns c =
    let p = predicate c.args.name.now c.args.arity in
    let is : c.contains.result ≡ set.contains c.args.self.now p =
    c.contains.ensures ∙ has_key predicate_total predicate_antisymmetric same same_is p c.self.inside.table.keys ∙ ap (λ t. set.contains t p) c.self.view_is in
    (λ yes. sym is ∙ yes, λ spied. is ∙ spied)
