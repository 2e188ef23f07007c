use Rattle.ghc_trace.proofs.Words.{◌∙◌, ap, done, key_put, predicate}
use Rattle.std.specs.FinSet as set
use Rattle.ghc_trace.proofs.Spied.{predicate_total, predicate_antisymmetric, same, same_is}
use Rattle.ghc_trace.proofs.spies.SpySet.add.Goals as goal

pub returns-clause-ok : goal.returns-clause-ok
returns-clause-ok c =
    let p = predicate c.args.name.now c.args.arity in
    let put = predicate c.in_ok-name.name c.args.arity in
    let room = c.in_ok-reserve.ensures.ok in
    let held = ap (λ ks. set.from_list ks) c.in_ok-reserve.ensures.keys ∙ c.self.view_is in
    key_put predicate_total predicate_antisymmetric same same_is c.reserve.new.self.keys c.insert.new.self.keys put (done c.insert.result (c.insert.ensures.succeeds room) c.insert.ensures.updates).0
    ∙ ap (λ t. set.insert t put) held ∙ ap (λ f. set.insert c.args.self.now (predicate f c.args.arity)) c.in_ok-name.ensures.same
