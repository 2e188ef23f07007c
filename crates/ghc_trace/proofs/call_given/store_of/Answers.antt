use Rattle.ghc_trace.proofs.Words.{◌≡◌, ap, sym, ◌∙◌, subst, StoreValue, value_at, IsAcyclic}
use Rattle.std.specs.FinMap as finite
use Rattle.ghc_term.specs.Store.{with_binds}
use Rattle.ghc_trace.proofs.PartFinding.{alone_by, less_acyclic, put_alone}
use Rattle.ghc_trace.proofs.call_given.store_of.Goals as goal

pub put-requires-clause-acyclic : goal.put-requires-clause-acyclic
put-requires-clause-acyclic c =
    let S = value_at c.args.store.now.held in
    let binds = c.in_ok-binds.binds in
    let empty : c.reserve.new.self.held ≡ finite.empty = c.reserve.ensures.held ∙ c.new-part.ensures in
    let alone = alone_by S (value_at binds) (value_at (with_binds (finite.entries binds) finite.empty)) c.args.xs.now (put_alone binds) c.in_ok-binds.ensures in
    subst (λ (s : StoreValue). IsAcyclic (value_at (with_binds (finite.entries binds) s))) (sym empty)
    (less_acyclic S (value_at (with_binds (finite.entries binds) finite.empty)) c.args.xs.now c.acyclic.ensures alone)

pub returns : goal.returns
returns c =
    let S = value_at c.args.store.now.held in
    let binds = c.in_ok-binds.binds in
    let empty : c.reserve.new.self.held ≡ finite.empty = c.reserve.ensures.held ∙ c.new-part.ensures in
    let held : c.put.new.self.held ≡ with_binds (finite.entries binds) finite.empty = c.put.ensures ∙ ap (λ s. with_binds (finite.entries binds) s) empty in
    alone_by S (value_at binds) (value_at c.put.new.self.held) c.args.xs.now (λ x. ap (λ (s : StoreValue). value_at s x) held ∙ put_alone binds x) c.in_ok-binds.ensures
