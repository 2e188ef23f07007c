use Rattle.ghc_core.proofs.Words.{◌≡◌, ℕ, List, sym, subst, IsLawful, IsInOrder, Core}
use Rattle.ghc_core.proofs.Arranged.{is_in_order}
use Rattle.ghc_core.proofs.core_state.Core.prepare_arrange.Goals as goal

pub returns-clause-found : goal.returns-clause-found
returns-clause-found c =
    let kept = c.self.inside.records.held in
    let new = c.in_ok-records.records.value.held in
    let items = c.in_ok-order.order.value.items in
    let same : items ≡ c.args.order.now = c.in_ok-order.ensures in
    let lawful = c.in-Ok.ensures.ok in
    subst (λ (x : Core). IsLawful x.world.kept items × IsInOrder x.world.kept items new) c.self.view_is
    (subst (λ (o : List ℕ). IsLawful kept o × IsInOrder kept o new) (sym same)
    (lawful, is_in_order kept c.args.order.now new c.len-count.ensures.distinct lawful c.in_ok-records.ensures.numbers c.in_ok-records.ensures.kept))
