use Rattle.ghc_trace.proofs.Words.{◌≡◌, ◌+◌, [], ◌∷◌, ◌++◌, get_or, take, None, sym, subst, arith, take_more, take_all, VarName, Tree, value_at}
use Rattle.ghc_term.specs.Bindings.{Reaches}
use Rattle.ghc_term.specs.Sets.{IsSetOf}
use Rattle.ghc_trace.proofs.Held.{AreUnboundOf, all_unbound, bound_one, none_unbound, unbound_one}
use Rattle.ghc_trace.proofs.holding.unbound_in.Goals.{then-is_none+in_ok-insert, else-is_none}
use Rattle.ghc_trace.proofs.holding.unbound_in.Goals as goal

pub loop-y-init : goal.loop-y-init
loop-y-init c = none_unbound (value_at c.args.store.now.held) c.new-unbound.result c.new-unbound.ensures

pub loop-y-preserved : goal.loop-y-preserved
loop-y-preserved c =
    let S = value_at c.args.store.now.held in
    let items = c.members-y-items.result.now in
    let i = c.loop-y.y-index in
    let none : VarName = record { step = 0; place = 0 } in
    let y = get_or items i none in
    let unbound = c.loop-y.unbound in
    let more : take (i + 1) items ≡ take i items ++ y ∷ [] = take_more items i none c.loop-y-test.true in
    elim c.if-is_none.branch [
      | then-is_none+in_ok-insert w ↦
          let free : S y ≡ None = grind (arith, c.get.ensures, c.is_none.ensures, w.if-is_none.true) in
          rw w.unbound-is (subst (λ l. AreUnboundOf S l w.insert.new.self) (sym more) (subst (λ u. AreUnboundOf S (take i items ++ y ∷ []) u) (sym w.in_ok-insert.ensures.ok)
          (unbound_one S (take i items) y unbound free c.loop-y.invariant)))
      | else-is_none w ↦ rw w.unbound-is (subst (λ l. AreUnboundOf S l unbound) (sym more)
          (bound_one S (take i items) y unbound (λ free. grind (arith, free, c.get.ensures, c.is_none.ensures, w.if-is_none.false)) c.loop-y.invariant))
    ]

pub returns : goal.returns
returns c =
    let S = value_at c.args.store.now.held in
    let items = c.members-y-items.result.now in
    all_unbound S c.args.x items c.in_ok-reached.reached c.loop-y.unbound c.members-y-items.ensures.all
    (subst (λ (u : Tree). IsSetOf c.in_ok-reached.reached (Reaches S u)) c.variable-variable.ensures c.in_ok-reached.ensures)
    (subst (λ l. AreUnboundOf S l c.loop-y.unbound) (take_all c.loop-y.y-index items (omega (arith, c.loop-y-test.false))) c.loop-y.invariant)
