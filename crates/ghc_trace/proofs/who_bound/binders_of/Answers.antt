use Rattle.ghc_trace.proofs.Words.{get_or, refl, sym, subst, drop_more, In, VarName}
use Rattle.ghc_trace.proofs.BoundChain.{begin, paired, passed, finished, unbound}
use Rattle.ghc_trace.proofs.who_bound.binders_of.Goals as goal
use Rattle.ghc_trace.proofs.who_bound.binders_of.Goals.{in-Some+in_ok-push, in_default}

pub loop-variable-init : goal.loop-variable-init
loop-variable-init c = begin c.args.core.now.world c.args.chain.now c.new-binders.result.items c.new-binders.ensures.items

pub loop-variable-preserved : goal.loop-variable-preserved
loop-variable-preserved c =
    let w = c.args.core.now.world in
    let xs = c.args.chain.now in
    let i = c.loop-variable.variable-index in
    let items = c.loop-variable.binders.items in
    let front = c.loop-variable.invariant in
    let nothing : VarName = record { step = 0; place = 0 } in
    let x = get_or xs i nothing in
    let at = drop_more xs i nothing c.loop-variable-test.true in
    elim c.match-binder_of.branch [
      | in-Some+in_ok-push b ↦ rw b.binders-is (
          let by = (c.binder_of.ensures b.in-Some.step).0 b.in-Some.is in
          paired w xs i items front x at b.in-Some.step b.push.new.self.items (by.0, subst (In by.0) c.records.ensures by.1, by.3, by.2) b.in_ok-push.ensures.items)
      | in_default b ↦ rw b.binders-is (
          passed w xs i items front x at (unbound w x c.stands.ensures.replay (λ r k bound. b.in_default.not-Some r.number ((c.binder_of.ensures r.number).1 (r, subst (In r) (sym c.records.ensures) k, refl, bound)))))
    ]

pub returns : goal.returns
returns c = finished c.args.core.now.world c.args.chain.now c.loop-variable.variable-index c.loop-variable.binders.items c.loop-variable.invariant c.loop-variable-test.false
