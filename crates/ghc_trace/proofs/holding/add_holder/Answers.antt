use Rattle.ghc_trace.proofs.Words.{◌≡◌, ◌+◌, [], ◌∷◌, ◌++◌, get_or, take, true, false, sym, ◌∙◌, subst, arith, take_more, take_all, VarName}
use Rattle.ghc_trace.specs.Holding.{HasGained}
use Rattle.ghc_trace.proofs.Held.{IsHeldAmong, held_all, held_more, held_still}
use Rattle.ghc_trace.proofs.holding.add_holder.Goals.{then-contains+in_ok-insert, else-contains}
use Rattle.ghc_trace.proofs.holding.add_holder.Goals as goal

pub loop-y-preserved : goal.loop-y-preserved
loop-y-preserved c =
    let items = c.members-y-items.result.now in
    let i = c.loop-y.y-index in
    let none : VarName = record { step = 0; place = 0 } in
    let y = get_or items i none in
    let unbound = c.args.unbound.now in
    let g = c.args.goal in
    let old = c.args.holders.now.keys in
    let ks = c.loop-y.holders.keys in
    let more : take (i + 1) items ≡ take i items ++ y ∷ [] = take_more items i none c.loop-y-test.true in
    elim c.if-contains.branch [
      | then-contains+in_ok-insert w ↦ rw w.holders-is (subst (λ l. HasGained old w.insert.new.self.keys (IsHeldAmong unbound l g)) (sym more)
          (subst (λ l. HasGained old l (IsHeldAmong unbound (take i items ++ y ∷ []) g)) (sym w.in_ok-insert.ensures.keys)
          (held_more unbound (take i items) y g old ks (sym c.contains.ensures ∙ w.if-contains.true) c.loop-y.invariant)))
      | else-contains w ↦ rw w.holders-is (subst (λ l. HasGained old ks (IsHeldAmong unbound l g)) (sym more)
          (held_still unbound (take i items) y g old ks (λ t. let clash : false ≡ true = sym w.if-contains.false ∙ c.contains.ensures ∙ t in cc) c.loop-y.invariant))
    ]

pub returns : goal.returns
returns c =
    let items = c.members-y-items.result.now in
    let unbound = c.args.unbound.now in
    let g = c.args.goal in
    let old = c.args.holders.now.keys in
    let ks = c.loop-y.holders.keys in
    held_all unbound c.args.reached.now items g old ks c.members-y-items.ensures.all
    (subst (λ l. HasGained old ks (IsHeldAmong unbound l g)) (take_all c.loop-y.y-index items (omega (arith, c.loop-y-test.false))) c.loop-y.invariant)
