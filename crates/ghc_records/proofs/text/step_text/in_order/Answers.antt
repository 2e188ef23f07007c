use Rattle.ghc_records.proofs.Words.{◌||◌, ◌+◌, drop, get_or, ap, at_drop_more}
use Rattle.ghc_records.proofs.NameOrder.{has, one_put, put_in_order}
use Rattle.ghc_records.proofs.text.step_text.in_order.Goals as goal

pub loop-x-init : goal.loop-x-init
loop-x-init c q = ap (λ ks. has q ks || has q c.members-x-items.result.now) c.new-names.ensures.empty

pub loop-x-preserved : goal.loop-x-preserved
loop-x-preserved c =
    let members = c.members-x-items.result.now in
    let i = c.loop-x.x-index in
    let x = get_or members i (record { step = 0; place = 0 }) in
    one_put members c.loop-x.names.keys c.insert.new.self.keys (drop (i + 1) members) x i (at_drop_more (λ xs. xs) members i (record { step = 0; place = 0 }) c.loop-x-test.true)
    c.in_ok-insert.ensures.updates.0 c.loop-x.invariant

pub returns : goal.returns
returns c = put_in_order c.args.xs.now c.members-x-items.result.now c.loop-x.names.keys c.loop-x.x-index c.members-x-items.ensures.all c.loop-x-test.false c.loop-x.invariant c.len-count.ensures.ordered
