use Rattle.ghc_trace.proofs.Entries.{named_in, entry_in}
use Rattle.ghc_trace.proofs.disturbed.Disturbed.of.Goals as goal

pub returns-clause-members : goal.returns-clause-members
returns-clause-members c g =
    let named = named_in c.put_in_order.new.goals.items c.put_in_order.ensures.rising g in
    let same = c.put_in_order.ensures.names g in
    (λ t. same.0 (named.0 t), λ i. named.1 (same.1 i))

pub returns-clause-gathered : goal.returns-clause-gathered
returns-clause-gathered c e there = c.put_in_order.ensures.gathered e (entry_in c.put_in_order.new.goals.items e.0 e.1 there)
