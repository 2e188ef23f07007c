use Rattle.ghc_trace.proofs.Words.{◌≡◌, ◌<◌, ◌||◌, ◌+◌, true, cond, [], drop, get_or, map, sym, ap, ◌∙◌, subst, at_drop_more, All-same, All-nil, All-get_or, All-insert_key, is_eq, Predicate, predicate, predicate_cmp, as_written}
use Rattle.std.specs.FinSet as set
use Rattle.ghc_trace.proofs.SpyOrder.{has, one_put, put_in_order}
use Rattle.ghc_trace.proofs.spies.SpySet.in_order.Goals as goal
use Rattle.ghc_core.proofs.Redone.{if_ok}

abbrev IsSmall : Predicate → Type 0
IsSmall p = p.arity < 4294967296

pub loop-spied-init : goal.loop-spied-init
loop-spied-init c = record {
  members = λ q. ap (λ ks. has q ks || has q c.as_slice-spied-items.result.now) c.new-ordered.ensures.empty;
  small = All-same IsSmall _ [] c.new-ordered.ensures.empty (All-nil IsSmall);
}

pub loop-spied-preserved : goal.loop-spied-preserved
loop-spied-preserved c =
    let members = c.as_slice-spied-items.result.now in
    let i = c.loop-spied.spied-index in
    let spied = c.spied-item.result in
    let p = get_or members i spied in
    let ordered = c.loop-spied.ordered.keys in
    let more = c.insert.new.self.keys in
    let put = predicate c.in_ok-name.name spied.arity in
    let is : put ≡ p = ap (λ f. predicate f spied.arity) c.in_ok-name.ensures.same ∙ c.spied-item.is in
    record {
      members = one_put members ordered more (drop (i + 1) members) p i (at_drop_more (λ xs. xs) members i spied c.loop-spied-test.true)
          (subst (λ k. (q : Predicate) → has q more ≡ cond (is_eq (predicate_cmp k q)) true (has q ordered)) is c.in_ok-insert.ensures.updates.0) c.loop-spied.invariant.members;
      small = All-same IsSmall more _ c.in_ok-insert.ensures.keys (All-insert_key predicate_cmp put IsSmall ordered c.loop-spied.invariant.small
          (subst IsSmall (sym is) (All-get_or IsSmall members i spied c.loop-spied-test.true (All-same IsSmall members c.self.inside.table.keys c.as_slice-spied-items.ensures.keys c.self.invariant))));
    }

pub written-requires : goal.written-requires
written-requires c = c.loop-spied.invariant.small

pub returns : goal.returns
returns c = if_ok c.written.result c.written.ensures (λ listed is. is ∙ ap (map as_written) (put_in_order c.args.self.now c.as_slice-spied-items.result.now c.loop-spied.ordered.keys c.loop-spied.spied-index
    (ap (λ ks. set.from_list ks) c.as_slice-spied-items.ensures.keys ∙ c.self.view_is) c.loop-spied-test.false c.loop-spied.invariant.members c.len-count.ensures.ordered))
