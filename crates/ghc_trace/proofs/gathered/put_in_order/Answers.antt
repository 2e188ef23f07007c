use Rattle.ghc_trace.proofs.Words.{◌≡◌, rules, ◌∙◌, subst, always_returns_same, dedup_same, None, dedup, IsSorted, IsStrictlySortedBy, keys_of, goal_cmp, same, same_is, Former}
use Rattle.ghc_trace.proofs.Entries.{by_name, lesser, alike, rising_by_neighbours, left_rise, left_of, names_left}
use Rattle.ghc_trace.proofs.gathered.put_in_order.Goals as goal

pub returns-then-is_sorted_by-clause-rising : goal.returns-then-is_sorted_by-clause-rising
returns-then-is_sorted_by-clause-rising c =
    subst (λ l. IsStrictlySortedBy goal_cmp (keys_of l)) c.deref.ensures.value
    (rising_by_neighbours c.deref.result.now (record { step = 0; place = 0 }, None) (c.if-is_sorted_by.ensures.cases lesser (always_returns_same _ _ _ (λ a r q k. search rules))))

pub returns : goal.returns
returns c =
    let es = c.args.goals.now.items in
    let sorted = c.sort_unstable_by_key.new.self.items in
    let left = c.dedup_by_key.new.self.items in
    let moved = c.sort_unstable_by_key.ensures.permutation in
    let in_order : IsSorted by_name sorted = c.sort_unstable_by_key.ensures.sorted (λ (e : Former). e.0) (always_returns_same _ _ _ (λ a r q k. search rules)) in
    let by_parts : left ≡ dedup (λ (a b : Former). same a.0 b.0) sorted = dedup_same _ (λ (a b : Former). same a.0 b.0) _ (λ x y b f' x' y' k. search rules) sorted left c.dedup_by_key.ensures.filtered in
    let is : left ≡ dedup alike sorted = by_parts ∙ (λ i. dedup (λ (a b : Former). same_is a.0 b.0 i) sorted) in
    record { names = names_left es sorted left moved in_order is; gathered = left_of es sorted left moved in_order is; rising = left_rise es sorted left moved in_order is }
