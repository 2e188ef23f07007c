use Rattle.ghc_records.proofs.Words.{◌≡◌, ◌≢◌, ℕ, List, get_or, sym, ap, ◌∙◌, subst, Option, Some, None, IfSome, IfNone, IsSome, true, Bor, In, in_get, at_some, Record, numbers}
use Rattle.ghc_records.proofs.OrderLemmas.{number_of}
use Rattle.ghc_records.proofs.InOrder.{one_more, is_new, still_of}
use Rattle.ghc_records.proofs.records.Records.in_order.Goals as goal

some_found : (o : Option (Bor Record)) (kept : List Record) (n : ℕ) → In n (numbers kept) → IfNone o ((r : Record) → In r kept → r.number ≢ n) → IsSome o
some_found (Some r) kept n i f = λ _. true
some_found None kept n i f = let q = number_of kept n i in absurd (f q.0 q.1 q.2)

-- the record that was found
mine : (o : Option (Bor Record)) (found : Bor Record) (kept : List Record) (n : ℕ) → o ≡ Some found → IfSome o (λ s. In s.now kept × (s.now.number ≡ n)) → In found.now kept × (found.now.number ≡ n)
mine o found kept n is has = at_some (λ s. In s.now kept × (s.now.number ≡ n)) o found is has

pub unwrap-requires : goal.unwrap-requires
unwrap-requires c =
    let order = c.args.order.now in
    let i = c.loop-number.number-index in
    some_found c.get.result c.args.self.now.held (get_or order i 0) (c.requires.kept (get_or order i 0) (in_get order i 0 c.loop-number-test.true)) c.get.ensures.none

pub put_shared-requires-clause-new : goal.put_shared-requires-clause-new
put_shared-requires-clause-new c r j =
    let order = c.args.order.now in
    let i = c.loop-number.number-index in
    let found = mine c.get.result c.unwrap.result c.args.self.now.held (get_or order i 0) c.unwrap.ensures c.get.ensures.found in
    is_new order i c.loop-number.new.held c.unwrap.result.now c.loop-number-test.true c.loop-number.invariant.numbered found.1 c.requires.distinct r j

pub put_shared-requires-clause-unbound : goal.put_shared-requires-clause-unbound
put_shared-requires-clause-unbound c r x j p q =
    let order = c.args.order.now in
    let i = c.loop-number.number-index in
    let step = c.unwrap.result.now in
    let found = mine c.get.result c.unwrap.result c.args.self.now.held (get_or order i 0) c.unwrap.ensures c.get.ensures.found in
    let one = c.self.invariant.2 r step x (rw (← c.self.view_is) at (c.loop-number.invariant.kept r j)) (rw (← c.self.view_is) at found.0) p q in
    is_new order i c.loop-number.new.held step c.loop-number-test.true c.loop-number.invariant.numbered found.1 c.requires.distinct r j one

pub loop-number-preserved : goal.loop-number-preserved
loop-number-preserved c =
    let order = c.args.order.now in
    let i = c.loop-number.number-index in
    let rs = c.loop-number.new.held in
    let r = c.unwrap.result.now in
    let found = mine c.get.result c.unwrap.result c.args.self.now.held (get_or order i 0) c.unwrap.ensures c.get.ensures.found in
    let now = c.in_ok-put_shared.ensures in
    record {
      numbered = ap numbers now ∙ one_more order i rs r c.loop-number-test.true c.loop-number.invariant.numbered found.1;
      kept = subst (λ l. (s : Record) → In s l → In s c.args.self.now.held) (sym now) (still_of c.args.self.now.held rs r c.loop-number.invariant.kept found.0);
    }
