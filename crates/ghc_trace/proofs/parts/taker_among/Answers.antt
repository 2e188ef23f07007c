use Rattle.std.specs.Prelude.{IfNone, IfSome}
use Rattle.ghc_trace.proofs.Words.{◌≡◌, ◌≢◌, List, ℕ, Bor, Option, Some, None, ap, sym, ◌∙◌, subst, inl, inr, arith, refl, get_or, take, take_all, take_more, option_copied, In, in_get, in_more, Record, record_once}
use Rattle.ghc_trace.proofs.parts.taker_among.Goals as goal

-- a step that is found by its number
found_as : (o : Option (Bor Record)) (kept : List Record) (n : ℕ) → IfSome o (λ r. In r.now kept × (r.now.number ≡ n)) → (r : Record) → option_copied o ≡ Some r → In r kept × (r.number ≡ n)
found_as None kept n h r e = cc
found_as (Some b) kept n h r e = let same : b.now ≡ r = cc in subst (λ z. In z kept × (z.number ≡ n)) same h

is_found : (o : Option (Bor Record)) (kept : List Record) (n : ℕ) → IfNone o ((r : Record) → In r kept → r.number ≢ n) → (r : Record) → In r kept → r.number ≡ n → (q : Record) × (option_copied o ≡ Some q)
is_found None kept n h r i e = absurd (h r i e)
is_found (Some b) kept n h r i e = (b.now, refl)

pub loop-number-init : goal.loop-number-init
loop-number-init c r i j = absurd j

pub loop-number-preserved : goal.loop-number-preserved
loop-number-preserved c r i j =
    let ns = c.args.numbers.now in
    let at = c.loop-number.number-index in
    let n = get_or ns at 0 in
    let kept = c.args.records.now.held in
    elim (in_more (take at ns) n r.number (subst (λ (l : List ℕ). In r.number l) (take_more ns at 0 c.loop-number-test.true) j)) [
      | inl k ↦ c.loop-number.invariant r i k
      | inr e ↦
          let q = is_found c.get.result kept n c.get.ensures.none r i e in
          let f = found_as c.get.result kept n c.get.ensures.found q.0 q.1 in
          let one = record_once kept q.0 r c.len-count.ensures.distinct f.0 i (f.1 ∙ sym e) in
          λ took. let clash : None ≡ Some q.0 = sym (ap option_copied c.in_default.is) ∙ (c.if_it_took.ensures q.0).1 (q.1, ap (λ (z : Record). z.goal) one ∙ took) in cc
    ]

pub returns-in-Some-clause-found : goal.returns-in-Some-clause-found
returns-in-Some-clause-found c =
    let step = c.in-Some.step.now in
    let took = (c.if_it_took.ensures step).0 (ap option_copied c.in-Some.is) in
    let f = found_as c.get.result c.args.records.now.held _ c.get.ensures.found step took.0 in
    (f.0, subst (λ k. In k c.args.numbers.now) (sym f.1) (in_get c.args.numbers.now c.loop-number.number-index 0 c.loop-number-test.true), took.1)

pub returns-clause-none : goal.returns-clause-none
returns-clause-none c r i j =
    c.loop-number.invariant r i (subst (λ (l : List ℕ). In r.number l) (sym (take_all c.loop-number.number-index c.args.numbers.now (omega (arith, c.loop-number-test.false)))) j)
