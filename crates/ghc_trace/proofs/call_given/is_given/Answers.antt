use Rattle.ghc_trace.proofs.Words.{◌≡◌, Bool, true, false, not, Some, None, refl, sym, ap, ◌∙◌, subst, arith, In, value_at}
use Rattle.ghc_trace.proofs.PartFinding.{in_numbers, some_value}
use Rattle.ghc_trace.proofs.call_given.is_given.Goals as goal

pub returns-then-is_none : goal.returns-then-is_none
returns-then-is_none c = (
  λ h. let clash : false ≡ true = h in cc,
  λ b. let free : value_at c.args.store.now.held c.args.x ≡ None = grind (arith, c.get.ensures, c.is_none.ensures, c.if-is_none.true) in let clash : None ≡ Some b.value = sym free ∙ b.bound in cc,
)

pub returns-in_default : goal.returns-in_default
returns-in_default c = (
  λ h. let clash : false ≡ true = h in cc,
  λ b. let clash : None ≡ Some b.binder = sym c.in_default.is ∙ (c.binder_of.ensures b.binder).1 b.binds in cc,
)

pub returns : goal.returns
returns c =
    let n = c.in-Some.binder in
    let S = value_at c.args.store.now.held in
    let has = in_numbers c.args.part.now n c.contains.result c.contains.ensures in
    let bound : ¬ (S c.args.x ≡ None) = λ free. grind (arith, free, c.get.ensures, c.is_none.ensures, c.if-is_none.false) in
    let value = some_value (S c.args.x) bound in (
      λ h. record {
        value = value.0;
        bound = value.1;
        binder = n;
        binds = (c.binder_of.ensures n).0 c.in-Some.is;
        alone = λ m s. let one : Some n ≡ Some m = sym c.in-Some.is ∙ (c.binder_of.ensures m).1 s in let same : n ≡ m = cc in sym same;
        outside = λ i. let clash : true ≡ false = sym h ∙ ap not (has.1 i) in cc;
      },
      λ b.
          let one : Some n ≡ Some b.binder = sym c.in-Some.is ∙ (c.binder_of.ensures b.binder).1 b.binds in
          let same : n ≡ b.binder = cc in
          not_there c.contains.result (λ t. b.outside (subst (λ k. In k c.args.part.now.keys) same (has.0 t))),
    )
  where
    not_there : (t : Bool) → ¬ (t ≡ true) → not t ≡ true
    not_there true n = absurd (n refl)
    not_there false n = refl
