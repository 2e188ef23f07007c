-- The order of names.
use Rattle.ghc_term.proofs.Words.{◌≡◌, ◌≢◌, false, false_from_ne_true, true, refl, sym, Ordering, Equal, nat_cmp, ordering_then, eq_by_cmp, IsTotalOrder, ranked, nat_cmp_total, eq_by_cmp_equiv, IsAntisymmetric, then_total, on_total, tells_apart, VarName, var_inj, name_cmp}

pub name_total : IsTotalOrder name_cmp
name_total = then_total (on_total (λ (x : VarName). x.step) nat_cmp_total) (on_total (λ (x : VarName). x.place) nat_cmp_total)

pub both : (a b : Ordering) → ordering_then a b ≡ Equal → (a ≡ Equal) × (b ≡ Equal)
both Equal b e = (refl, e)
both a b e = cc

pub name_antisymmetric : IsAntisymmetric name_cmp
name_antisymmetric x y e = let p = both (nat_cmp x.step y.step) (nat_cmp x.place y.place) e in var_inj x y (ranked x.step y.step Equal (sym p.0)) (ranked x.place y.place Equal (sym p.1))

-- the test of names tells whether they are one
pub same_name : (x y : VarName) → eq_by_cmp name_cmp x y ≡ true → x ≡ y
same_name = tells_apart name_antisymmetric

pub itself : (x : VarName) → eq_by_cmp name_cmp x x ≡ true
itself = (eq_by_cmp_equiv name_total).refl

pub apart : (x y : VarName) → x ≢ y → eq_by_cmp name_cmp x y ≡ false
apart x y n = false_from_ne_true _ (λ e. n (same_name x y e))
