use Rattle.ghc_depend.proofs.Words.{◌↔◌, ◌⊎◌, ◌≡◌, ℕ, Result, Ok, Err, OnOk, In, sym, subst}
use Rattle.ghc_depend.proofs.Ahead.{in_inserted}
use Rattle.ghc_depend.proofs.OnePass.{of_one_more}
use Rattle.ghc_depend.proofs.one_pass.add_step.Goals as goal

on_ok : {X E : Type 0} (r : Result X E) {A B : Type 0} → OnOk r A → (A → B) → OnOk r B
on_ok (Ok x) h f = f h
on_ok (Err e) h f = tt

pub returns : goal.returns
returns c = on_ok c.add_bound.result c.add_bound.ensures (λ binds ss rs at of.
    let old = c.args.steps.now.places.keys in
    let p = c.args.place in
    let put = subst (λ ks. (q : ℕ) → In q ks ↔ (In q old ⊎ (q ≡ p))) (sym c.in-Ok.ensures.keys) (in_inserted old p) in
    of_one_more ss rs old c.args.steps.now.bound.keys of p c.args.step.now at c.insert.new.self.keys put c.add_bound.new.bound.keys binds)
