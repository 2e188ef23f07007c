-- What stands under variables, put and taken away one after another.
use Rattle.ghc_records.proofs.Words.{◌≡◌, true, false, cond, List, ◌∷◌, refl, sym, ap, ◌∙◌, Option, Some, None, is_some, eq_by_cmp, VarName, Tree, name_cmp, StoreValue, value_at, name_total}
use Rattle.std.specs.FinMap as finite

-- what is found at y among the bindings of the list
abbrev found : VarName → List (VarName × Tree) → Option Tree
found y es = finite.find name_cmp y es

module _ {V : Type 0} (o : Option V) (binds : StoreValue) (old : finite.FinMap name_cmp V) where
  -- the old map, with o under each variable that the bindings bind
  abbrev pub IsSetTo : finite.FinMap name_cmp V → Type 0
  IsSetTo new = (y : VarName) → finite.get new y ≡ cond (is_some (value_at binds y)) o (finite.get old y)

  -- of the variables that the bindings bind, o is still to be put under those of the list, and stands under the others
  abbrev pub IsBeingSet : finite.FinMap name_cmp V → List (VarName × Tree) → Type 0
  IsBeingSet now rest = (y : VarName) → cond (is_some (found y rest)) o (finite.get now y) ≡ cond (is_some (value_at binds y)) o (finite.get old y)

  pub set_begin : (es : List (VarName × Tree)) → finite.from_entries es ≡ binds → IsBeingSet old es
  set_begin es all y = ap (λ f. cond (is_some f) o (finite.get old y)) (sym (finite.get-from_entries name_total es y) ∙ ap (λ m. value_at m y) all)

  at_set : (f : Option Tree) → cond (is_some f) o o ≡ o
  at_set None = refl
  at_set (Some t) = refl

  pub set_next : (now new : finite.FinMap name_cmp V) (e : VarName × Tree) (rest : List (VarName × Tree)) → IsBeingSet now (e ∷ rest)
      → ((y : VarName) → finite.get new y ≡ cond (eq_by_cmp name_cmp y e.0) o (finite.get now y)) → IsBeingSet new rest
  set_next now new e rest h step y =
      ap (λ v. cond (is_some (found y rest)) o v) (step y)
      ∙ elim (eq_by_cmp name_cmp y e.0) as (λ b. cond (is_some (cond b (Some e.1) (found y rest))) o (finite.get now y) ≡ cond (is_some (value_at binds y)) o (finite.get old y)
      → cond (is_some (found y rest)) o (cond b o (finite.get now y)) ≡ cond (is_some (value_at binds y)) o (finite.get old y)) [
        | true ↦ λ f. at_set (found y rest) ∙ f
        | false ↦ λ f. f
      ] (h y)
