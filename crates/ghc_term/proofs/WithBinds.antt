-- A store with the bindings of a list, or of a map, more.
use Rattle.ghc_term.proofs.Words.{◌≡◌, true, false, cond, List, [], ◌∷◌, refl, sym, ap, ◌∙◌, Some, option_or, eq_by_cmp, VarName, name_cmp, StoreValue, value_at, with_binds, Tree}
use Rattle.std.specs.FinMap as finite
use Rattle.ghc_term.proofs.Names.{name_total, name_antisymmetric}

pub bound_by_list : (bs : List (VarName × Tree)) (s : StoreValue) (y : VarName) → value_at (with_binds bs s) y ≡ option_or (finite.find name_cmp y bs) (value_at s y)
bound_by_list [] s y = refl
bound_by_list (b ∷ bs) s y =
    finite.get-insert name_total (with_binds bs s) b.0 b.1 y
    ∙ elim (eq_by_cmp name_cmp y b.0) as (λ c. cond c (Some b.1) (value_at (with_binds bs s) y) ≡ option_or (cond c (Some b.1) (finite.find name_cmp y bs)) (value_at s y)) [
      | true ↦ refl
      | false ↦ bound_by_list bs s y
    ]

-- with the bindings of a map more a variable is bound by the map, or as it was
pub bound_at : (m s : StoreValue) (y : VarName) → value_at (with_binds (finite.entries m) s) y ≡ option_or (value_at m y) (value_at s y)
bound_at m s y = bound_by_list (finite.entries m) s y ∙ ap (λ o. option_or o (value_at s y)) (sym (finite.get-entries m y))

-- a store with the bindings of a list is that with the bindings of its map
pub as_entries : (es : List (VarName × Tree)) (m s : StoreValue) → finite.from_entries es ≡ m → with_binds es s ≡ with_binds (finite.entries m) s
as_entries es m s all = finite.same_map name_total name_antisymmetric _ _ (λ y.
    bound_by_list es s y ∙ ap (λ o. option_or o (value_at s y)) (sym (finite.get-from_entries name_total es y) ∙ ap (λ e. value_at e y) all) ∙ sym (bound_at m s y))
