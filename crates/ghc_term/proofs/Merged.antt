-- A store with some bindings more, as one finite map.
use Rattle.ghc_term.proofs.Words.{◌≡◌, true, false, cond, ◌++◌, refl, sym, ap, ◌∙◌, subst, Option, Some, None, option_or, eq_by_cmp, VarName, Overlay, Tree, name_cmp, IsAcyclic, with_binding, StoreValue, value_at, with_bindings, value_in}
use Rattle.std.specs.FinMap as finite
use Rattle.ghc_term.proofs.Names.{name_total}
use Rattle.ghc_term.proofs.Slots.{joined}

-- look-ups that answer alike are one
pub by_answers : {S T : VarName → Option Tree} → ((x : VarName) → S x ≡ T x) → S ≡ T
by_answers h i x = h x i

abbrev pub merged : StoreValue → StoreValue → StoreValue
merged B S = finite.from_entries (finite.entries B ++ finite.entries S)

merged_at : (B S : StoreValue) (x : VarName) → value_at (merged B S) x ≡ with_bindings B (value_at S) x
merged_at B S x =
    finite.get-from_entries name_total (finite.entries B ++ finite.entries S) x ∙ joined name_cmp (finite.entries B) (finite.entries S) x
    ∙ ap (λ o. option_or o (finite.find name_cmp x (finite.entries S))) (sym (finite.get-entries B x)) ∙ ap (λ o. option_or (value_at B x) o) (sym (finite.get-entries S x))

pub merged_is : (B S : StoreValue) → value_at (merged B S) ≡ with_bindings B (value_at S)
merged_is B S = by_answers (merged_at B S)

pub merged_acyclic : (B S : StoreValue) → IsAcyclic (with_bindings B (value_at S)) → IsAcyclic (value_at (merged B S))
merged_acyclic B S h = subst IsAcyclic (sym (merged_is B S)) h

-- one binding more
insert_at : (B : StoreValue) (T : VarName → Option Tree) (x : VarName) (t : Tree) (y : VarName) → with_binding (with_bindings B T) x t y ≡ with_bindings (finite.insert B x t) T y
insert_at B T x t y =
    elim (eq_by_cmp name_cmp y x) as (λ b. cond b (Some t) (with_bindings B T y) ≡ option_or (cond b (Some t) (value_at B y)) (T y)) [ true ↦ refl | false ↦ refl ]
    ∙ ap (λ o. option_or o (T y)) (sym (finite.get-insert name_total B x t y))

pub insert_is : (B : StoreValue) (T : VarName → Option Tree) (x : VarName) (t : Tree) → with_binding (with_bindings B T) x t ≡ with_bindings (finite.insert B x t) T
insert_is B T x t = by_answers (insert_at B T x t)

-- with no bindings more
pub none_more : (B : StoreValue) (T : VarName → Option Tree) → B ≡ finite.empty → with_bindings B T ≡ T
none_more B T e = by_answers (λ y. ap (λ m. option_or (value_at m y) (T y)) e ∙ ap (λ o. option_or o (T y)) (finite.get-empty name_cmp y))

-- what is unbound with the bindings is unbound in the store, and by them
pub unbound_below : (B : StoreValue) (T : VarName → Option Tree) (x : VarName) → with_bindings B T x ≡ None → (value_at B x ≡ None) × (T x ≡ None)
unbound_below B T x e =
    elim (value_at B x) as (λ o. option_or o (T x) ≡ None → (o ≡ None) × (T x ≡ None)) [
      | Some t ↦ λ p. let no : Some t ≡ None = p in cc
      | None ↦ λ p. (refl, p)
    ] e

-- all that the overlay binds, as one finite map
abbrev pub all_bound : Overlay → StoreValue
all_bound o = merged o.binds.now o.store.now.held

pub all_is : (o : Overlay) → value_at (all_bound o) ≡ value_in o
all_is o = merged_is o.binds.now o.store.now.held

pub all_acyclic : (o : Overlay) → IsAcyclic (value_at (all_bound o))
all_acyclic o = merged_acyclic o.binds.now o.store.now.held o.acyclic
