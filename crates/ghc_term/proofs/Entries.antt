-- A store and the entries of its map.
use Rattle.ghc_term.proofs.Words.{◌≡◌, ℕ, arith, Bool, cond, ◌&&◌, List, ap, ◌∙◌, nat_eq, Some, nat_tests, lookup, eq_by_cmp, is_eq, nat_cmp, tied_then, VarName, Tree, value_at, name_cmp}
use Rattle.std.specs.FinMap as finite
use Rattle.ghc_term.proofs.Indexed as indexed
use Rattle.ghc_term.proofs.Names.{name_total, name_antisymmetric}

abbrev pub same : VarName → VarName → Bool
same x y = nat_eq x.step y.step && nat_eq x.place y.place

pub tie : (a b : ℕ) → nat_eq a b ≡ is_eq (nat_cmp a b)
tie a b = grind (arith, nat_tests)

pub same_is : (x y : VarName) → same x y ≡ eq_by_cmp name_cmp x y
same_is x y = ap (λ b. b && nat_eq x.place y.place) (tie x.step y.step) ∙ ap (λ b. is_eq (nat_cmp x.step y.step) && b) (tie x.place y.place) ∙ tied_then (nat_cmp x.step y.step) (nat_cmp x.place y.place)

pub lookup_at : (x : VarName) (es : List (VarName × Tree)) → lookup (same x) es ≡ value_at (finite.from_entries es) x
lookup_at = indexed.value_is name_total name_antisymmetric same same_is

-- a map with one entry more
pub inserted : (es new : List (VarName × Tree)) (x : VarName) (t : Tree) → ((q : VarName) → lookup (same q) new ≡ cond (same x q) (Some t) (lookup (same q) es)) → finite.from_entries new ≡ finite.insert (finite.from_entries {R = name_cmp} es) x t
inserted = indexed.inserted name_total name_antisymmetric same same_is
