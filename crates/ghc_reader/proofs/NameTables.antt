-- What the table of names keeps.
use Rattle.ghc_reader.proofs.Words.{◌≡◌, ℕ, Bool, cond, List, Option, Some, Result, Ok, Err, refl, sym, ap, ◌∙◌, bytes_eq, Bor, OnOk, OnErr, BTreeMap, is_at, get_by, UpdatesBy, IsUnchanged, slice_cmp, nat_cmp, lookup, btree_map_updates_str, bytes_eq-Decides, arith}

abbrev Table : Type 0
Table = BTreeMap (Bor (List ℕ)) (List ℕ)

abbrev found_in : Table → List ℕ → Option (List ℕ)
found_in m spelling = get_by (λ k. slice_cmp nat_cmp spelling k.now) m

-- each name is that of its spelling
abbrev pub AllSpelled : Table → Type 0
AllSpelled m = (spelling name : List ℕ) → found_in m spelling ≡ Some name → name ≡ spelling

at_key : (m : Table) (key value spelling name : List ℕ) (same : Bool) → bytes_eq key spelling ≡ same → AllSpelled m → value ≡ key → cond same (Some value) (found_in m spelling) ≡ Some name → name ≡ spelling
at_key m key value spelling name same e all is found = grind (arith, bytes_eq-Decides, all)

-- a name is added under its spelling, or nothing is where memory is refused
pub spelled_more : {A E : Type 0} (r : Result A E) (m n : Table) (key : Bor (List ℕ)) (value : List ℕ) → AllSpelled m → value ≡ key.now → OnOk r (UpdatesBy (λ x y. slice_cmp nat_cmp x.now y.now) (λ k. slice_cmp nat_cmp key.now k.now) m n (Some value)) → OnErr r (IsUnchanged m n) → AllSpelled n
spelled_more (Ok x) m n key value all is updates unchanged = λ spelling name found.
    at_key m key.now value spelling name (bytes_eq key.now spelling) refl all is (sym (btree_map_updates_str key.now m n (Some value) updates spelling) ∙ found)
spelled_more (Err e) m n key value all is updates unchanged = λ spelling name found.
    all spelling name (ap (λ entries. lookup (is_at (λ k. slice_cmp nat_cmp spelling k.now)) entries) (sym unchanged) ∙ found)
