-- The names of a set in their order.
use Rattle.ghc_records.proofs.Words.{◌≡◌, ℕ, ◌≤◌, Bool, true, false, cond, ◌||◌, List, [], ◌∷◌, length, map, drop, refl, sym, ap, ◌∙◌, subst, drop_all, Some, None, list_any, IsStrictlySortedBy, keys_of, eq_by_cmp, is_eq, eq_by_cmp_equiv, VarName, name_cmp, Variables, name_total, name_antisymmetric, entries_are, by_name}
use Rattle.std.proofs.Math.Bool.{or-false}
use Rattle.std.specs.FinSet as set
use Rattle.std.specs.FinMap as finite

-- the name is among the names
abbrev pub has : VarName → List VarName → Bool
has q xs = list_any (eq_by_cmp name_cmp q) xs

-- the names, each with nothing
abbrev marked : List VarName → List (VarName × Unit {0})
marked xs = map (λ x. (x, tt {0})) xs

keys_marked : (xs : List VarName) → keys_of (marked xs) ≡ xs
keys_marked [] = refl
keys_marked (x ∷ xs) = ap (λ l. x ∷ l) (keys_marked xs)

found_marked : (q : VarName) (xs : List VarName) → finite.find name_cmp q (marked xs) ≡ cond (has q xs) (Some (tt {0})) None
found_marked q [] = refl
found_marked q (x ∷ xs) =
    elim (eq_by_cmp name_cmp q x) as (λ b. cond b (Some (tt {0})) (finite.find name_cmp q (marked xs)) ≡ cond (b || has q xs) (Some (tt {0})) None) [
      | true ↦ refl
      | false ↦ found_marked q xs
    ]

-- names that rise stand in their order
rising : (xs : List VarName) → IsStrictlySortedBy name_cmp xs → by_name xs ≡ xs
rising xs h = ap (λ es. map (λ e. e.0) es) (entries_are name_total name_antisymmetric (marked xs) (subst (IsStrictlySortedBy name_cmp) (sym (keys_marked xs)) h)) ∙ keys_marked xs

-- the same names give the same list
alike : (xs ys : List VarName) → ((q : VarName) → has q xs ≡ has q ys) → by_name xs ≡ by_name ys
alike xs ys h =
    ap finite.keys (finite.same_map name_total name_antisymmetric (finite.from_entries (marked xs)) (finite.from_entries (marked ys)) (λ q.
    finite.get-from_entries name_total (marked xs) q ∙ found_marked q xs ∙ ap (λ b. cond b (Some (tt {0})) None) (h q)
    ∙ sym (finite.get-from_entries name_total (marked ys) q ∙ found_marked q ys)))

-- the names that a set holds, once they are all put in order
pub put_in_order : (s : Variables) (members names : List VarName) (i : ℕ) → set.from_list members ≡ s → length members ≤ i
    → ((q : VarName) → (has q names || has q (drop i members)) ≡ has q members) → IsStrictlySortedBy name_cmp names → names ≡ by_name (set.items s)
put_in_order s members names i e all h order =
    let none_left : drop i members ≡ [] = drop_all i members all in
    sym (rising names order) ∙ alike names (set.items s) (λ q.
    sym (or-false (has q names)) ∙ ap (λ l. has q names || has q l) (sym none_left) ∙ h q ∙ sym (set.contains-from_list name_total members q)
    ∙ ap (λ t. set.contains t q) e ∙ set.contains-items s q)

pub moved : (a b c d : Bool) → (a || (b || c)) ≡ d → (cond b true a || c) ≡ d
moved true true c d e = e
moved true false c d e = e
moved false true c d e = e
moved false false c d e = e

-- one more name is put in
pub one_put : (members names more rest : List VarName) (x : VarName) (i : ℕ) → drop i members ≡ x ∷ rest
    → ((q : VarName) → has q more ≡ cond (is_eq (name_cmp x q)) true (has q names))
    → ((q : VarName) → (has q names || has q (drop i members)) ≡ has q members) → (q : VarName) → (has q more || has q rest) ≡ has q members
one_put members names more rest x i e put h q =
    ap (λ b. b || has q rest) (put q ∙ ap (λ b. cond b true (has q names)) ((eq_by_cmp_equiv name_total).symm x q))
    ∙ moved (has q names) (eq_by_cmp name_cmp q x) (has q rest) (has q members) (ap (λ l. has q names || has q l) (sym e) ∙ h q)
