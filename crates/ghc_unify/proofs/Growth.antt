-- Sets of variables that grow by lists.
use Rattle.ghc_unify.proofs.Words.{◌≡◌, ℕ, ◌+◌, ◌<◌, Bool, true, false, cond, ◌||◌, List, [], ◌∷◌, ◌++◌, length, get_or, take, sym, ap, ◌∙◌, append-nil, arith, Option, Some, None, is_some, option_copied, Bor, take_more, filter-append, list_any-append, list_any, eq_by_cmp, VarName, Tree, name_cmp, name_total, name_antisymmetric, met}
use Rattle.std.specs.FinSet as set

-- whether the set with the list added has q
added : (s : set.FinSet name_cmp) (xs : List VarName) (q : VarName) → set.contains (set.union s (set.from_list xs)) q ≡ (set.contains s q || list_any (eq_by_cmp name_cmp q) xs)
added s xs q = set.contains-union name_total s (set.from_list xs) q ∙ ap (λ b. set.contains s q || b) (set.contains-from_list name_total xs q)

-- nothing is added
pub union_none : (s : set.FinSet name_cmp) → s ≡ set.union s (set.from_list [])
union_none s = set.same_set name_total name_antisymmetric _ _ (λ q. simp added (grind arith))

-- one list after another is added
pub union_append : (s : set.FinSet name_cmp) (xs ys : List VarName) → set.union (set.union s (set.from_list xs)) (set.from_list ys) ≡ set.union s (set.from_list (xs ++ ys))
union_append s xs ys = set.same_set name_total name_antisymmetric _ _ (λ q. simp (added, list_any-append) (grind arith))

-- one variable is added
pub union_push : (s : set.FinSet name_cmp) (xs : List VarName) (x : VarName) → set.insert (set.union s (set.from_list xs)) x ≡ set.union s (set.from_list (xs ++ x ∷ []))
union_push s xs x = set.same_set name_total name_antisymmetric _ _ (λ q. simp (set.contains-insert name_total, added, list_any-append) (grind arith))

-- a list alone
pub union_empty : (xs : List VarName) → set.union set.empty (set.from_list xs) ≡ set.from_list {R = name_cmp} xs
union_empty xs = set.same_set name_total name_antisymmetric _ _ (λ q. added set.empty xs q ∙ ap (λ b. b || list_any (eq_by_cmp name_cmp q) xs) (set.contains-empty name_cmp q) ∙ sym (set.contains-from_list name_total xs q))

-- one variable more of a list, which is read where it is bound
module _ (S : VarName → Option Tree) (xs : List VarName) (i : ℕ) (d : VarName) (h : i < length xs) where
  met_more : met S (take (i + 1) xs) ≡ met S (take i xs) ++ cond (is_some (S (get_or xs i d))) (get_or xs i d ∷ []) []
  met_more = ap (met S) (take_more xs i d h) ∙ filter-append (λ y. is_some (S y)) (take i xs) (get_or xs i d ∷ [])

  pub read_next : (init old : set.FinSet name_cmp) (b : Bool) → is_some (S (get_or xs i d)) ≡ b → old ≡ set.union init (set.from_list (met S (take i xs)))
      → cond b (set.insert old (get_or xs i d)) old ≡ set.union init (set.from_list (met S (take (i + 1) xs)))
  read_next init old true p e = rw (e, met_more, p) (union_push init (met S (take i xs)) (get_or xs i d))
  read_next init old false p e = rw (met_more, p, append-nil) e

pub met_unbound : (S : VarName → Option Tree) (xs : List VarName) (x : VarName) → S x ≡ None → met S (xs ++ x ∷ []) ≡ met S xs
met_unbound S xs x n = filter-append (λ y. is_some (S y)) xs (x ∷ []) ∙ ap (λ o. met S xs ++ cond (is_some o) (x ∷ []) []) n ∙ append-nil (met S xs)

-- what is lent is there exactly where it is
pub some_copied : (o : Option (Bor Tree)) (p : Option Tree) → option_copied o ≡ p → is_some p ≡ is_some o
some_copied None p e = ap is_some (sym e)
some_copied (Some t) p e = ap is_some (sym e)

-- what two chains add
pub read_both : (S : VarName → Option Tree) (old : set.FinSet name_cmp) {mid grown : set.FinSet name_cmp} {xs ys zs ws : List VarName}
    → mid ≡ set.union old (set.from_list (met S zs)) → zs ≡ xs
    → grown ≡ set.union mid (set.from_list (met S ws)) → ws ≡ ys → grown ≡ set.union old (set.from_list (met S xs ++ met S ys))
read_both S old {zs = zs} {ws = ws} p i q j = rw (← i, ← j, q, p) (union_append old (met S zs) (met S ws))
