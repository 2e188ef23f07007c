-- Lists of distinct variables: where a variable stands, and one more at the end.
use Rattle.ghc_term.proofs.Words.{◌≡◌, ℕ, ◌<◌, true, false, cond, List, [], ◌∷◌, ◌++◌, length, get_or, take, slice_get, position, Option, Some, None, is_some, IfSome, IfNone, All, refl, sym, ap, ◌∙◌, subst, ◌≢◌, arith, list_any, false_from_ne_true, position-Some, All-contains, slice_get-get_or, get_or-take, get_or_default, length-take-le, IsDistinct-push, apart_from_distinct, IsEquivalence, eq_by_cmp_equiv, insert_key, VarName, In, AreDifferent, is_same, name_cmp}
use Rattle.std.specs.List.{IsDistinct}
use Rattle.ghc_term.proofs.Names.{name_total, same_name, itself}
use Rattle.ghc_term.proofs.Entries.{same_is}
use Rattle.ghc_term.proofs.ListsLemmas.{in_contains, in_at, not_both}
use Rattle.ghc_term.proofs.SetsLemmas.{any_same, in_any, any_in, in_set, set_in}
use Rattle.std.specs.FinSet as set

-- what no test finds is not there
pub none_in : (xs : List VarName) (x : VarName) → All (λ y. y ≢ x) xs → ¬ In x xs
none_in xs x a i = All-contains (λ y. y ≢ x) xs x a (in_contains xs x i) refl

pub not_any : (xs : List VarName) (x : VarName) → ¬ In x xs → list_any (is_same x) xs ≡ false
not_any xs x n = false_from_ne_true _ (λ e. n (any_in x xs (sym (any_same x xs) ∙ e)))

-- the place that a table gives
pub at_position : (xs : List VarName) (x : VarName) (o : Option ℕ) → o ≡ position (is_same x) xs → IfSome o (λ i. slice_get xs i ≡ Some x)
at_position xs x None e = tt
at_position xs x (Some i) e =
    let p = position-Some (is_same x) xs i x (sym e) in
    slice_get-get_or xs i x p.0 ∙ ap Some (sym (same_name x (get_or xs i x) (sym (same_is x (get_or xs i x)) ∙ p.1)))

-- the same of a list that is another one
pub none_at : (o : Option ℕ) (xs ys : List VarName) (x : VarName) → xs ≡ ys → IfNone o (All (λ y. y ≢ x) xs) → IfNone o (¬ In x ys)
none_at None xs ys x e a = subst (λ l. ¬ In x l) e (none_in xs x a)
none_at (Some i) xs ys x e a = tt

pub found_at : (o : Option ℕ) (xs ys : List VarName) (x : VarName) → xs ≡ ys → o ≡ position (is_same x) xs → IfSome o (λ i. slice_get ys i ≡ Some x)
found_at o xs ys x e p = subst (λ l. IfSome o (λ i. slice_get l i ≡ Some x)) e (at_position xs x o p)

pub absent_at : (o : Option ℕ) (xs ys : List VarName) (x : VarName) → xs ≡ ys → is_some o ≡ list_any (is_same x) xs → IfNone o (¬ In x ys)
absent_at None xs ys x e h = subst (λ l. ¬ In x l) e (λ i. not_both (list_any (is_same x) xs) (sym h) (any_same x xs ∙ in_any x xs i))
absent_at (Some i) xs ys x e h = tt

-- a key that is not there goes to the end
pub pushed : (xs : List VarName) (x : VarName) → ¬ In x xs → insert_key is_same xs x ≡ xs ++ x ∷ []
pushed xs x n = ap (λ b. cond b xs (xs ++ x ∷ [])) (not_any xs x n)

-- what stands at a place of different variables stands nowhere before
pub not_before : (xs : List VarName) (j : ℕ) (d : VarName) → AreDifferent xs → j < length xs → ¬ In (get_or xs j d) (take j xs)
not_before xs j d a h i =
    let x = get_or xs j d in
    let w = in_contains (take j xs) x i in
    let before : w.0 < j = omega (arith, w.1, length-take-le j xs (omega (arith, h))) in
    let there : get_or xs w.0 x ≡ x = sym (get_or-take j xs w.0 x before) ∙ w.2 in
    let here : get_or xs j x ≡ x = get_or_default xs j x d h in
    let differ : is_same x x ≡ false = ap (λ y. is_same y x) (sym there) ∙ ap (is_same (get_or xs w.0 x)) (sym here) ∙ apart_from_distinct is_same xs w.0 j x a before h in
    not_both (is_same x x) differ (same_is x x ∙ itself x)

-- one more of different variables
pub equivalence : IsEquivalence is_same
equivalence = record {
  refl = λ x. same_is x x ∙ itself x;
  symm = λ x y. same_is x y ∙ (eq_by_cmp_equiv name_total).symm x y ∙ sym (same_is y x);
  congr = λ x y z e. same_is x z ∙ (eq_by_cmp_equiv name_total).congr x y z (sym (same_is x y) ∙ e) ∙ sym (same_is y z);
}

pub one_more : (xs ys : List VarName) (x : VarName) → AreDifferent xs → ¬ In x xs → ys ≡ xs ++ x ∷ [] → AreDifferent ys
one_more xs ys x a n e = subst AreDifferent (sym e) (IsDistinct-push equivalence xs x a (not_any xs x n))

pub nothing : (xs : List VarName) → xs ≡ [] → AreDifferent xs
unfolding IsDistinct
nothing [] e = tt
nothing (x ∷ xs) e = cc

pub one_alone : (x : VarName) → AreDifferent (x ∷ [])
unfolding IsDistinct
one_alone x = (tt, tt)

-- whether a place is found says whether the variable is in the set
pub placed : (o : Option ℕ) (xs : List VarName) (x : VarName) → IfSome o (λ i. slice_get xs i ≡ Some x) → IfNone o (¬ In x xs) → is_some o ≡ set.contains (set.from_list {R = name_cmp} xs) x
placed (Some i) xs x f n = sym (in_set x xs (in_at xs i x f))
placed None xs x f n = sym (false_from_ne_true _ (λ e. n (set_in x xs e)))

pub is_there : (o : Option ℕ) (xs : List VarName) (x : VarName) → is_some o ≡ true → IfSome o (λ i. slice_get xs i ≡ Some x) → In x xs
is_there None xs x e f = cc
is_there (Some i) xs x e f = in_at xs i x f
