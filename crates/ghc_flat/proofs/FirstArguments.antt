-- The tables of a program by the first arguments of its heads.
use Rattle.ghc_flat.proofs.Words.{◌≡◌, ℕ, suc, true, false, cond, ◌||◌, ◌⊎◌, List, [], ◌∷◌, ◌++◌, length, filter, refl, sym, ap, ◌∙◌, inl, inr, subst, arith, nat_eq, eqb-true, bytes_eq-Decides, Decides-int_eq, Option, Some, None, slice_get, filter-append, IsStrictlyIncreasing-filter, lookup, In, Tree, variable, integer, node, IsValue, Clause, Program, IsClause, Index, Table, IsIndexOf, numbers_at, AreNumbersFor, AreNumbersWith, BeginsOtherwise, keys_of_program, numbers_from, has_top, is_unvalued, first_in, first_of, numbers_of_top, candidates_of, merged, IsTableOf, AreTablesOf}
use Rattle.ghc_flat.proofs.Numbers.{numbers_for, numbers_climb, clause_once}
use Rattle.ghc_flat.proofs.Merged.{merged_filters, in_filter, filter_in}

-- one number more in a table
pub table_more : (P : Program) (ks : List ℕ) (k : ℕ) (o : Option Tree) (T U : Table) → IsTableOf P ks T → o ≡ first_of P k
    → ((t : Tree) → numbers_of_top U t ≡ numbers_of_top T t ++ cond (has_top t o) (k ∷ []) []) → U.unvalued.items ≡ T.unvalued.items ++ cond (is_unvalued o) (k ∷ []) []
    → IsTableOf P (ks ++ k ∷ []) U
table_more P ks k o T U is e valued unvalued = record {
  valued = λ t. valued t ∙ ap (λ l. l ++ cond (has_top t o) (k ∷ []) []) (is.valued t) ∙ ap (λ z. filter (λ j. has_top t (first_of P j)) ks ++ cond (has_top t z) (k ∷ []) []) e
      ∙ sym (filter-append (λ j. has_top t (first_of P j)) ks (k ∷ []));
  unvalued = unvalued ∙ ap (λ l. l ++ cond (is_unvalued o) (k ∷ []) []) is.unvalued ∙ ap (λ z. filter (λ j. is_unvalued (first_of P j)) ks ++ cond (is_unvalued z) (k ∷ []) []) e
      ∙ sym (filter-append (λ j. is_unvalued (first_of P j)) ks (k ∷ []));
}

-- two names and arities whose numbers begin alike are one
one_key : (P : Program) (f g : List ℕ) (n m j : ℕ) (ks is : List ℕ) → numbers_from 0 (keys_of_program P) f n ≡ j ∷ ks → numbers_from 0 (keys_of_program P) g m ≡ j ∷ is → j ∷ ks ≡ j ∷ is
one_key P f g n m j ks is e d =
    let a = ((numbers_for P f n).«exactly» j).0 (subst (In j) (sym e) (inl refl)) in
    let b = ((numbers_for P g m).«exactly» j).0 (subst (In j) (sym d) (inl refl)) in
    let same : a.0 ≡ b.0 = clause_once P a.1 b.1 in
    let name : f ≡ g = sym a.2 ∙ ap (λ (c : Clause). c.name) same ∙ b.2 in
    let arity : n ≡ m = sym a.3 ∙ ap (λ (c : Clause). length c.head) same ∙ b.3 in
    sym e ∙ (λ i. numbers_from 0 (keys_of_program P) (name i) (arity i)) ∙ d

-- one table more
tables_more : (P : Program) (f : List ℕ) (n j : ℕ) (ks : List ℕ) (T : Table) (es ds : List (ℕ × Table)) → AreTablesOf P es → numbers_from 0 (keys_of_program P) f n ≡ j ∷ ks → IsTableOf P (j ∷ ks) T
    → ((i : ℕ) → lookup (nat_eq i) ds ≡ cond (nat_eq j i) (Some T) (lookup (nat_eq i) es)) → AreTablesOf P ds
tables_more P f n j ks T es ds are e is more g m i js U d l =
    elim (nat_eq j i) as (λ b. nat_eq j i ≡ b → cond b (Some T) (lookup (nat_eq i) es) ≡ Some U → IsTableOf P (i ∷ js) U) [
      | true ↦ λ y s.
          let same : i ≡ j = sym (eqb-true j i y) in
          let first : numbers_from 0 (keys_of_program P) g m ≡ j ∷ js = d ∙ ap (λ k. k ∷ js) same in
          let one : j ∷ ks ≡ i ∷ js = one_key P f g n m j ks js e first ∙ ap (λ k. k ∷ js) (sym same) in
          let table : T ≡ U = cc in
          subst (λ V. IsTableOf P (i ∷ js) V) table (subst (λ l. IsTableOf P l T) one is)
      | false ↦ λ y s. are g m i js U d s
    ] refl (sym (more i) ∙ l)

pub table_added : (P : Program) (f : List ℕ) (n j : ℕ) (ks : List ℕ) (T : Table) (es ds : List (ℕ × Table)) → slice_get ks 0 ≡ Some j → ks ≡ numbers_from 0 (keys_of_program P) f n → IsTableOf P ks T
    → ((i : ℕ) → lookup (nat_eq i) ds ≡ cond (nat_eq j i) (Some T) (lookup (nat_eq i) es)) → AreTablesOf P es → AreTablesOf P ds
table_added P f n j [] T es ds first are is more old = let clash : None ≡ Some j = first in cc
table_added P f n j (k ∷ ks) T es ds first are is more old =
    let same : k ≡ j = cc in
    tables_more P f n j ks T es ds old (sym are ∙ ap (λ m. m ∷ ks) same) (subst (λ m. IsTableOf P (m ∷ ks) T) same is) more

-- a head has one top at most
apart : (t : Tree) (o : Option Tree) → ¬ ((has_top t o ≡ true) × (is_unvalued o ≡ true))
apart t None (e, d) = cc
apart (variable y) (Some (variable x)) (e, d) = cc
apart (integer j) (Some (variable x)) (e, d) = cc
apart (node f ts) (Some (variable x)) (e, d) = cc
apart t (Some (integer k)) (e, d) = cc
apart t (Some (node g us)) (e, d) = cc

-- a head that a test leaves out has another value
other : (c : Clause) (t : Tree) (o : Option Tree) → IsValue t → slice_get c.head 0 ≡ o → has_top t o || is_unvalued o ≡ false → BeginsOtherwise c (Some t)
other c (variable x) o v s e = absurd v
other c (integer j) None v s e = cc
other c (node f ts) None v s e = cc
other c (integer j) (Some (variable x)) v s e = cc
other c (node f ts) (Some (variable x)) v s e = cc
other c (integer j) (Some (node g us)) v s e = (node g us, s, tt)
other c (node f ts) (Some (integer k)) v s e = (integer k, s, tt)
other c (integer j) (Some (integer k)) v s e = (
  integer k,
  s,
  λ same. let clash : true ≡ false = sym (ap (λ b. b || false) ((Decides-int_eq j k).1 (sym same))) ∙ e in cc,
)
other c (node f ts) (Some (node g us)) v s e = (
  node g us,
  s,
  λ same. let clash : true ≡ false = sym (ap (λ b. b || false) ((bytes_eq-Decides f g).1 (sym same))) ∙ e in cc,
)

first_is : (P : Program) (k : ℕ) (c : Clause) → IsClause P k c → first_of P k ≡ slice_get c.head 0
first_is P k c (i, e, at) = let next : k ≡ suc i = omega (arith, e) in ap (first_of P) next ∙ ap first_in at

-- all numbers serve for every first argument
all_with : (P : Program) (f : List ℕ) (n : ℕ) (e : Option Tree) (ks : List ℕ) → AreNumbersFor P f n ks → AreNumbersWith P f n e ks
all_with P f n e ks numbers = record {
  sound = λ k i. (numbers.«exactly» k).0 i;
  complete = λ k c ic name arity. inl ((numbers.«exactly» k).1 (c, ic, name, arity));
  increasing = numbers.increasing;
}

-- those without another value serve for a value
picked_with : (P : Program) (f : List ℕ) (n : ℕ) (t : Tree) (ks : List ℕ) → IsValue t → AreNumbersFor P f n ks → AreNumbersWith P f n (Some t) (filter (λ k. has_top t (first_of P k) || is_unvalued (first_of P k)) ks)
picked_with P f n t ks v numbers = record {
  sound = λ k i. (numbers.«exactly» k).0 (in_filter (λ k. has_top t (first_of P k) || is_unvalued (first_of P k)) ks k i);
  complete = λ k c ic name arity.
      let there = (numbers.«exactly» k).1 (c, ic, name, arity) in
      elim (has_top t (first_of P k) || is_unvalued (first_of P k)) as (λ b. has_top t (first_of P k) || is_unvalued (first_of P k) ≡ b
      → In k (filter (λ k. has_top t (first_of P k) || is_unvalued (first_of P k)) ks) ⊎ BeginsOtherwise c (Some t)) [
        | true ↦ λ e. inl (filter_in (λ k. has_top t (first_of P k) || is_unvalued (first_of P k)) ks k there e)
        | false ↦ λ e. inr (other c t (first_of P k) v (sym (first_is P k c ic)) e)
      ] refl;
  increasing = IsStrictlyIncreasing-filter (λ k. has_top t (first_of P k) || is_unvalued (first_of P k)) ks numbers.increasing;
}

merged_with_value : (P : Program) (f : List ℕ) (n : ℕ) (T : Table) (t : Tree) → IsValue t → IsTableOf P (numbers_from 0 (keys_of_program P) f n) T → AreNumbersWith P f n (Some t) (merged (numbers_of_top T t) T.unvalued.items)
merged_with_value P f n T t v is =
    let ks = numbers_from 0 (keys_of_program P) f n in
    let both = (λ i. merged (is.valued t i) (is.unvalued i))
    ∙ merged_filters (λ k. has_top t (first_of P k)) (λ k. is_unvalued (first_of P k)) (λ k. apart t (first_of P k)) 0 ks (numbers_climb (keys_of_program P) 0 f n) in
    subst (AreNumbersWith P f n (Some t)) (sym both) (picked_with P f n t ks v (numbers_for P f n))

-- what a table gives serves
table_with : (P : Program) (f : List ℕ) (n : ℕ) (T : Table) (t : Tree) → IsTableOf P (numbers_from 0 (keys_of_program P) f n) T
    → AreNumbersWith P f n (Some t) (candidates_of T (numbers_from 0 (keys_of_program P) f n) t)
table_with P f n T (variable x) is = all_with P f n (Some (variable x)) _ (numbers_for P f n)
table_with P f n T (integer k) is = merged_with_value P f n T (integer k) tt is
table_with P f n T (node g us) is = merged_with_value P f n T (node g us) tt is

-- the numbers of an index serve
pub given_all : (P : Program) (i : Index) (f : List ℕ) (n : ℕ) (e : Option Tree) (ks : List ℕ) → IsIndexOf (keys_of_program P) i → ks ≡ numbers_at i f n → AreNumbersWith P f n e ks
given_all P i f n e ks index is = subst (AreNumbersWith P f n e) (sym (is ∙ index f n)) (all_with P f n e _ (numbers_for P f n))

-- and so does what the table gives that stands under the first of them
pub given_table : (P : Program) (i : Index) (es : List (ℕ × Table)) (f : List ℕ) (n j : ℕ) (ks : List ℕ) (T : Table) (t : Tree) → IsIndexOf (keys_of_program P) i → AreTablesOf P es → ks ≡ numbers_at i f n → slice_get ks 0 ≡ Some j → lookup (nat_eq j) es ≡ Some T
    → AreNumbersWith P f n (Some t) (candidates_of T ks t)
given_table P i es f n j [] T t index are is first there = let clash : None ≡ Some j = first in cc
given_table P i es f n j (k ∷ ks) T t index are is first there =
    let same : k ≡ j = cc in
    let all : k ∷ ks ≡ numbers_from 0 (keys_of_program P) f n = is ∙ index f n in
    let table : IsTableOf P (j ∷ ks) T = are f n j ks T (sym all ∙ ap (λ m. m ∷ ks) same) there in
    let here : j ∷ ks ≡ numbers_from 0 (keys_of_program P) f n = ap (λ m. m ∷ ks) (sym same) ∙ all in
    subst (λ l. AreNumbersWith P f n (Some t) (candidates_of T l t)) (sym all) (table_with P f n T t (subst (λ l. IsTableOf P l T) here table))
