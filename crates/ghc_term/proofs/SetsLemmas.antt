-- Sets of variables: what they hold, and the lists that hold the same.
use Rattle.ghc_term.proofs.Words.{◌≡◌, ◌+◌, ◌<◌, Bool, true, false, cond, ◌||◌, List, [], ◌∷◌, length, refl, sym, ap, ◌∙◌, inl, inr, ◌⊎◌, arith, ◌↔◌, IsTrue, list_any, AllByRecursion, eq_by_cmp, eq_by_cmp_equiv, or_cases, or_right, list_any-from_Contains, Contains-from_any, VarName, name_cmp, In, Variables, IsSetOf}
use Rattle.std.specs.List.{IsDistinct}
use Rattle.std.specs.FinSet as set
use Rattle.ghc_term.proofs.Names.{name_total, name_antisymmetric, same_name, itself}
use Rattle.ghc_term.proofs.Entries.{same, same_is}
use Rattle.ghc_term.proofs.ListsLemmas.{in_contains, contains_in, Each, each_in}

-- a variable of the list is found there, and what is found is one
pub in_any : (x : VarName) (xs : List VarName) → In x xs → list_any (eq_by_cmp name_cmp x) xs ≡ true
in_any x xs i = list_any-from_Contains (eq_by_cmp_equiv name_total) x xs (in_contains xs x i)

pub any_in : (x : VarName) (xs : List VarName) → list_any (eq_by_cmp name_cmp x) xs ≡ true → In x xs
any_in x xs e = contains_in xs x (Contains-from_any same_name x xs e)

-- a list and the set of its variables
pub in_set : (x : VarName) (xs : List VarName) → In x xs → IsTrue (set.contains (set.from_list {R = name_cmp} xs) x)
in_set x xs i = set.contains-from_list name_total xs x ∙ in_any x xs i

pub set_in : (x : VarName) (xs : List VarName) → IsTrue (set.contains (set.from_list {R = name_cmp} xs) x) → In x xs
set_in x xs c = any_in x xs (sym (set.contains-from_list name_total xs x) ∙ c)

pub set_by : (xs : List VarName) (P : VarName → Type 0) → Each xs P → ((x : VarName) → P x → In x xs) → IsSetOf (set.from_list xs) P
set_by xs P a b x = (λ c. each_in xs P x a (set_in x xs c), λ p. in_set x xs (b x p))

pub has_member : (s : Variables) (xs : List VarName) → set.from_list xs ≡ s → (x : VarName) → In x xs → IsTrue (set.contains s x)
has_member s xs a x i = ap (λ z. set.contains z x) (sym a) ∙ in_set x xs i

pub is_member : (s : Variables) (xs : List VarName) → set.from_list xs ≡ s → (x : VarName) → IsTrue (set.contains s x) → In x xs
is_member s xs a x c = set_in x xs (ap (λ z. set.contains z x) a ∙ c)

-- nothing is in the empty set
pub holds_nothing : (s : Variables) → s ≡ set.empty → (x : VarName) → ¬ IsTrue (set.contains s x)
holds_nothing s e x h = let clash : false ≡ true = sym (set.contains-empty name_cmp x) ∙ ap (λ z. set.contains z x) (sym e) ∙ h in cc

-- what is in a set with one variable more
pub one_inserted : (s : Variables) (x q : VarName) → IsTrue (set.contains (set.insert s x) q) ↔ (IsTrue (set.contains s q) ⊎ (q ≡ x))
one_inserted s x q = (
  λ h. elim (or_cases (eq_by_cmp name_cmp q x) (set.contains s q) (sym (set.contains-insert name_total s x q) ∙ h)) [
    | inl e ↦ inr (same_name q x e)
    | inr e ↦ inl e
  ],
  λ h. set.contains-insert name_total s x q ∙ elim h [
    | inl e ↦ or_right (eq_by_cmp name_cmp q x) (set.contains s q) e
    | inr e ↦ ap (λ b. b || set.contains s q) (ap (eq_by_cmp name_cmp q) (sym e) ∙ itself q)
  ],
)

-- a set that is not empty has a member, and one without members is empty
pub member : (s : Variables) → 0 < set.len s → (x : VarName) × IsTrue (set.contains s x)
member s h = by (set.items s) refl where
  by : (xs : List VarName) → set.items s ≡ xs → (x : VarName) × IsTrue (set.contains s x)
  by [] e =
      let none : s ≡ set.empty = set.same_set name_total name_antisymmetric s set.empty (λ q. set.contains-items s q ∙ ap (list_any (eq_by_cmp name_cmp q)) e ∙ sym (set.contains-empty name_cmp q)) in
      let zero : set.len s ≡ 0 = ap set.len none ∙ set.len-empty name_cmp in
      absurd (omega (arith, zero))
  by (x ∷ xs) e = (x, set.contains-items s x ∙ ap (list_any (eq_by_cmp name_cmp x)) e ∙ ap (λ b. b || list_any (eq_by_cmp name_cmp x) xs) (itself x))

pub no_member : (s : Variables) → set.len s ≡ 0 → (x : VarName) → ¬ IsTrue (set.contains s x)
no_member s h x = holds_nothing s (set.empty_of_len s h) x

-- a set is given by what it holds
pub agree : (a b : Bool) → (IsTrue a → IsTrue b) → (IsTrue b → IsTrue a) → a ≡ b
agree true b f g = sym (f refl)
agree false true f g = g refl
agree false false f g = refl

pub same_held : (s t : Variables) → ((x : VarName) → IsTrue (set.contains s x) → IsTrue (set.contains t x)) → ((x : VarName) → IsTrue (set.contains t x) → IsTrue (set.contains s x)) → s ≡ t
same_held s t f g = set.same_set name_total name_antisymmetric s t (λ x. agree (set.contains s x) (set.contains t x) (f x) (g x))

pub one_set : (s t : Variables) (P Q : VarName → Type 0) → IsSetOf s P → IsSetOf t Q → ((x : VarName) → P x → Q x) → ((x : VarName) → Q x → P x) → s ≡ t
one_set s t P Q p q f g = same_held s t (λ x i. (q x).1 (f x ((p x).0 i))) (λ x i. (p x).1 (g x ((q x).0 i)))

-- the set is one of what holds the same
pub set_of : (s : Variables) (P Q : VarName → Type 0) → ((x : VarName) → P x → Q x) → ((x : VarName) → Q x → P x) → IsSetOf s P → IsSetOf s Q
set_of s P Q f g p x = (λ i. f x ((p x).0 i), λ q. (p x).1 (g x q))

-- the same of lists by the test that the variables' own equality makes
pub any_same : (x : VarName) (ks : List VarName) → list_any (same x) ks ≡ list_any (eq_by_cmp name_cmp x) ks
any_same x [] = refl
any_same x (k ∷ ks) = ap (λ b. b || list_any (same x) ks) (same_is x k) ∙ ap (λ b. eq_by_cmp name_cmp x k || b) (any_same x ks)

pub has_at : (x : VarName) (ks : List VarName) → list_any (same x) ks ≡ set.contains (set.from_list {R = name_cmp} ks) x
has_at x ks = any_same x ks ∙ sym (set.contains-from_list name_total ks x)

pub absorbed : (s : Variables) (x : VarName) → IsTrue (set.contains s x) → s ≡ set.insert s x
absorbed s x h = same_held s (set.insert s x) (λ q i. (one_inserted s x q).1 (inl i)) (λ q i. elim ((one_inserted s x q).0 i) [
  | inl c ↦ c
  | inr e ↦ ap (set.contains s) e ∙ h
])

-- distinct variables are as many as the list is long
other_than : (k : VarName) (ks : List VarName) → AllByRecursion (λ y. same k y ≡ false) ks → list_any (same k) ks ≡ false
other_than k [] a = refl
other_than k (y ∷ ks) a = ap (λ b. b || list_any (same k) ks) a.0 ∙ other_than k ks a.1

pub list_len : (ks : List VarName) → IsDistinct same ks → set.len (set.from_list {R = name_cmp} ks) ≡ length ks
unfolding IsDistinct
list_len [] d = set.len-empty name_cmp
list_len (k ∷ ks) d =
    let absent : set.contains (set.from_list {R = name_cmp} ks) k ≡ false = sym (has_at k ks) ∙ other_than k ks d.0 in
    let grown = set.len-insert name_total (set.from_list ks) k ∙ ap (λ b. cond b (set.len (set.from_list {R = name_cmp} ks)) (set.len (set.from_list {R = name_cmp} ks) + 1)) absent in
    omega (arith, grown, list_len ks d.1)
