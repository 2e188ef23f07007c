-- The values of expressions: each has one, and hangs on the chains of its variables.
use Rattle.ghc_match.proofs.Words.{◌≡◌, ℤ, List, refl, sym, ap, ◌∙◌, subst, inl, inr, ℕ, Option, VarName, Operator, Divide, Modulo, Tree, variable, integer, node, Trees, Expression, leaf, operation, In, Comes, now, on, Reaches, through, leads_once, in_left, in_right, in_either, one_set, set_of, leaf_variables, EndsIn, Computes, Number, of_integer, of_variable, computed, Wants, number, bad, HasValue, ExpressionReaches, ValuesExclude, ValueLooksAtItsTerms}
use Rattle.ghc_term.specs.Bindings.{here}
use Rattle.ghc_match.specs.Value.{Value, waits}
use Rattle.ghc_match.proofs.Chains.{leads_there, leads_back}

pub computes_once : (o : Operator) (x y z w : ℤ) → Computes o x y z → Computes o x y w → z ≡ w
computes_once Divide x y z w p q = p.1 ∙ sym q.1
computes_once Modulo x y z w p q = p.1 ∙ sym q.1
computes_once _ x y z w p q = p.0 ∙ sym q.0

-- an operation's value comes from those of its sides
pub sides : {E : VarName → Tree → Type 0} {o : Operator} {a b : Expression} {z : ℤ} → Number E (operation o a b) z → (x y : ℤ) × Number E a x × Number E b y × Computes o x y z
sides (computed {x = x} {y = y} m n w) = (x, y, m, n, w)

pub no_structure : {E : VarName → Tree → Type 0} {f : List ℕ} {ts : Trees} {k : ℤ} → ¬ Number E (leaf (node f ts)) k
no_structure n = elim n [ ]

-- an integer has itself as its value
pub integer_is : {E : VarName → Tree → Type 0} {j k : ℤ} → Number E (leaf (integer j)) k → k ≡ j
integer_is of_integer = refl

-- a variable has the value at which it ends
pub variable_is : {E : VarName → Tree → Type 0} {x : VarName} {k : ℤ} → Number E (leaf (variable x)) k → E x (integer k)
variable_is (of_variable p) = p

-- where E gives each variable one end
module _ {E : VarName → Tree → Type 0} (once : (x : VarName) (e f : Tree) → E x e → E x f → e ≡ f) where
  pub number_once : {a : Expression} {j k : ℤ} → Number E a j → Number E a k → j ≡ k
  number_once of_integer of_integer = refl
  number_once (of_variable {x = x} {k = j} p) (of_variable {k = k} q) = let same : integer j ≡ integer k = once x (integer j) (integer k) p q in cc
  number_once (computed {o = o} {x = x} {y = y} {z = z} m n w) (computed {x = u} {y = v} {z = k} p q r) =
      let one = number_once m p in
      let two = number_once n q in
      computes_once o x y z k w (subst (λ i. Computes o i y k) (sym one) (subst (λ i. Computes o u i k) (sym two) r))

  -- what has a value waits for nothing
  pub number_waits_not : {a : Expression} {k : ℤ} {x : VarName} → Number E a k → ¬ Wants E (leaf_variables a) x
  number_waits_not of_integer w = absurd w.1
  number_waits_not {x = z} (of_variable {x = x} {k = k} p) w =
      elim w.1 [
        | inl e ↦ let same : variable z ≡ integer k = once x (variable z) (integer k) (subst (λ y. E y (variable z)) e w.2) p in cc
        | inr i ↦ absurd i
      ]
  number_waits_not (computed {a = a} {b = b} m n c) w =
      elim (in_either (leaf_variables a) (leaf_variables b) w.0 w.1) [
        | inl i ↦ number_waits_not m (w.0, i, w.2)
        | inr i ↦ number_waits_not n (w.0, i, w.2)
      ]

-- the values go over from E to F, where the ends of the variables do
pub number_there : {E F : VarName → Tree → Type 0} {a : Expression} {k : ℤ} → Number E a k → ((x : VarName) (e : Tree) → In x (leaf_variables a) → E x e → F x e) → Number F a k
number_there of_integer h = of_integer
number_there (of_variable {x = x} {k = k} p) h = of_variable (h x (integer k) (inl refl) p)
number_there (computed {a = a} {b = b} m n w) h = computed
    (number_there m (λ x e i. h x e (in_left (leaf_variables a) (leaf_variables b) x i)))
    (number_there n (λ x e i. h x e (in_right (leaf_variables a) (leaf_variables b) x i))) w

pub ends_once : {S : VarName → Option Tree} (x : VarName) (e f : Tree) → EndsIn S x e → EndsIn S x f → e ≡ f
ends_once x e f p q = (leads_once p.1 q.1).1

pub values_exclude : ValuesExclude
values_exclude S a (number j) (number k) p q = ap number (number_once ends_once p q)
values_exclude S a (number j) (waits xs) p q = absurd (number_waits_not ends_once p q.1.1)
values_exclude S a (number j) bad p q = absurd (q.1 j p)
values_exclude S a (waits xs) (number k) p q = absurd (number_waits_not ends_once q p.1.1)
values_exclude S a (waits xs) (waits ys) p q = ap waits (one_set xs ys (Wants (EndsIn S) (leaf_variables a)) (Wants (EndsIn S) (leaf_variables a)) p.0 q.0 (λ x w. w) (λ x w. w))
values_exclude S a (waits xs) bad p q = absurd (q.0 p.1.0 p.1.1)
values_exclude S a bad (number k) p q = absurd (p.1 k q)
values_exclude S a bad (waits xs) p q = absurd (p.0 q.1.0 q.1.1)
values_exclude S a bad bad p q = refl

-- what a variable's chain passes is reached from the expression
pub leaf_reaches : {S : VarName → Option Tree} (a : Expression) (y x : VarName) → In y (leaf_variables a) → Reaches S (variable y) x → ExpressionReaches S a x
leaf_reaches {S = S} (leaf (variable z)) y x (inl e) r = subst (λ w. Reaches S (variable w) x) e r
leaf_reaches (leaf (variable z)) y x (inr i) r = absurd i
leaf_reaches (leaf _) y x i r = absurd i
leaf_reaches (operation o a b) y x i r =
    elim (in_either (leaf_variables a) (leaf_variables b) y i) [ inl j ↦ inl (leaf_reaches a y x j r) | inr j ↦ inr (leaf_reaches b y x j r) ]

pub passes_reaches : {S : VarName → Option Tree} {t : Tree} {xs : List VarName} {x : VarName} → Comes S t xs x → Reaches S t x
passes_reaches now = here refl
passes_reaches (on e c) = through refl e (passes_reaches c)

module _ (S S' : VarName → Option Tree) (a : Expression) (h : (x : VarName) → ExpressionReaches S a x → S' x ≡ S x) where
  ends_there : (y : VarName) (e : Tree) → In y (leaf_variables a) → EndsIn S y e → EndsIn S' y e
  ends_there y e i l = (l.0, leads_there l.1 (λ x p. h x (leaf_reaches a y x i (passes_reaches p.1))))

  ends_back : (y : VarName) (e : Tree) → In y (leaf_variables a) → EndsIn S' y e → EndsIn S y e
  ends_back y e i l = (l.0, leads_back l.1 (λ x p. h x (leaf_reaches a y x i (passes_reaches p.1))))

  wants_there : (x : VarName) → Wants (EndsIn S) (leaf_variables a) x → Wants (EndsIn S') (leaf_variables a) x
  wants_there x w = (w.0, w.1, ends_there w.0 (variable x) w.1 w.2)

  wants_back : (x : VarName) → Wants (EndsIn S') (leaf_variables a) x → Wants (EndsIn S) (leaf_variables a) x
  wants_back x w = (w.0, w.1, ends_back w.0 (variable x) w.1 w.2)

  value_there : (v : Value) → HasValue S a v → HasValue S' a v
  value_there (number k) p = number_there p ends_there
  value_there (waits xs) p = (set_of xs (Wants (EndsIn S) (leaf_variables a)) (Wants (EndsIn S') (leaf_variables a)) wants_there wants_back p.0, (p.1.0, wants_there p.1.0 p.1.1))
  value_there bad p = (λ x w. p.0 x (wants_back x w), λ k n. p.1 k (number_there n ends_back))

pub value_looks : ValueLooksAtItsTerms
value_looks S S' a v p h = value_there S S' a h v p
