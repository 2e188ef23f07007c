-- Small expressions, asked one leaf after another.
use Rattle.ghc_match.proofs.Words.{◌≡◌, ◌≢◌, ℤ, List, ◌++◌, refl, ap, subst, inl, inr, ◌↔◌, Option, Some, None, MatchOption, VarName, TermView, Var, Int, Atom, Struct, Operator, Comparison, Tree, variable, integer, IsValue, shown, Expression, leaf, operation, Variables, in_left, in_right, in_either, Compare, leaf_variables, Number, of_variable, computed, Wants, HoldsBy, Gains, IsWorth, IsAsked, ComputesOf, ComparesOf, Worth}
use Rattle.ghc_match.proofs.Positions.{value_not}
use Rattle.ghc_match.proofs.Values.{number_once, sides, variable_is}
use Rattle.ghc_match.proofs.GainsLemmas.{OneHas}

-- a set that gains what the elements of one list have, and then what those of another have
pub gains_both : {X : Type 0} (R : X → VarName → Type 0) (old mid new : Variables) (xs ys : List X) → Gains old mid (OneHas R xs) → Gains mid new (OneHas R ys) → Gains old new (OneHas R (xs ++ ys))
gains_both R old mid new xs ys f g x = (
  λ c. elim ((g x).0 c) [
    | inl d ↦ elim ((f x).0 d) [ inl a ↦ inl a | inr w ↦ inr (w.0, in_left xs ys w.0 w.1, w.2) ]
    | inr w ↦ inr (w.0, in_right xs ys w.0 w.1, w.2)
  ],
  λ c. (g x).1 (elim c [
    | inl a ↦ inl ((f x).1 (inl a))
    | inr w ↦ elim (in_either xs ys w.0 w.1) [ inl i ↦ inl ((f x).1 (inr (w.0, i, w.2))) | inr i ↦ inr (w.0, i, w.2) ]
  ]),
)

-- where E gives each variable one end
module _ {E : VarName → Tree → Type 0} (once : (x : VarName) (e f : Tree) → E x e → E x f → e ≡ f) where
  -- neither list wants a variable
  pub wants_none : (xs ys : List VarName) → ((x : VarName) → ¬ Wants E xs x) → ((x : VarName) → ¬ Wants E ys x) → (x : VarName) → ¬ Wants E (xs ++ ys) x
  wants_none xs ys n m x w = elim (in_either xs ys w.0 w.1) [ inl i ↦ n x (w.0, i, w.2) | inr i ↦ m x (w.0, i, w.2) ]

  -- a variable that ends in a value waits for nothing
  not_unbound : (y : VarName) (e : Tree) → E y e → IsValue e → (x : VarName) → ¬ Wants E (leaf_variables (leaf (variable y))) x
  not_unbound y e p v x w = elim w.1 [
    | inl s ↦ value_not (once y e (variable x) p (subst (λ z. E z (variable x)) s w.2)) v
    | inr never ↦ absurd never
  ]

  pub ends_in_integer : (y : VarName) (k : ℤ) → E y (integer k) → IsAsked E (leaf (variable y)) (Worth (Some k))
  ends_in_integer y k p = (not_unbound y (integer k) p tt, of_variable p)

  pub ends_in_other : (y : VarName) (v : TermView) → ((x : VarName) → v ≢ Var x) → ((k : ℤ) → v ≢ Int k) → E y (shown v) → IsAsked E (leaf (variable y)) (Worth None)
  ends_in_other y (Var x) n m p = absurd (n x refl)
  ends_in_other y (Int k) n m p = absurd (m k refl)
  ends_in_other y (Atom f) n m p = (not_unbound y (shown (Atom f)) p tt, λ k q. let same : shown (Atom f) ≡ integer k = once y (shown (Atom f)) (integer k) p (variable_is q) in cc)
  ends_in_other y (Struct f ts) n m p = (not_unbound y (shown (Struct f ts)) p tt, λ k q. let same : shown (Struct f ts) ≡ integer k = once y (shown (Struct f ts)) (integer k) p (variable_is q) in cc)

  -- what an expression is worth is its value
  worth_is : (a : Expression) (x : Option ℤ) (j : ℤ) → IsWorth E a x → Number E a j → x ≡ Some j
  worth_is a None j w n = absurd (w j n)
  worth_is a (Some i) j w n = ap Some (number_once once w n)

  -- what an operator makes of what two expressions are worth is what the operation is worth
  pub operated_of : (o : Operator) (a b : Expression) (x y r : Option ℤ) → IsWorth E a x → IsWorth E b y → MatchOption r ((z : ℤ) → ¬ ComputesOf o x y z) (ComputesOf o x y) → IsWorth E (operation o a b) r
  operated_of o a b x y None u v h = λ k q. let s = sides q in h k (s.0, s.1, worth_is a x s.0 u s.2, worth_is b y s.1 v s.3, s.4)
  operated_of o a b x y (Some z) u v h = computed (subst (IsWorth E a) h.2 u) (subst (IsWorth E b) h.3 v) h.4

  -- a comparison holds between what its sides are worth
  pub compared_of : (c : Comparison) (a b : Expression) (x y : Option ℤ) → IsWorth E a x → IsWorth E b y → ComparesOf c x y ↔ HoldsBy E (Compare c a b)
  compared_of c a b x y u v = (
    λ h. (h.0, h.1, subst (IsWorth E a) h.2 u, subst (IsWorth E b) h.3 v, h.4),
    λ w. (w.0, w.1, worth_is a x w.0 u w.2, worth_is b y w.1 v w.3, w.4),
  )
