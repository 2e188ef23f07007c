-- Tasks, one after another.
use Rattle.ghc_match.proofs.Words.{◌≡◌, ℤ, List, [], ◌∷◌, ◌++◌, sym, ap, ◌∙◌, subst, ◌↔◌, reverse, Option, Some, None, MatchOption, Bor, reverse-append, VarName, Operator, Tree, Expression, operation, Computes, Number, computed, Makes, IsWorth, Task, Find, Apply}
use Rattle.ghc_match.proofs.Values.{number_once, sides}

module _ {E : VarName → Tree → Type 0} (once : (x : VarName) (e f : Tree) → E x e → E x f → e ≡ f) where
  -- a leaf's value is found
  pub leaf_found : (a : Expression) (z : ℤ) (tasks : List Task) (old new : List ℤ) (b : Bor Expression) → b.now ≡ a → Number E a z → new ≡ old ++ z ∷ []
      → (k : ℤ) → Makes E (Find b ∷ tasks) (reverse old) k ↔ Makes E tasks (reverse new) k
  leaf_found a z tasks old new b is n e k = (
    λ m.
        let same : m.0 ≡ z = number_once once (subst (λ c. Number E c m.0) is m.1) n in
        subst (λ l. Makes E tasks l k) (sym (ap reverse e ∙ reverse-append old (z ∷ []))) (subst (λ y. Makes E tasks (y ∷ reverse old) k) same m.2),
    λ m. (z, subst (λ c. Number E c z) (sym is) n, subst (λ l. Makes E tasks l k) (ap reverse e ∙ reverse-append old (z ∷ [])) m),
  )

  -- an operation gives way to its sides and its operator
  pub operation_opened : (o : Operator) (l r b : Bor Expression) (tasks : List Task) (zs : List ℤ) → operation o l.now r.now ≡ b.now
      → (k : ℤ) → Makes E (Find b ∷ tasks) zs k ↔ Makes E (Find l ∷ Find r ∷ Apply o ∷ tasks) zs k
  operation_opened o l r b tasks zs is k = (
    λ m.
        let s = sides (subst (λ c. Number E c m.0) (sym is) m.1) in
        (s.0, s.2, (s.1, s.3, (m.0, s.4, m.2))),
    λ m. (m.2.2.0, subst (λ c. Number E c m.2.2.0) is (computed m.1 m.2.1 m.2.2.1), m.2.2.2),
  )

  -- what an operator makes of the values of two expressions is what the operation is worth
  pub operated : (o : Operator) (a b : Expression) (x y : ℤ) (r : Option ℤ) → Number E a x → Number E b y → MatchOption r ((z : ℤ) → ¬ Computes o x y z) (Computes o x y) → IsWorth E (operation o a b) r
  operated o a b x y None n m e = λ k q.
      let s = sides q in
      e k (subst (λ i. Computes o i y k) (number_once once s.2 n) (subst (λ i. Computes o s.0 i k) (number_once once s.3 m) s.4))
  operated o a b x y (Some z) n m e = computed n m e
