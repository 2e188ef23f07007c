-- What an expression is worth, and what is still to be done to find it.
use Rattle.std.specs.Prelude.{◌≡◌, ◌↔◌, ℕ, ◌+◌, ℤ, Bool, true, false, List, [], ◌∷◌, reverse, Option, Some, None}
use Rattle.ghc_term.specs.declared.var_name.VarName.{VarName}
use Rattle.ghc_term.specs.declared.operator.Operator.{Operator}
use Rattle.ghc_term.specs.Tree.{Tree}
use Rattle.ghc_term.specs.Expression.{Expression, leaf, operation}
use Rattle.ghc_match.specs.Value.{Computes, Number}
use Rattle.ghc_match.specs.declared.number.Task.{Task}
use Rattle.ghc_match.specs.declared.number.Task.TheVariants.{Find, Apply}

-- The expression has this integer as its value, or none.
abbrev pub IsWorth : (VarName → Tree → Type 0) → Expression → Option ℤ → Type 0
IsWorth E a None = (k : ℤ) → ¬ Number E a k
IsWorth E a (Some k) = Number E a k

-- The operator makes this integer of the last two values of the list and leaves the others, or it makes none.
abbrev pub AppliesToLast : Operator → List ℤ → List ℤ → Option ℤ → Type 0
AppliesToLast o old new None = (x y z : ℤ) (rest : List ℤ) → reverse old ≡ y ∷ x ∷ rest → ¬ Computes o x y z
AppliesToLast o old new (Some z) = (x y : ℤ) × (reverse old ≡ y ∷ x ∷ reverse new) × Computes o x y z

-- The tasks, done in order on the values, the last of which comes first, end with the value k as the last.
abbrev pub Makes : (VarName → Tree → Type 0) → List Task → List ℤ → ℤ → Type 0
Makes E [] [] k = ⊥
Makes E [] (z ∷ zs) k = z ≡ k
Makes E (Find a ∷ tasks) zs k = (z : ℤ) × Number E a.now z × Makes E tasks (z ∷ zs) k
Makes E (Apply o ∷ tasks) [] k = ⊥
Makes E (Apply o ∷ tasks) (y ∷ []) k = ⊥
Makes E (Apply o ∷ tasks) (y ∷ x ∷ zs) k = (z : ℤ) × Computes o x y z × Makes E tasks (z ∷ zs) k

-- After the first of some tasks the others end as all of them did, or else none can come to an end.
abbrev pub GoesOn : (VarName → Tree → Type 0) → Task → List Task → List ℤ → List Task → List ℤ → Bool → Type 0
GoesOn E task tasks values after left true = (k : ℤ) → Makes E (task ∷ reverse tasks) (reverse values) k ↔ Makes E (reverse after) (reverse left) k
GoesOn E task tasks values after left false = (k : ℤ) → ¬ Makes E (task ∷ reverse tasks) (reverse values) k

-- how many steps an expression takes
abbrev pub steps_of : Expression → ℕ
steps_of (leaf _) = 1
steps_of (operation _ a b) = steps_of a + steps_of b + 2

-- how many steps tasks take
abbrev pub steps : List Task → ℕ
steps [] = 0
steps (Find a ∷ tasks) = steps_of a.now + steps tasks
steps (Apply _ ∷ tasks) = 1 + steps tasks
