-- The values of expressions.
use Rattle.std.specs.Prelude.{◌≡◌, ◌≢◌, ℤ, pos, ◌+ℤ◌, ◌-ℤ◌, ◌*ℤ◌, int_div, int_rem, FitsSigned, List, Option}
use Rattle.std.specs.Int.{w64}
use Rattle.ghc_term.specs.declared.var_name.VarName.{VarName}
use Rattle.ghc_term.specs.declared.operator.Operator.{Operator}
use Rattle.ghc_term.specs.declared.operator.Operator.TheVariants.{Add, Subtract, Multiply, Divide, Modulo}
use Rattle.ghc_term.specs.Tree.{Tree, variable, integer}
use Rattle.ghc_term.specs.Lists.{In}
use Rattle.ghc_term.specs.Expression.{Expression, leaf, operation}
use Rattle.ghc_flat.specs.Variables.{leaf_variables}
use Rattle.ghc_term.specs.Sets.{Variables, IsSetOf}
use Rattle.ghc_match.specs.Position.{EndsIn}

-- The operator makes z of x and y: the unbounded result (a quotient goes towards zero, a remainder has the dividend's sign), if it fits 64 bits and the divisor is not 0.
abbrev pub Computes : Operator → ℤ → ℤ → ℤ → Type 0
Computes Add x y z = (z ≡ (x +ℤ y)) × FitsSigned w64 z
Computes Subtract x y z = (z ≡ (x -ℤ y)) × FitsSigned w64 z
Computes Multiply x y z = (z ≡ (x *ℤ y)) × FitsSigned w64 z
Computes Divide x y z = (y ≢ pos 0) × (z ≡ int_div x y) × FitsSigned w64 z
Computes Modulo x y z = (y ≢ pos 0) × (z ≡ int_rem x y) × FitsSigned w64 z

-- Number E a k: the expression a has the value k, where E says in which tree each variable ends. A leaf that is no integer has none.
pub data Number (E : VarName → Tree → Type 0) : Expression → ℤ → Type 0 where
  of_integer : {k : ℤ} → Number E (leaf (integer k)) k
  of_variable : {x : VarName} {k : ℤ} → E x (integer k) → Number E (leaf (variable x)) k
  computed : {o : Operator} {a b : Expression} {x y z : ℤ} → Number E a x → Number E b y → Computes o x y z → Number E (operation o a b) z

-- One of the variables ys ends in the unbound variable x, where E says in which tree each ends.
abbrev pub Wants : (VarName → Tree → Type 0) → List VarName → VarName → Type 0
Wants E ys x = (y : VarName) × In y ys × E y (variable x)

-- The value of an expression is an integer, or it waits for a set of variables, or there is none.
pub data Value : Type 0 where
  number : ℤ → Value
  waits : Variables → Value
  bad : Value

-- In the store S the expression a has the value v; it waits for the unbound variables at which its variables end, if there are any.
abbrev pub HasValue : (VarName → Option Tree) → Expression → Value → Type 0
HasValue S a (number k) = Number (EndsIn S) a k
HasValue S a (waits xs) = IsSetOf xs (Wants (EndsIn S) (leaf_variables a)) × ((x : VarName) × Wants (EndsIn S) (leaf_variables a) x)
HasValue S a bad = ((x : VarName) → ¬ Wants (EndsIn S) (leaf_variables a) x) × ((k : ℤ) → ¬ Number (EndsIn S) a k)
