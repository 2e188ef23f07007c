-- The derivation of an expression, from those of its parts, and the faults after them.
use Rattle.ghc_reader.proofs.Words.{◌≡◌, ◌≢◌, ℕ, ℤ, List, ◌∷◌, length, Some, sym, ap, ◌∙◌, subst, Sum, Product, Mark, Open, Close, Token, first, Begins, Operand, nested, Factors, Expression, operand, expression, EndsOperand, EndsProduct, EndsExpression, Found, Fault, operand_of, product_of, value_of, Value, value_view}
use Rattle.ghc_reader.specs.declared.token.Token.TheVariants as token
use Rattle.ghc_reader.specs.Grammar.{number, named, product}
use Rattle.ghc_reader.specs.declared.source.SourceExpression.TheVariants as ev
use Rattle.ghc_reader.proofs.Views.{view_named, view_number}
use Rattle.ghc_reader.proofs.OneExpression.{BeginsNoOperand}
use Rattle.ghc_reader.proofs.Loops.{FactorsSoFar, ExpressionSoFar}
use Rattle.ghc_reader.proofs.ExpressionFaults as faults

abbrev pub OperandFound : List Token → Value → List Token → Type 0
OperandFound = Found Operand Value operand operand_of EndsOperand

abbrev pub FactorsFound : List Token → Value → List Token → Type 0
FactorsFound = Found Factors Value product product_of EndsProduct

abbrev pub ExpressionFound : List Token → Value → List Token → Type 0
ExpressionFound = Found Expression Value expression value_of EndsExpression

abbrev pub OperandFault : List Token → ℕ → Type 0
OperandFault = Fault Operand operand EndsOperand

pub found_named : (ts behind : List Token) (n : List ℕ) → ts ≡ token.Variable n ∷ behind → OperandFound ts (value_view (ev.Variable n)) behind
found_named ts behind n e = record { derivation = named n; spelled = e; sees = sym (view_named n); stops = tt }

pub found_number : (ts behind : List Token) (n : ℤ) → ts ≡ token.Integer n ∷ behind → OperandFound ts (value_view (ev.Integer n)) behind
found_number ts behind n e = record { derivation = number n; spelled = e; sees = sym (view_number n); stops = tt }

pub found_nested : (ts inside behind after : List Token) (a : Value) → ts ≡ token.Mark Open ∷ inside → ExpressionFound inside a behind → behind ≡ token.Mark Close ∷ after → OperandFound ts a after
found_nested ts inside behind after a e x f = record {
  derivation = nested x.derivation;
  spelled = e ∙ ap (λ l. token.Mark Open ∷ l) (x.spelled ∙ ap (expression x.derivation) f);
  sees = x.sees;
  stops = tt;
}

pub at_operand_close : (ts inside behind : List Token) (a : Value) → ts ≡ token.Mark Open ∷ inside → ExpressionFound inside a behind → ¬ Begins Close behind → OperandFault ts (length behind)
at_operand_close ts inside behind a e x n = rw (e, x.spelled) (faults.operand_close_missing x.derivation behind x.stops n)

pub at_no_operand : (ts behind : List Token) (t : Token) → BeginsNoOperand t → ts ≡ t ∷ behind → OperandFault ts (length ts)
at_no_operand ts behind t h e = faults.no_operand_here ts (subst (λ l. faults.NoOperandAt (first l)) (sym e) h)

pub at_no_operand_mark : (ts behind : List Token) (m : Mark) → ts ≡ token.Mark m ∷ behind → ¬ Begins Open ts → OperandFault ts (length ts)
at_no_operand_mark ts behind m e n = at_no_operand ts behind (token.Mark m) (λ same. n (ap first e ∙ ap (λ k. Some (token.Mark k)) same)) e

pub found_factors : (ts behind : List Token) (a b : Value) → FactorsSoFar ts a behind → ((k : Product) → first behind ≢ Some (token.Product k)) → b ≡ a → FactorsFound ts b behind
found_factors ts behind a b x n e = record { derivation = x.so_far; spelled = x.spelled; sees = x.sees ∙ sym e; stops = n }

pub found_expression : (ts behind : List Token) (a b : Value) → ExpressionSoFar ts a behind → ((k : Sum) → first behind ≢ Some (token.Sum k)) → b ≡ a → ExpressionFound ts b behind
found_expression ts behind a b x n e = record { derivation = x.so_far; spelled = x.spelled; sees = x.sees ∙ sym e; stops = record { product = x.product; sum = n } }
