-- No text has two derivations as an expression.
use Rattle.ghc_reader.proofs.Words.{◌≡◌, ◌≢◌, List, ◌∷◌, refl, sym, ap, subst, Sum, Product, Mark, Open, Close, Token, first, Operand, nested, Factors, factor, factors, Expression, summand, summands, operand, expression, EndsProduct, EndsExpression}
use Rattle.ghc_reader.specs.declared.token.Token.TheVariants as token
use Rattle.ghc_reader.specs.Grammar.{number, named, product}
use Rattle.ghc_reader.proofs.Ends.{ends_expression, sum_ends}
use Rattle.ghc_reader.proofs.OneTerm.{Same}

mutual
  pub one_operand : (c d : Operand) (a b : List Token) → operand c a ≡ operand d b → Same c d a b
  one_operand (number m) (number n) a b e = record { derivation = cc; behind = cc }
  one_operand (named v) (named w) a b e = record { derivation = cc; behind = cc }
  one_operand (nested x) (nested y) a b e =
      let s = one_expression x y (token.Mark Close ∷ a) (token.Mark Close ∷ b) (ends_expression Close x) (ends_expression Close y) (cc) in
      record { derivation = ap nested s.derivation; behind = cc }
  one_operand c d a b e = cc

  pub one_product : (c d : Factors) (a b : List Token) → EndsProduct c (first a) → EndsProduct d (first b) → product c a ≡ product d b → Same c d a b
  one_product (factor u) (factor v) a b p q e =
      let s = one_operand u v a b e in record { derivation = ap factor s.derivation; behind = s.behind }
  one_product (factor u) (factors v o y) a b p q e =
      let s = one_operand u v a (token.Product o ∷ product y b) e in absurd (p o (ap first s.behind))
  one_product (factors u o x) (factor v) a b p q e =
      let s = one_operand u v (token.Product o ∷ product x a) b e in absurd (q o (sym (ap first s.behind)))
  one_product (factors u o x) (factors v k y) a b p q e =
      let s = one_operand u v (token.Product o ∷ product x a) (token.Product k ∷ product y b) e in
      let s2 = one_product x y a b p q (cc) in
      record { derivation = cc; behind = s2.behind }

  pub one_expression : (c d : Expression) (a b : List Token) → EndsExpression c (first a) → EndsExpression d (first b) → expression c a ≡ expression d b → Same c d a b
  one_expression (summand x) (summand y) a b p q e =
      let s = one_product x y a b p.product q.product e in record { derivation = ap summand s.derivation; behind = s.behind }
  one_expression (summand x) (summands y o d) a b p q e =
      let s = one_product x y a (token.Sum o ∷ expression d b) p.product (sum_ends o y) e in absurd (p.sum o (ap first s.behind))
  one_expression (summands x o c) (summand y) a b p q e =
      let s = one_product x y (token.Sum o ∷ expression c a) b (sum_ends o x) q.product e in absurd (q.sum o (sym (ap first s.behind)))
  one_expression (summands x o c) (summands y k d) a b p q e =
      let s = one_product x y (token.Sum o ∷ expression c a) (token.Sum k ∷ expression d b) (sum_ends o x) (sum_ends k y) e in
      let s2 = one_expression c d a b (record { product = p.product; sum = p.sum }) (record { product = q.product; sum = q.sum }) (cc) in
      record { derivation = cc; behind = s2.behind }

-- an expression that begins with a variable or an integer, before what is no operator, is that alone
pub alone : (c : Expression) (a l : List Token) (t u : Token) → ((m : Mark) → t ≢ token.Mark m) → ((k : Product) → u ≢ token.Product k) → ((k : Sum) → u ≢ token.Sum k) → expression c a ≡ t ∷ u ∷ l → a ≡ u ∷ l
alone (summand (factor (number n))) a l t u h p q e = cc
alone (summand (factor (named v))) a l t u h p q e = cc
alone (summand (factor (nested x))) a l t u h p q e = absurd (h Open (cc))
alone (summand (factors (number n) o x)) a l t u h p q e = absurd (p o (cc))
alone (summand (factors (named v) o x)) a l t u h p q e = absurd (p o (cc))
alone (summand (factors (nested y) o x)) a l t u h p q e = absurd (h Open (cc))
alone (summands (factor (number n)) k c) a l t u h p q e = absurd (q k (cc))
alone (summands (factor (named v)) k c) a l t u h p q e = absurd (q k (cc))
alone (summands (factor (nested x)) k c) a l t u h p q e = absurd (h Open (cc))
alone (summands (factors (number n) o x) k c) a l t u h p q e = absurd (p o (cc))
alone (summands (factors (named v) o x) k c) a l t u h p q e = absurd (p o (cc))
alone (summands (factors (nested y) o x) k c) a l t u h p q e = absurd (h Open (cc))

-- a token that no expression begins with
abbrev pub BeginsNoOperand : Token → Type 0
BeginsNoOperand (token.Variable v) = ⊥
BeginsNoOperand (token.Integer n) = ⊥
BeginsNoOperand (token.Mark m) = m ≢ Open
BeginsNoOperand _ = Unit {0}

pub no_operand : (t : Token) (l : List Token) → BeginsNoOperand t → (u : Operand) (a : List Token) → operand u a ≡ t ∷ l → ⊥
no_operand t l h (number n) a e = let same : token.Integer n ≡ t = cc in subst BeginsNoOperand (sym same) h
no_operand t l h (named v) a e = let same : token.Variable v ≡ t = cc in subst BeginsNoOperand (sym same) h
no_operand t l h (nested x) a e = let same : token.Mark Open ≡ t = cc in subst BeginsNoOperand (sym same) h refl

pub no_product : (t : Token) (l : List Token) → BeginsNoOperand t → (c : Factors) (a : List Token) → product c a ≡ t ∷ l → ⊥
no_product t l h (factor u) a e = no_operand t l h u a e
no_product t l h (factors u o x) a e = no_operand t l h u (token.Product o ∷ product x a) e

pub no_expression : (t : Token) (l : List Token) → BeginsNoOperand t → (c : Expression) (a : List Token) → expression c a ≡ t ∷ l → ⊥
no_expression t l h (summand x) a e = no_product t l h x a e
no_expression t l h (summands x o c) a e = no_product t l h x (token.Sum o ∷ expression c a) e
