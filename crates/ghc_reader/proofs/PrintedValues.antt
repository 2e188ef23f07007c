-- Expressions as they are printed, each operand that has an operator in brackets: their derivations, tokens and texts.
use Rattle.ghc_reader.proofs.Words.{◌≡◌, ℕ, true, false, List, ◌∷◌, ◌++◌, refl, sym, ap, ◌∙◌, append_assoc, FitsSigned, w64, codes, VarName, variable_text, leaf, operation, operator_text, expression_text, Piece, Close, Sum, Plus, Minus, Product, Times, Divide, Modulo, Token, Operand, factor, factors, Expression, summand, summands, Value, number, named, product, sum, operand_of, value_of, SaysValueBy, product_operator, sum_operator, IsWritableExpression, arith, Operator}
use Rattle.ghc_term.specs.declared.operator.Operator.TheVariants as operator
use Rattle.ghc_term.specs.Tree as term
use Rattle.ghc_term.specs.Expression as shown
use Rattle.ghc_term.specs.GoalText as goal_text
use Rattle.ghc_reader.specs.declared.token.Token.TheVariants as token
use Rattle.ghc_reader.specs.Grammar as grammar
use Rattle.ghc_reader.proofs.TokenTexts.{text_of, AreSpaced}

-- ---- the derivation

abbrev pub derive_operand : Value → Operand
derive_operand (number n) = grammar.number n
derive_operand (named v) = grammar.named v
derive_operand (product o a b) = grammar.nested (summand (factors (derive_operand a) o (factor (derive_operand b))))
derive_operand (sum o a b) = grammar.nested (summands (factor (derive_operand a)) o (summand (factor (derive_operand b))))

abbrev pub derive_value : Value → Expression
derive_value (number n) = summand (factor (grammar.number n))
derive_value (named v) = summand (factor (grammar.named v))
derive_value (product o a b) = summand (factors (derive_operand a) o (factor (derive_operand b)))
derive_value (sum o a b) = summands (factor (derive_operand a)) o (summand (factor (derive_operand b)))

operand_back : (s : Value) → operand_of (derive_operand s) ≡ s
operand_back (product o a b) = λ i. product o (operand_back a i) (operand_back b i)
operand_back (sum o a b) = λ i. sum o (operand_back a i) (operand_back b i)
operand_back s = refl

pub value_back : (s : Value) → value_of (derive_value s) ≡ s
value_back (product o a b) = λ i. product o (operand_back a i) (operand_back b i)
value_back (sum o a b) = λ i. sum o (operand_back a i) (operand_back b i)
value_back s = refl

-- ---- its tokens are spaced

module _ (W : List ℕ → Type 0) where
  -- W holds of the variables of the expression, and its integers have 64 bits
  abbrev pub IsSoundValue : Value → Type 0
  IsSoundValue (number n) = FitsSigned w64 n
  IsSoundValue (named v) = W v
  IsSoundValue (product o a b) = IsSoundValue a × IsSoundValue b
  IsSoundValue (sum o a b) = IsSoundValue a × IsSoundValue b

  spaced_operand : (s : Value) (ts : List Token) → IsSoundValue s → AreSpaced W false ts → AreSpaced W true (grammar.operand (derive_operand s) ts)
  spaced_operand (product o a b) ts s behind =
      (tt, spaced_operand a (token.Product o ∷ grammar.operand (derive_operand b) (token.Mark Close ∷ ts)) s.0 (tt, spaced_operand b (token.Mark Close ∷ ts) s.1 (tt, behind)))
  spaced_operand (sum o a b) ts s behind =
      (tt, spaced_operand a (token.Sum o ∷ grammar.operand (derive_operand b) (token.Mark Close ∷ ts)) s.0 (tt, spaced_operand b (token.Mark Close ∷ ts) s.1 (tt, behind)))
  spaced_operand v ts s behind = ((refl, s), behind)

  pub spaced_value : (s : Value) (ts : List Token) → IsSoundValue s → AreSpaced W false ts → AreSpaced W true (grammar.expression (derive_value s) ts)
  spaced_value (product o a b) ts s behind = spaced_operand a (token.Product o ∷ grammar.operand (derive_operand b) ts) s.0 (tt, spaced_operand b ts s.1 behind)
  spaced_value (sum o a b) ts s behind = spaced_operand a (token.Sum o ∷ grammar.operand (derive_operand b) ts) s.0 (tt, spaced_operand b ts s.1 behind)
  spaced_value v ts s behind = ((refl, s), behind)

-- ---- its text is what is printed

module _ (C : List ℕ → VarName → Type 0) (called : (v : List ℕ) (x : VarName) → C v x → v ≡ variable_text x) (ps : List Piece) where
  abbrev text : List Token → List ℕ
  text ts = text_of ts ps

  -- the text of an operand
  abbrev printed_operand : shown.Expression → List ℕ
  printed_operand e = goal_text.operand e (expression_text e)

  abbrev IsOperandText : Value → shown.Expression → Type 0
  IsOperandText s e = (ts : List Token) → text (grammar.operand (derive_operand s) ts) ≡ printed_operand e ++ text ts

  abbrev IsValueText : Value → shown.Expression → Type 0
  IsValueText s e = (ts : List Token) → text (grammar.expression (derive_value s) ts) ≡ expression_text e ++ text ts

  joined : (a b c d : List ℕ) → a ++ (b ++ (c ++ d)) ≡ (a ++ (b ++ c)) ++ d
  joined a b c d = ap (λ l. a ++ l) (sym (append_assoc b c d)) ∙ sym (append_assoc a (b ++ c) d)

  product_mark : (o : Product) (ts : List Token) → text (token.Product o ∷ ts) ≡ operator_text (product_operator o) ++ text ts
  product_mark o ts = grind arith

  sum_mark : (o : Sum) (ts : List Token) → text (token.Sum o ∷ ts) ≡ operator_text (sum_operator o) ++ text ts
  sum_mark o ts = grind arith

  -- an operation, of which the mark has the operator's text
  operation_text : (mark : Token) (o : Operator) (a b : Value) (l r : shown.Expression) → ((ts : List Token) → text (mark ∷ ts) ≡ operator_text o ++ text ts)
      → IsOperandText a l → IsOperandText b r → (ts : List Token)
      → text (grammar.operand (derive_operand a) (mark ∷ grammar.operand (derive_operand b) ts)) ≡ expression_text (operation o l r) ++ text ts
  operation_text mark o a b l r marked left right ts =
      left (mark ∷ grammar.operand (derive_operand b) ts)
      ∙ ap (λ x. printed_operand l ++ x) (marked (grammar.operand (derive_operand b) ts) ∙ ap (λ x. operator_text o ++ x) (right ts))
      ∙ joined (printed_operand l) (operator_text o) (printed_operand r) (text ts)

  -- a text in brackets
  bracketed : (x more : List ℕ) (ts : List Token) → more ≡ x ++ text (token.Mark Close ∷ ts) → 40 ∷ more ≡ (codes "(" ++ (x ++ codes ")")) ++ text ts
  bracketed x more ts is = ap (λ l. 40 ∷ l) (is ∙ sym (append_assoc x (codes ")") (text ts)))

  operand_printed : (s : Value) (e : shown.Expression) → SaysValueBy C s e → IsOperandText s e
  operand_printed (number n) e says ts = ap (λ x. printed_operand x ++ text ts) (sym says)
  operand_printed (named v) e says ts = ap (λ l. l ++ text ts) (called v says.0 says.2 ∙ ap printed_operand (sym says.1))
  operand_printed (product o a b) e says ts =
      bracketed (expression_text (operation (product_operator o) says.0 says.1)) _ ts
      (operation_text (token.Product o) (product_operator o) a b says.0 says.1 (product_mark o)
      (operand_printed a says.0 says.3) (operand_printed b says.1 says.4) (token.Mark Close ∷ ts))
      ∙ ap (λ x. printed_operand x ++ text ts) (sym says.2)
  operand_printed (sum o a b) e says ts =
      bracketed (expression_text (operation (sum_operator o) says.0 says.1)) _ ts
      (operation_text (token.Sum o) (sum_operator o) a b says.0 says.1 (sum_mark o)
      (operand_printed a says.0 says.3) (operand_printed b says.1 says.4) (token.Mark Close ∷ ts))
      ∙ ap (λ x. printed_operand x ++ text ts) (sym says.2)

  pub value_printed : (s : Value) (e : shown.Expression) → SaysValueBy C s e → IsValueText s e
  value_printed (number n) e says ts = ap (λ x. expression_text x ++ text ts) (sym says)
  value_printed (named v) e says ts = ap (λ l. l ++ text ts) (called v says.0 says.2 ∙ ap expression_text (sym says.1))
  value_printed (product o a b) e says ts =
      operation_text (token.Product o) (product_operator o) a b says.0 says.1 (product_mark o)
      (operand_printed a says.0 says.3) (operand_printed b says.1 says.4) ts
      ∙ ap (λ x. expression_text x ++ text ts) (sym says.2)
  value_printed (sum o a b) e says ts =
      operation_text (token.Sum o) (sum_operator o) a b says.0 says.1 (sum_mark o) (operand_printed a says.0 says.3) (operand_printed b says.1 says.4) ts
      ∙ ap (λ x. expression_text x ++ text ts) (sym says.2)

-- ---- each expression that the grammar has a text for is said

pub record IsMeantValue (C : List ℕ → VarName → Type 0) (W : List ℕ → Type 0) (e : shown.Expression) : Type 0 where
  pub seen : Value
  pub sound : IsSoundValue W seen
  pub says : SaysValueBy C seen e

module _ (V : VarName → Type 0) (C : List ℕ → VarName → Type 0) (W : List ℕ → Type 0) (call : (x : VarName) → V x → (v : List ℕ) × C v x × W v) where
  sum_meant : (o : Sum) (l r : shown.Expression) → IsMeantValue C W l → IsMeantValue C W r → IsMeantValue C W (operation (sum_operator o) l r)
  sum_meant o l r left right = record { seen = sum o left.seen right.seen; sound = (left.sound, right.sound); says = (l, r, refl, left.says, right.says) }

  product_meant : (o : Product) (l r : shown.Expression) → IsMeantValue C W l → IsMeantValue C W r → IsMeantValue C W (operation (product_operator o) l r)
  product_meant o l r left right = record { seen = product o left.seen right.seen; sound = (left.sound, right.sound); says = (l, r, refl, left.says, right.says) }

  pub value_meant : (e : shown.Expression) → IsWritableExpression V e → IsMeantValue C W e
  value_meant (leaf (term.variable x)) w = let name = call x w in record { seen = named name.0; sound = name.2; says = (x, refl, name.1) }
  value_meant (leaf (term.integer k)) w = record { seen = number k; sound = w; says = refl }
  value_meant (leaf (term.node f us)) w = absurd w
  value_meant (operation operator.Add l r) w = sum_meant Plus l r (value_meant l w.0) (value_meant r w.1)
  value_meant (operation operator.Subtract l r) w = sum_meant Minus l r (value_meant l w.0) (value_meant r w.1)
  value_meant (operation operator.Multiply l r) w = product_meant Times l r (value_meant l w.0) (value_meant r w.1)
  value_meant (operation operator.Divide l r) w = product_meant Divide l r (value_meant l w.0) (value_meant r w.1)
  value_meant (operation operator.Modulo l r) w = product_meant Modulo l r (value_meant l w.0) (value_meant r w.1)
