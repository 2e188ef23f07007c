-- A fault in a part of an expression is one of the expression.
use Rattle.ghc_reader.proofs.Words.{◌≡◌, ◌≢◌, ℕ, List, [], ◌∷◌, length, Option, Some, None, refl, sym, ap, ◌∙◌, subst, Sum, Product, Open, Close, Token, first, Begins, Operand, nested, Factors, factor, factors, Expression, summand, summands, operand, expression, EndsOperand, EndsProduct, EndsExpression, Fault}
use Rattle.ghc_reader.specs.declared.token.Token.TheVariants as token
use Rattle.ghc_reader.specs.Grammar.{named, product}
use Rattle.ghc_reader.proofs.Append.{some_variable, operand_append, product_append, expression_append}
use Rattle.ghc_reader.proofs.Ends.{ends_expression, sum_ends}
use Rattle.ghc_reader.proofs.OneExpression.{one_operand, one_product, one_expression, BeginsNoOperand}
use Rattle.ghc_reader.proofs.Faults.{in_front, inside, here}

abbrev pub NoOperandAt : Option Token → Type 0
NoOperandAt None = Unit {0}
NoOperandAt (Some t) = BeginsNoOperand t

operand_at : (c : Operand) (r : List Token) → NoOperandAt (first (operand c r)) → ⊥
operand_at (nested x) r h = h refl
operand_at c r h = h

pub no_operand_here : (ts : List Token) → NoOperandAt (first ts) → Fault Operand operand EndsOperand ts (length ts)
no_operand_here ts h =
    here Operand operand EndsOperand (λ l. l) ts (λ a b. refl) (named some_variable) (token.Variable some_variable ∷ []) refl
    (λ us same d r q e. operand_at d r (subst NoOperandAt (sym same ∙ ap first e) h))

expression_of_operand : (d : Operand) (us r : List Token) → token.Mark Open ∷ us ≡ operand d r → (c : Expression) × (us ≡ expression c (token.Mark Close ∷ r))
expression_of_operand (nested x) us r e = (x, cc)
expression_of_operand d us r e = cc

pub expression_in_operand : (ts : List Token) (left : ℕ) → Fault Expression expression EndsExpression ts left → Fault Operand operand EndsOperand (token.Mark Open ∷ ts) left
expression_in_operand ts left f =
    inside (λ l. token.Mark Open ∷ l) f (λ a b. refl) expression_append (λ c. (nested c, token.Mark Close ∷ [], refl))
    (λ us same d r p e. let x = expression_of_operand d us r e in (x.0, token.Mark Close ∷ r, ends_expression Close x.0, x.1))

pub operand_close_missing : (x : Expression) (ts : List Token) → EndsExpression x (first ts) → ¬ Begins Close ts → Fault Operand operand EndsOperand (token.Mark Open ∷ expression x ts) (length ts)
operand_close_missing x ts p n =
    here Operand operand EndsOperand (λ l. token.Mark Open ∷ expression x l) ts (λ a b. ap (λ l. token.Mark Open ∷ l) (expression_append x a b)) (nested x) (token.Mark Close ∷ []) refl
    (λ us same d r q e.
    let y = expression_of_operand d (expression x us) r e in
    let s = one_expression x y.0 us (token.Mark Close ∷ r) (record { product = subst (λ o. (k : Product) → o ≢ Some (token.Product k)) (sym same) p.product; sum = subst (λ o. (k : Sum) → o ≢ Some (token.Sum k)) (sym same) p.sum }) (ends_expression Close y.0) y.1 in
    n (sym same ∙ ap first s.behind))

first_of_product : (d : Factors) (us r : List Token) → us ≡ product d r → (c : Operand) × (r' : List Token) × (us ≡ operand c r')
first_of_product (factor u) us r e = (u, r, e)
first_of_product (factors u o x) us r e = (u, token.Product o ∷ product x r, e)

pub first_in_product : (ts : List Token) (left : ℕ) → Fault Operand operand EndsOperand ts left → Fault Factors product EndsProduct ts left
first_in_product ts left f =
    inside (λ l. l) f (λ a b. refl) operand_append (λ c. (factor c, [], refl))
    (λ us same d r p e. let x = first_of_product d us r e in (x.0, x.1, tt, x.2))

-- one more factor at the end
abbrev pub also_factor : Factors → Product → Operand → Factors
also_factor (factor u) o v = factors u o (factor v)
also_factor (factors u k x) o v = factors u k (also_factor x o v)

pub product_also : (x : Factors) (o : Product) (v : Operand) (ts : List Token) → product (also_factor x o v) ts ≡ product x (token.Product o ∷ operand v ts)
product_also (factor u) o v ts = refl
product_also (factors u k x) o v ts = ap (λ l. operand u (token.Product k ∷ l)) (product_also x o v ts)

-- the factors after a first one
others_of_product : (u : Operand) (o : Product) (d : Factors) (us r : List Token) → EndsProduct d (first r)
    → operand u (token.Product o ∷ us) ≡ product d r → (y : Factors) × (r' : List Token) × EndsProduct y (first r') × (us ≡ product y r')
others_of_product u o (factor v) us r p e = let s = one_operand u v (token.Product o ∷ us) r e in absurd (p o (sym (ap first s.behind)))
others_of_product u o (factors v k y) us r p e =
    let s = one_operand u v (token.Product o ∷ us) (token.Product k ∷ product y r) e in
    (y, r, p, cc)

behind_factor : (u : Operand) (o : Product) (ts : List Token) (left : ℕ) → Fault Factors product EndsProduct ts left
    → Fault Factors product EndsProduct (operand u (token.Product o ∷ ts)) left
behind_factor u o ts left f =
    inside (λ l. operand u (token.Product o ∷ l)) f (λ a b. operand_append u (token.Product o ∷ a) b) product_append (λ c. (factors u o c, [], refl))
    (λ us same d r p e. others_of_product u o d us r p e)

pub next_in_product : (x : Factors) (o : Product) (ts : List Token) (left : ℕ) → Fault Operand operand EndsOperand ts left → Fault Factors product EndsProduct (product x (token.Product o ∷ ts)) left
next_in_product (factor u) o ts left f = behind_factor u o ts left (first_in_product ts left f)
next_in_product (factors u k x) o ts left f = behind_factor u k (product x (token.Product o ∷ ts)) left (next_in_product x o ts left f)

first_of_expression : (d : Expression) (us r : List Token) → EndsExpression d (first r) → us ≡ expression d r → (c : Factors) × (r' : List Token) × EndsProduct c (first r') × (us ≡ product c r')
first_of_expression (summand x) us r p e = (x, r, p.product, e)
first_of_expression (summands x o c) us r p e = (x, token.Sum o ∷ expression c r, sum_ends o x, e)

pub first_in_expression : (ts : List Token) (left : ℕ) → Fault Factors product EndsProduct ts left → Fault Expression expression EndsExpression ts left
first_in_expression ts left f =
    in_front f product_append (λ c. (summand c, [], refl)) first_of_expression

abbrev pub also_summand : Expression → Sum → Factors → Expression
also_summand (summand u) o v = summands u o (summand v)
also_summand (summands u k x) o v = summands u k (also_summand x o v)

pub expression_also : (x : Expression) (o : Sum) (v : Factors) (ts : List Token) → expression (also_summand x o v) ts ≡ expression x (token.Sum o ∷ product v ts)
expression_also (summand u) o v ts = refl
expression_also (summands u k x) o v ts = ap (λ l. product u (token.Sum k ∷ l)) (expression_also x o v ts)

-- the summands after a first one
others_of_expression : (u : Factors) (o : Sum) (d : Expression) (us r : List Token) → EndsExpression d (first r)
    → product u (token.Sum o ∷ us) ≡ expression d r → (y : Expression) × (r' : List Token) × EndsExpression y (first r') × (us ≡ expression y r')
others_of_expression u o (summand v) us r p e =
    let s = one_product u v (token.Sum o ∷ us) r (sum_ends o u) p.product e in absurd (p.sum o (sym (ap first s.behind)))
others_of_expression u o (summands v k y) us r p e =
    let s = one_product u v (token.Sum o ∷ us) (token.Sum k ∷ expression y r) (sum_ends o u) (sum_ends k v) e in
    (y, r, record { product = p.product; sum = p.sum }, cc)

behind_summand : (u : Factors) (o : Sum) (ts : List Token) (left : ℕ) → Fault Expression expression EndsExpression ts left
    → Fault Expression expression EndsExpression (product u (token.Sum o ∷ ts)) left
behind_summand u o ts left f =
    inside (λ l. product u (token.Sum o ∷ l)) f (λ a b. product_append u (token.Sum o ∷ a) b) expression_append (λ c. (summands u o c, [], refl))
    (λ us same d r p e. others_of_expression u o d us r p e)

pub next_in_expression : (x : Expression) (o : Sum) (ts : List Token) (left : ℕ) → Fault Factors product EndsProduct ts left → Fault Expression expression EndsExpression (expression x (token.Sum o ∷ ts)) left
next_in_expression (summand u) o ts left f = behind_summand u o ts left (first_in_expression ts left f)
next_in_expression (summands u k x) o ts left f = behind_summand u k (expression x (token.Sum o ∷ ts)) left (next_in_expression x o ts left f)
