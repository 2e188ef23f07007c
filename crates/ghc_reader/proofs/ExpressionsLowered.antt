-- What expressions say, and which variables they meet.
use Rattle.ghc_reader.proofs.Words.{◌≡◌, ℕ, ◌+◌, ◌<◌, List, [], ◌∷◌, ◌++◌, length, map, take, get_or, refl, sym, ap, ◌∙◌, subst, Box, Global, Vec, map_push, take_more, Operator, operation, variables_of_expression, SourceExpression, Sum, Product, Value, number, named, product, sum, products, sums, value_view, factor_views, summand_views, Names, SaysValue, product_operator, sum_operator, MeetsAll}
use Rattle.ghc_term.specs.Expression.{Expression}
use Rattle.ghc_reader.specs.declared.source.SourceExpression.TheViews as w
use Rattle.ghc_reader.proofs.Views.{view_products, view_sums}
use Rattle.ghc_reader.proofs.Scopes.{Grows, grows, met_also, called_still}

pub value_still : (v : Value) (a b : Names) (e : Expression) → Grows a b → SaysValue a v e → SaysValue b v e
value_still (number n) a b e g h = h
value_still (named v) a b e g h = (h.0, h.1, called_still a b v h.0 g h.2)
value_still (product o l r) a b e g h = (h.0, h.1, h.2, value_still l a b h.0 g h.3, value_still r a b h.1 g h.4)
value_still (sum o l r) a b e g h = (h.0, h.1, h.2, value_still l a b h.0 g h.3, value_still r a b h.1 g h.4)

pub products_push : (left : Value) (xs : List (Product × Value)) (x : Product × Value) → products left (xs ++ x ∷ []) ≡ product x.0 (products left xs) x.1
products_push left [] x = refl
products_push left (y ∷ xs) x = products_push (product y.0 left y.1) xs x

pub sums_push : (left : Value) (xs : List (Sum × Value)) (x : Sum × Value) → sums left (xs ++ x ∷ []) ≡ sum x.0 (sums left xs) x.1
sums_push left [] x = refl
sums_push left (y ∷ xs) x = sums_push (sum y.0 left y.1) xs x

-- a list that is mapped, one element further
pub mapped_more : {A B : Type 0} (f : A → B) (xs : List A) (i : ℕ) (x : A) → i < length xs → x ≡ get_or xs i x → map f (take (i + 1) xs) ≡ map f (take i xs) ++ f x ∷ []
mapped_more f xs i x less is = ap (map f) (take_more xs i x less ∙ ap (λ y. take i xs ++ y ∷ []) (sym is)) ∙ map_push f (take i xs) x

-- one factor more
pub product_more : (left : Value) (others : List (Product × SourceExpression)) (i : ℕ) (x : Product × SourceExpression) (a b : Names) (o : Operator) (l r e : Expression) → i < length others → x ≡ get_or others i x → o ≡ product_operator x.0 → e ≡ operation o l r → SaysValue a (products left (factor_views (take i others))) l → SaysValue b (value_view x.1) r → MeetsAll a (variables_of_expression r) b → SaysValue b (products left (factor_views (take (i + 1) others))) e
product_more left others i x a b o l r e less is op made h k met =
    let so_far = products left (factor_views (take i others)) in
    rw (mapped_more {B = Product × Value} (λ y. (y.0, value_view y.1)) others i x less is, products_push)
    (l, r, made ∙ ap (λ p. operation p l r) op, value_still so_far a b l (grows (variables_of_expression r) a b met) h, k)

-- one summand more
pub sum_more : (left : Value) (others : List (Sum × SourceExpression)) (i : ℕ) (x : Sum × SourceExpression) (a b : Names) (o : Operator) (l r e : Expression) → i < length others → x ≡ get_or others i x → o ≡ sum_operator x.0 → e ≡ operation o l r → SaysValue a (sums left (summand_views (take i others))) l → SaysValue b (value_view x.1) r → MeetsAll a (variables_of_expression r) b → SaysValue b (sums left (summand_views (take (i + 1) others))) e
sum_more left others i x a b o l r e less is op made h k met =
    let so_far = sums left (summand_views (take i others)) in
    rw (mapped_more {B = Sum × Value} (λ y. (y.0, value_view y.1)) others i x less is, sums_push)
    (l, r, made ∙ ap (λ p. operation p l r) op, value_still so_far a b l (grows (variables_of_expression r) a b met) h, k)

-- an operation meets what its sides meet
pub operation_meets : (names a b : Names) (o : Operator) (l r e : Expression) → e ≡ operation o l r → MeetsAll names (variables_of_expression l) a → MeetsAll a (variables_of_expression r) b → MeetsAll names (variables_of_expression e) b
operation_meets names a b o l r e made m n = subst (λ x. MeetsAll names (variables_of_expression x) b) (sym made) (met_also (variables_of_expression l) (variables_of_expression r) names a b m n)

-- a product in its parts
pub products_say : (t : SourceExpression) (first : Box SourceExpression Global) (others : Vec (Product × SourceExpression) Global) (f : SourceExpression) (items : List (Product × SourceExpression)) (names : Names) (e : Expression) → t ≡ w.Products first others → f ≡ first.value → items ≡ others.items → SaysValue names (products (value_view f) (factor_views items)) e → SaysValue names (value_view t) e
products_say t first others f items names e is is_first is_items h = rw (is, view_products first others, ← is_first, ← is_items) h

-- a sum in its parts
pub sums_say : (t : SourceExpression) (first : Box SourceExpression Global) (others : Vec (Sum × SourceExpression) Global) (f : SourceExpression) (items : List (Sum × SourceExpression)) (names : Names) (e : Expression) → t ≡ w.Sums first others → f ≡ first.value → items ≡ others.items → SaysValue names (sums (value_view f) (summand_views items)) e → SaysValue names (value_view t) e
sums_say t first others f items names e is is_first is_items h = rw (is, view_sums first others, ← is_first, ← is_items) h
