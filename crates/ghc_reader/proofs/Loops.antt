-- What the loops over terms and operands keep.
use Rattle.ghc_reader.proofs.Words.{◌≡◌, ◌≢◌, List, [], ◌∷◌, ◌++◌, map, Option, Some, refl, sym, ap, ◌∙◌, Sum, Product, Comma, Token, first, Term, Terms, one, more, Operand, Factors, factor, factors, Expression, summand, summands, term, terms, operand, expression, EndsTerm, EndsTerms, EndsOperand, EndsProduct, Found, tree_of, trees_of, operand_of, product_of, product_onto, value_of, sum_onto, map_push, SourceTerm, SourceExpression, Tree, Trees, none, some, Value, products, sums, view, views, value_view, factor_views, summand_views}
use Rattle.ghc_reader.specs.declared.token.Token.TheVariants as token
use Rattle.ghc_reader.specs.Grammar.{product}
use Rattle.ghc_reader.specs.Source as tree
use Rattle.ghc_reader.proofs.TermFaults.{also, terms_also}
use Rattle.ghc_reader.proofs.ExpressionsLowered.{products_push, sums_push}
use Rattle.ghc_reader.proofs.ExpressionFaults.{also_factor, product_also, also_summand, expression_also}

-- the last term is whole, and a comma may follow it
abbrev pub LastEnds : Terms → Option Token → Type 0
LastEnds (one t) o = EndsTerm t o
LastEnds (more t x) o = LastEnds x o

-- the terms read so far
pub record TermsSoFar (ts : List Token) (seen : Trees) (behind : List Token) : Type 0 where
  pub so_far : Terms
  pub spelled : ts ≡ terms so_far behind
  pub sees : trees_of so_far ≡ seen
  pub stops : LastEnds so_far (first behind)

pub ends_at_last : (x : Terms) (o : Option Token) → LastEnds x o → o ≢ Some (token.Mark Comma) → EndsTerms x o
ends_at_last (one t) o h n = (h, n)
ends_at_last (more t x) o h n = ends_at_last x o h n

last_also : (x : Terms) (u : Term) (o : Option Token) → EndsTerm u o → LastEnds (also x u) o
last_also (one t) u o h = h
last_also (more t x) u o h = last_also x u o h

-- one more tree at the end
abbrev pub with_last : Trees → Tree → Trees
with_last none u = some u none
with_last (some t ts) u = some t (with_last ts u)

trees_also : (x : Terms) (u : Term) → trees_of (also x u) ≡ with_last (trees_of x) (tree_of u)
trees_also (one t) u = refl
trees_also (more t x) u = ap (λ l. some (tree_of t) l) (trees_also x u)

trees_push : (ts : List Tree) (u : Tree) → tree.trees_of (ts ++ u ∷ []) ≡ with_last (tree.trees_of ts) u
trees_push [] u = refl
trees_push (t ∷ ts) u = ap (λ l. some t l) (trees_push ts u)

views_push : (ts : List SourceTerm) (u : SourceTerm) → views (ts ++ u ∷ []) ≡ with_last (views ts) (view u)
views_push ts u = ap tree.trees_of (map_push view ts u) ∙ trees_push (map view ts) (view u)

pub terms_one : (ts behind : List Token) (a : List SourceTerm) (u : SourceTerm) → a ≡ u ∷ [] → Found Term Tree term tree_of EndsTerm ts (view u) behind → TermsSoFar ts (views a) behind
terms_one ts behind a u e x = record {
  so_far = one x.derivation;
  spelled = x.spelled;
  sees = ap (λ t. some t none) x.sees ∙ sym (ap views e);
  stops = x.stops;
}

pub terms_more : (ts comma inside behind : List Token) (a b : List SourceTerm) (u : SourceTerm) → TermsSoFar ts (views a) comma → comma ≡ token.Mark Comma ∷ inside → b ≡ a ++ u ∷ [] → Found Term Tree term tree_of EndsTerm inside (view u) behind → TermsSoFar ts (views b) behind
terms_more ts comma inside behind a b u x e f y = record {
  so_far = also x.so_far y.derivation;
  spelled = x.spelled ∙ ap (terms x.so_far) (e ∙ ap (λ l. token.Mark Comma ∷ l) y.spelled) ∙ sym (terms_also x.so_far y.derivation behind);
  sees = trees_also x.so_far y.derivation ∙ ap (λ t. with_last (trees_of x.so_far) t) y.sees ∙ ap (λ t. with_last t (view u)) x.sees ∙ sym (ap views f ∙ views_push a u);
  stops = last_also x.so_far y.derivation (first behind) y.stops;
}

-- the factors read so far
pub record FactorsSoFar (ts : List Token) (seen : Value) (behind : List Token) : Type 0 where
  pub so_far : Factors
  pub spelled : ts ≡ product so_far behind
  pub sees : product_of so_far ≡ seen

-- the summands read so far
pub record ExpressionSoFar (ts : List Token) (seen : Value) (behind : List Token) : Type 0 where
  pub so_far : Expression
  pub spelled : ts ≡ expression so_far behind
  pub sees : value_of so_far ≡ seen
  pub product : (k : Product) → first behind ≢ Some (token.Product k)

product_onto_also : (left : Value) (k o : Product) (x : Factors) (u : Operand) → product_onto left k (also_factor x o u) ≡ tree.product o (product_onto left k x) (operand_of u)
product_onto_also left k o (factor v) u = refl
product_onto_also left k o (factors v j x) u = product_onto_also (tree.product k left (operand_of v)) j o x u

product_also_of : (x : Factors) (o : Product) (u : Operand) → product_of (also_factor x o u) ≡ tree.product o (product_of x) (operand_of u)
product_also_of (factor v) o u = refl
product_also_of (factors v j x) o u = product_onto_also (operand_of v) j o x u

sum_onto_also : (left : Value) (k o : Sum) (x : Expression) (u : Factors) → sum_onto left k (also_summand x o u) ≡ tree.sum o (sum_onto left k x) (product_of u)
sum_onto_also left k o (summand v) u = refl
sum_onto_also left k o (summands v j x) u = sum_onto_also (tree.sum k left (product_of v)) j o x u

sum_also_of : (x : Expression) (o : Sum) (u : Factors) → value_of (also_summand x o u) ≡ tree.sum o (value_of x) (product_of u)
sum_also_of (summand v) o u = refl
sum_also_of (summands v j x) o u = sum_onto_also (product_of v) j o x u

factors_push : (left : Value) (a b : List (Product × SourceExpression)) (o : Product) (u : SourceExpression) → b ≡ a ++ (o, u) ∷ [] → products left (factor_views b) ≡ tree.product o (products left (factor_views a)) (value_view u)
factors_push left a b o u e =
    ap (λ l. products left (factor_views l)) e ∙ ap (products left) (map_push (λ x. (x.0, value_view x.1)) a (o, u)) ∙ products_push left (factor_views a) (o, value_view u)

summands_push : (left : Value) (a b : List (Sum × SourceExpression)) (o : Sum) (u : SourceExpression) → b ≡ a ++ (o, u) ∷ [] → sums left (summand_views b) ≡ tree.sum o (sums left (summand_views a)) (value_view u)
summands_push left a b o u e =
    ap (λ l. sums left (summand_views l)) e ∙ ap (sums left) (map_push (λ x. (x.0, value_view x.1)) a (o, u)) ∙ sums_push left (summand_views a) (o, value_view u)

pub factors_one : (ts behind : List Token) (a : Value) (others : List (Product × SourceExpression)) → others ≡ [] → Found Operand Value operand operand_of EndsOperand ts a behind → FactorsSoFar ts (products a (factor_views others)) behind
factors_one ts behind a others e x = record {
  so_far = factor x.derivation;
  spelled = x.spelled;
  sees = x.sees ∙ sym (ap (λ l. products a (factor_views l)) e);
}

pub factors_more : (ts middle inside behind : List Token) (left : Value) (a b : List (Product × SourceExpression)) (o : Product) (u : SourceExpression) → FactorsSoFar ts (products left (factor_views a)) middle → middle ≡ token.Product o ∷ inside → Found Operand Value operand operand_of EndsOperand inside (value_view u) behind → b ≡ a ++ (o, u) ∷ [] → FactorsSoFar ts (products left (factor_views b)) behind
factors_more ts middle inside behind left a b o u x e y f = record {
  so_far = also_factor x.so_far o y.derivation;
  spelled = x.spelled ∙ ap (product x.so_far) (e ∙ ap (λ l. token.Product o ∷ l) y.spelled) ∙ sym (product_also x.so_far o y.derivation behind);
  sees = product_also_of x.so_far o y.derivation ∙ ap (λ l. tree.product o l (operand_of y.derivation)) x.sees ∙ ap (tree.product o (products left (factor_views a))) y.sees ∙ sym (factors_push left a b o u f);
}

pub expression_one : (ts behind : List Token) (a : Value) (others : List (Sum × SourceExpression)) → others ≡ [] → Found Factors Value product product_of EndsProduct ts a behind → ExpressionSoFar ts (sums a (summand_views others)) behind
expression_one ts behind a others e x = record {
  so_far = summand x.derivation;
  spelled = x.spelled;
  sees = x.sees ∙ sym (ap (λ l. sums a (summand_views l)) e);
  product = x.stops;
}

pub expression_more : (ts middle inside behind : List Token) (left : Value) (a b : List (Sum × SourceExpression)) (o : Sum) (u : SourceExpression) → ExpressionSoFar ts (sums left (summand_views a)) middle → middle ≡ token.Sum o ∷ inside → Found Factors Value product product_of EndsProduct inside (value_view u) behind → b ≡ a ++ (o, u) ∷ [] → ExpressionSoFar ts (sums left (summand_views b)) behind
expression_more ts middle inside behind left a b o u x e y f = record {
  so_far = also_summand x.so_far o y.derivation;
  spelled = x.spelled ∙ ap (expression x.so_far) (e ∙ ap (λ l. token.Sum o ∷ l) y.spelled) ∙ sym (expression_also x.so_far o y.derivation behind);
  sees = sum_also_of x.so_far o y.derivation ∙ ap (λ l. tree.sum o l (product_of y.derivation)) x.sees ∙ ap (tree.sum o (sums left (summand_views a))) y.sees ∙ sym (summands_push left a b o u f);
  product = y.stops;
}
