-- What ends a part.
use Rattle.ghc_reader.proofs.Words.{◌≢◌, [], Some, Comparison, Sum, Mark, Open, Comma, Bar, Equals, Define, Stop, Term, call, Arguments, Terms, one, more, Factors, Expression, Item, goal, unify, assign, Test, plain_test, compare, Tests, last_test, next_test, Body, last, next, EndsArguments, EndsTerm, EndsTerms, EndsProduct, EndsExpression, EndsItem, EndsTest, EndsTests, EndsBody, arith}
use Rattle.ghc_reader.specs.declared.token.Token.TheVariants as token

-- marks that go on with nothing
pub ends_term : (m : Mark) → m ≢ Open → (c : Term) → EndsTerm c (Some (token.Mark m))
ends_term m h c = grind arith

pub ends_terms : (m : Mark) → m ≢ Open → m ≢ Comma → (c : Terms) → EndsTerms c (Some (token.Mark m))
ends_terms m h k (one t) = (ends_term m h t, λ e. k (cc))
ends_terms m h k (more t x) = ends_terms m h k x

pub ends_expression : (m : Mark) → (c : Expression) → EndsExpression c (Some (token.Mark m))
ends_expression m c = record { product = λ k e. cc; sum = λ k e. cc }

pub ends_item : (m : Mark) → m ≢ Open → m ≢ Equals → (c : Item) → EndsItem c (Some (token.Mark m))
ends_item m h k (goal f a) = (ends_term m h (call f a), λ e. k (cc))
ends_item m h k (unify s t) = ends_term m h t
ends_item m h k (assign v e) = ends_expression m e

pub ends_test : (m : Mark) → m ≢ Open → m ≢ Equals → (c : Test) → EndsTest c (Some (token.Mark m))
ends_test m h k (plain_test i) = ends_item m h k i
ends_test m h k (compare a o b) = ends_expression m b

pub ends_tests : (m : Mark) → m ≢ Open → m ≢ Equals → m ≢ Comma → (c : Tests) → EndsTests c (Some (token.Mark m))
ends_tests m h k l (last_test t) = (ends_test m h k t, λ e. l (cc))
ends_tests m h k l (next_test t x) = ends_tests m h k l x

pub ends_body : (m : Mark) → m ≢ Open → m ≢ Equals → m ≢ Comma → (c : Body) → EndsBody c (Some (token.Mark m))
ends_body m h k l (last i) = (ends_item m h k i, λ e. l (cc))
ends_body m h k l (next i x) = ends_body m h k l x

pub sum_ends : (o : Sum) (c : Factors) → EndsProduct c (Some (token.Sum o))
sum_ends o c = λ k e. cc

pub comparison_ends : (o : Comparison) (c : Expression) → EndsExpression c (Some (token.Comparison o))
comparison_ends o c = record { product = λ k e. cc; sum = λ k e. cc }

pub stop_ends_tests : (c : Tests) → EndsTests c (Some (token.Mark Stop))
stop_ends_tests = ends_tests Stop (λ h. cc) (λ h. cc) (λ h. cc)

pub bar_ends_tests : (c : Tests) → EndsTests c (Some (token.Mark Bar))
bar_ends_tests = ends_tests Bar (λ h. cc) (λ h. cc) (λ h. cc)

pub stop_ends_body : (c : Body) → EndsBody c (Some (token.Mark Stop))
stop_ends_body = ends_body Stop (λ h. cc) (λ h. cc) (λ h. cc)

pub stop_ends_arguments : (c : Arguments) → EndsArguments c (Some (token.Mark Stop))
stop_ends_arguments c = ends_term Stop (λ h. cc) (call [] c)

pub define_ends_arguments : (c : Arguments) → EndsArguments c (Some (token.Mark Define))
define_ends_arguments c = ends_term Define (λ h. cc) (call [] c)
