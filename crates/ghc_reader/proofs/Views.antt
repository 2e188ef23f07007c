-- What the trees of the variants are.

use Rattle.ghc_reader.proofs.Words.{◌≡◌, ℕ, ℤ, List, sym, ap, ◌∙◌, Box, Global, Vec, Sum, Product, SourceExpression, fold-roll-SourceExpression, SourceExpression-F, SourceTerm, fold-roll-SourceTerm, SourceTerm-F, Tree, Value, structure, empty, cells, number, named, products, sums, view_step, view, views, value_step, value_view, factor_views, summand_views}
use Rattle.ghc_reader.specs.declared.source.SourceExpression.TheVariants as ev
use Rattle.ghc_reader.specs.declared.source.SourceExpression.TheViews as ew
use Rattle.ghc_reader.specs.declared.source.SourceTerm.TheVariants as tv
use Rattle.ghc_reader.specs.declared.source.SourceTerm.TheViews as tw
use Rattle.ghc_reader.specs.Source.{variable, integer}

pub view_list : (a : Vec SourceTerm Global) (b : Box SourceTerm Global) → view (tw.List a b) ≡ cells (views a.items) (view b.value)
view_list a b = ap view (sym (tv.rolls-List a b)) ∙ fold-roll-SourceTerm Tree view_step (SourceTerm-F.List a b)

pub view_variable : (v : List ℕ) → view (tv.Variable v) ≡ variable v
view_variable v = ap view (sym (tv.rolls-Variable v)) ∙ fold-roll-SourceTerm Tree view_step (SourceTerm-F.Variable v)

pub view_integer : (n : ℤ) → view (tv.Integer n) ≡ integer n
view_integer n = ap view (sym (tv.rolls-Integer n)) ∙ fold-roll-SourceTerm Tree view_step (SourceTerm-F.Integer n)

pub view_empty : view tv.Empty ≡ empty
view_empty = ap view (sym tv.rolls-Empty) ∙ fold-roll-SourceTerm Tree view_step SourceTerm-F.Empty

pub view_structure : (f : List ℕ) (a : Vec SourceTerm Global) → view (tw.Structure f a) ≡ structure f (views a.items)
view_structure f a = ap view (sym (tv.rolls-Structure f a)) ∙ fold-roll-SourceTerm Tree view_step (SourceTerm-F.Structure f a)

pub view_named : (v : List ℕ) → value_view (ev.Variable v) ≡ named v
view_named v = ap value_view (sym (ev.rolls-Variable v)) ∙ fold-roll-SourceExpression Value value_step (SourceExpression-F.Variable v)

pub view_number : (n : ℤ) → value_view (ev.Integer n) ≡ number n
view_number n = ap value_view (sym (ev.rolls-Integer n)) ∙ fold-roll-SourceExpression Value value_step (SourceExpression-F.Integer n)

pub view_products : (a : Box SourceExpression Global) (others : Vec (Product × SourceExpression) Global) → value_view (ew.Products a others) ≡ products (value_view a.value) (factor_views others.items)
view_products a others = ap value_view (sym (ev.rolls-Products a others)) ∙ fold-roll-SourceExpression Value value_step (SourceExpression-F.Products a others)

pub view_sums : (a : Box SourceExpression Global) (others : Vec (Sum × SourceExpression) Global) → value_view (ew.Sums a others) ≡ sums (value_view a.value) (summand_views others.items)
view_sums a others = ap value_view (sym (ev.rolls-Sums a others)) ∙ fold-roll-SourceExpression Value value_step (SourceExpression-F.Sums a others)
