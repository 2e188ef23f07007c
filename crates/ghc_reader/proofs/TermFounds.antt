-- The derivation of a term, from those of its parts, and the faults after them.
use Rattle.ghc_reader.proofs.Words.{◌≡◌, ℕ, ℤ, List, [], ◌∷◌, length, Some, Result, Ok, Err, IfErr, IsErrAnd, refl, sym, ap, ◌∙◌, subst, Box, Global, Vec, Mark, Open, Close, OpenList, CloseList, Comma, Bar, Token, first, Begins, Term, variable, integer, call, list, Arguments, without, within, Rest, closed, whole, partial, Terms, one, more, term, arguments, rest, terms, EndsArguments, EndsTerm, EndsTerms, EndsRest, Found, Fault, tree_of, arguments_of, trees_of, cells_of, SourceTerm, ParseError, IfSyntax, Tree, Trees, cells, view, views, arith}
use Rattle.ghc_reader.specs.declared.token.Token.TheVariants as token
use Rattle.ghc_reader.specs.Derived.{list_of}
use Rattle.ghc_reader.specs.declared.source.SourceTerm.TheVariants as v
use Rattle.ghc_reader.specs.declared.source.SourceTerm.TheViews as w
use Rattle.ghc_reader.specs.declared.parse_error.ParseError.TheVariants as parse_error
use Rattle.ghc_reader.specs.Source as tree
use Rattle.ghc_reader.proofs.Views.{view_variable, view_integer, view_empty, view_structure, view_list}
use Rattle.ghc_reader.proofs.Loops.{TermsSoFar, ends_at_last}
use Rattle.ghc_reader.proofs.TermFaults as faults

-- a fault that `?` hands on
pub passes : {T : Type 0} (r : Result T ParseError) (e : ParseError) (P Q : ℕ → Type 0) → IsErrAnd r (λ y. y ≡ e) → ((n : ℕ) → P n → Q n) → IfSyntax e P
    → IfErr r (λ y. IfSyntax y Q)
passes (Ok x) e P Q same f h = tt
passes (Err y) parse_error.Memory P Q same f h = subst (λ y. IfSyntax y Q) (sym same) tt
passes (Err y) (parse_error.Syntax n) P Q same f h = subst (λ y. IfSyntax y Q) (sym same) (f n h)

abbrev pub TermFound : List Token → Tree → List Token → Type 0
TermFound = Found Term Tree term tree_of EndsTerm

abbrev pub TermsFound : List Token → Trees → List Token → Type 0
TermsFound = Found Terms Trees terms trees_of EndsTerms

abbrev pub ArgumentsFound : List Token → Trees → List Token → Type 0
ArgumentsFound = Found Arguments Trees arguments arguments_of EndsArguments

abbrev pub RestFound : List Token → Tree → List Token → Type 0
RestFound = Found Rest Tree rest list_of EndsRest

pub found_variable : (ts behind : List Token) (n : List ℕ) → ts ≡ token.Variable n ∷ behind → TermFound ts (view (v.Variable n)) behind
found_variable ts behind n e = record { derivation = variable n; spelled = e; sees = sym (view_variable n); stops = tt }

pub found_integer : (ts behind : List Token) (n : ℤ) → ts ≡ token.Integer n ∷ behind → TermFound ts (view (v.Integer n)) behind
found_integer ts behind n e = record { derivation = integer n; spelled = e; sees = sym (view_integer n); stops = tt }

pub found_call : (ts behind after : List Token) (f : List ℕ) (a : Vec SourceTerm Global) → ts ≡ token.Name f ∷ behind → ArgumentsFound behind (views a.items) after → TermFound ts (view (w.Structure f a)) after
found_call ts behind after f a e x = record {
  derivation = call f x.derivation;
  spelled = e ∙ ap (λ l. token.Name f ∷ l) x.spelled;
  sees = ap (λ l. tree.structure f l) x.sees ∙ sym (view_structure f a);
  stops = x.stops;
}

pub found_list : (ts behind after : List Token) (t : Tree) → ts ≡ token.Mark OpenList ∷ behind → RestFound behind t after → TermFound ts t after
found_list ts behind after t e x = record {
  derivation = list x.derivation;
  spelled = e ∙ ap (λ l. token.Mark OpenList ∷ l) x.spelled;
  sees = x.sees;
  stops = tt;
}

pub found_without : (ts : List Token) (a : List SourceTerm) → a ≡ [] → ¬ Begins Open ts → ArgumentsFound ts (views a) ts
found_without ts a e n = record { derivation = without; spelled = refl; sees = sym (ap views e); stops = n }

pub found_within : (ts inside behind after : List Token) (a : Trees) → ts ≡ token.Mark Open ∷ inside → TermsFound inside a behind → behind ≡ token.Mark Close ∷ after → ArgumentsFound ts a after
found_within ts inside behind after a e x f = record {
  derivation = within x.derivation;
  spelled = e ∙ ap (λ l. token.Mark Open ∷ l) (x.spelled ∙ ap (terms x.derivation) f);
  sees = x.sees;
  stops = tt;
}

pub found_empty : (ts after : List Token) → ts ≡ token.Mark CloseList ∷ after → RestFound ts (view v.Empty) after
found_empty ts after e = record { derivation = closed; spelled = e; sees = sym view_empty; stops = tt }

cells_are : (x : Terms) (end : Tree) → cells_of x end ≡ cells (trees_of x) end
cells_are (one t) end = refl
cells_are (more t x) end = ap (λ l. tree.cell (tree_of t) l) (cells_are x end)

pub found_whole : (ts behind after : List Token) (a : Vec SourceTerm Global) (end : Box SourceTerm Global) → TermsFound ts (views a.items) behind → behind ≡ token.Mark CloseList ∷ after → end.value ≡ v.Empty → RestFound ts (view (w.List a end)) after
found_whole ts behind after a end x e f = record {
  derivation = whole x.derivation;
  spelled = x.spelled ∙ ap (terms x.derivation) e;
  sees = cells_are x.derivation tree.empty ∙ ap (λ l. cells l tree.empty) x.sees ∙ sym (view_list a end ∙ ap (λ t. cells (views a.items) (view t)) f ∙ ap (cells (views a.items)) view_empty);
  stops = tt;
}

pub found_partial : (ts behind inside rest after : List Token) (a : Vec SourceTerm Global) (u : SourceTerm) (end : Box SourceTerm Global) → TermsFound ts (views a.items) behind → behind ≡ token.Mark Bar ∷ inside → TermFound inside (view u) rest → rest ≡ token.Mark CloseList ∷ after → end.value ≡ u → RestFound ts (view (w.List a end)) after
found_partial ts behind inside rest after a u end x e y f g = record {
  derivation = partial x.derivation y.derivation;
  spelled = x.spelled ∙ ap (terms x.derivation) (e ∙ ap (λ l. token.Mark Bar ∷ l) (y.spelled ∙ ap (term y.derivation) f));
  sees = cells_are x.derivation (tree_of y.derivation) ∙ ap (λ l. cells l (tree_of y.derivation)) x.sees ∙ ap (cells (views a.items)) y.sees ∙ sym (view_list a end ∙ ap (λ t. cells (views a.items) (view t)) g);
  stops = tt;
}

pub at_close : (ts inside behind : List Token) (a : Trees) → ts ≡ token.Mark Open ∷ inside → TermsFound inside a behind → ¬ Begins Close behind → Fault Arguments arguments EndsArguments ts (length behind)
at_close ts inside behind a e x n = rw (e, x.spelled) (faults.close_missing x.derivation behind x.stops n)

pub at_list_end : (ts behind : List Token) (a : Trees) → TermsFound ts a behind → ¬ Begins CloseList behind → ¬ Begins Bar behind → Fault Rest rest EndsRest ts (length behind)
at_list_end ts behind a x n m = rw x.spelled (faults.list_end_missing x.derivation behind x.stops n m)

pub at_tail_end : (ts behind inside after : List Token) (a : Trees) (u : Tree) → TermsFound ts a behind → behind ≡ token.Mark Bar ∷ inside → TermFound inside u after → ¬ Begins CloseList after → Fault Rest rest EndsRest ts (length after)
at_tail_end ts behind inside after a u x e y n = rw (x.spelled, e, y.spelled) (faults.tail_end_missing x.derivation y.derivation after y.stops n)

pub at_mark : (ts behind : List Token) (m : Mark) → ts ≡ token.Mark m ∷ behind → ¬ Begins OpenList ts → Fault Term term EndsTerm ts (length ts)
at_mark ts behind m e n =
    faults.no_term_here ts (subst (λ l. faults.BeginsNoTerm (first l)) (sym e) (λ same. n (ap first e ∙ ap (λ k. Some (token.Mark k)) same)))

pub at_other : (ts behind : List Token) (t : Token) → faults.BeginsNoTerm (Some t) → ts ≡ t ∷ behind → Fault Term term EndsTerm ts (length ts)
at_other ts behind t h e = faults.no_term_here ts (subst (λ l. faults.BeginsNoTerm (first l)) (sym e) h)

pub found_terms : (ts behind : List Token) (a : Trees) → TermsSoFar ts a behind → ¬ Begins Comma behind → TermsFound ts a behind
found_terms ts behind a x n = record { derivation = x.so_far; spelled = x.spelled; sees = x.sees; stops = ends_at_last x.so_far (first behind) x.stops n }

-- a fault that is handed on
pub hands_on : {T : Type 0} (r : Result T ParseError) (P Q : ℕ → Type 0) → ((n : ℕ) → P n → Q n) → IfErr r (λ e. IfSyntax e P) → IfErr r (λ e. IfSyntax e Q)
hands_on r P Q f h = grind (arith, f)
