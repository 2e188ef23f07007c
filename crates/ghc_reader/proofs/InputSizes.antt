-- What is printed for an input term is no longer than its tokens, and opens no more brackets than they do.
use Rattle.ghc_reader.proofs.Words.{◌≡◌, ℕ, ◌+◌, ◌-◌, ◌≤◌, max, Bool, false, List, [], ◌∷◌, ◌++◌, length, refl, ap, ◌∙◌, arith, length-append, inl, inr, codes, if◌then◌else◌, cases_lt, signed_decimal, node, is_cell, is_nil, term_text, rest_text, cell_text, arguments_text, further_text, barred, IsNameText, nesting, rest_nesting, cell_nesting, arguments_nesting, deepest, Close, CloseList, Comma, Bar, Token, open_behind, open_after, IsTooDeep, Term, variable, integer, call, list, without, within, closed, whole, partial, Terms, one, more, terms, tree_of, trees_of, cells_of}
use Rattle.std.proofs.Common.{append-nil}
use Rattle.ghc_term.specs.Tree as term
use Rattle.ghc_reader.specs.declared.token.Token.TheVariants as token
use Rattle.ghc_reader.specs.Grammar as grammar
use Rattle.ghc_reader.specs.Source as tree
use Rattle.ghc_reader.proofs.Meanings.{meaning, meanings, IsSoundBy, AreSoundBy, NoVariable, IsSound, AreSound, name_no_cell, name_no_nil}

-- the terms in front of the end of a list are sound, and so is the end
pub cells_sound : (W : List ℕ → Type 0) (a : Terms) (end : tree.Tree) → IsSoundBy W (cells_of a end) → AreSoundBy W (trees_of a) × IsSoundBy W end
cells_sound W (one t) end s = ((s.0, tt), s.1)
cells_sound W (more t a) end s = let behind = cells_sound W a end s.1 in ((s.0, behind.0), behind.1)

-- ---- a name over arguments

module _ (f : List ℕ) (ts : term.Trees) (name : IsNameText f) where
  pub text_of_name : term_text (node f ts) ≡ f ++ arguments_text ts
  text_of_name = ap (λ b. if b then codes "[" ++ cell_text ts else f ++ arguments_text ts) (name_no_cell f ts name)

  pub nesting_of_name : nesting (node f ts) ≡ arguments_nesting ts
  nesting_of_name =
      ap (λ b. if b then 1 + cell_nesting ts else if is_nil f ts then 1 else arguments_nesting ts) (name_no_cell f ts name)
      ∙ ap (λ b. if b then 1 else arguments_nesting ts) (name_no_nil f ts name)

-- ---- the rest of a list is at most a bar and a bracket longer than its tail, and nested no deeper

rest_length : (n c : Bool) (x y : List ℕ) → length (if n then codes "]" else if c then codes "," ++ x else barred y) ≤ 2 + length (if c then codes "[" ++ x else y)
rest_length n c x y = grind (arith, length-append)

rest_bytes : (u : term.Tree) → length (rest_text u) ≤ 2 + length (term_text u)
rest_bytes (term.variable x) = rest_length false false [] (term_text (term.variable x))
rest_bytes (term.integer k) = rest_length false false [] (signed_decimal k)
rest_bytes (node f ts) = rest_length (is_nil f ts) (is_cell f ts) (cell_text ts) (f ++ arguments_text ts)

pub rest_deep : (u : term.Tree) → rest_nesting u ≤ nesting u
rest_deep (term.variable x) = omega arith
rest_deep (term.integer k) = omega arith
rest_deep (node f ts) = grind arith

-- ---- bytes

-- how many bytes a token has in a text at least, where it can stand in an input term
abbrev pub weight : Token → ℕ
weight (token.Name f) = length f
weight (token.Integer k) = length (signed_decimal k)
weight (token.Mark m) = 1
weight t = 0

abbrev pub weights : List Token → ℕ
weights [] = 0
weights (t ∷ ts) = weight t + weights ts

arguments_length : (a : Terms) → length (arguments_text (meanings (trees_of a))) ≡ length (further_text (meanings (trees_of a)))
arguments_length (one t) = refl
arguments_length (more t a) = refl

list_length : (a : Terms) (end : tree.Tree) → length (term_text (meaning (cells_of a end))) ≡ length (rest_text (meaning (cells_of a end)))
list_length (one t) end = refl
list_length (more t a) end = refl

mutual
  pub term_bytes : (t : Term) (ts : List Token) → IsSound (tree_of t) → length (term_text (meaning (tree_of t))) + weights ts ≤ weights (grammar.term t ts)
  term_bytes (variable v) ts s = absurd s
  term_bytes (integer k) ts s = omega arith
  term_bytes (call f without) ts s = omega (arith, ap length (append-nil f), ap length (text_of_name f term.none s.0))
  term_bytes (call f (within a)) ts s =
      let us = meanings (trees_of a) in
      omega (arith, ap length (text_of_name f us s.0), length-append f (arguments_text us), arguments_length a, terms_bytes a (token.Mark Close ∷ ts) s.1)
  term_bytes (list closed) ts s = omega arith
  term_bytes (list (whole a)) ts s =
      omega (arith, list_length a tree.empty, cells_bytes a tree.empty (token.Mark CloseList ∷ ts) (cells_sound NoVariable a tree.empty s).0)
  term_bytes (list (partial a t)) ts s =
      let parts = cells_sound NoVariable a (tree_of t) s in
      omega (
        arith,
        list_length a (tree_of t),
        cells_bytes a (tree_of t) (token.Mark Bar ∷ grammar.term t (token.Mark CloseList ∷ ts)) parts.0,
        rest_bytes (meaning (tree_of t)),
        term_bytes t (token.Mark CloseList ∷ ts) parts.1,
      )

  terms_bytes : (a : Terms) (ts : List Token) → AreSound (trees_of a) → length (further_text (meanings (trees_of a))) + weights ts ≤ 2 + weights (terms a ts)
  terms_bytes (one t) ts s = omega (arith, length-append (term_text (meaning (tree_of t))) (codes ")"), term_bytes t ts s.0)
  terms_bytes (more t a) ts s =
      omega (arith, length-append (term_text (meaning (tree_of t))) (further_text (meanings (trees_of a))), term_bytes t (token.Mark Comma ∷ terms a ts) s.0, terms_bytes a ts s.1)

  cells_bytes : (a : Terms) (end : tree.Tree) (ts : List Token) → AreSound (trees_of a)
      → length (rest_text (meaning (cells_of a end))) + weights ts ≤ 1 + weights (terms a ts) + length (rest_text (meaning end))
  cells_bytes (one t) end ts s = omega (arith, length-append (term_text (meaning (tree_of t))) (rest_text (meaning end)), term_bytes t ts s.0)
  cells_bytes (more t a) end ts s =
      omega (arith, length-append (term_text (meaning (tree_of t))) (rest_text (meaning (cells_of a end))), term_bytes t (token.Mark Comma ∷ terms a ts) s.0, cells_bytes a end ts s.1)

-- ---- brackets

-- the most brackets that stand open at one place of the tokens, with n open before them
abbrev pub most_open : ℕ → List Token → ℕ
most_open n [] = n
most_open n (t ∷ ts) = max n (most_open (open_behind n t) ts)

nowhere_open : (n : ℕ) (ts : List Token) → ((front rest : List Token) → ts ≡ front ++ rest → open_after n front ≤ 64) → most_open n ts ≤ 64
nowhere_open n [] shallow = shallow [] [] refl
nowhere_open n (t ∷ ts) shallow =
    let here = shallow [] (t ∷ ts) refl in
    let behind = nowhere_open (open_behind n t) ts (λ front rest split. shallow (t ∷ front) rest (ap (λ l. t ∷ l) split)) in
    omega (arith, here, behind)

pub shallow_opens : (ts : List Token) → ¬ (IsTooDeep ts) → most_open 0 ts ≤ 64
shallow_opens ts shallow =
    nowhere_open 0 ts (λ front rest split. elim (cases_lt 64 (open_after 0 front)) [
      | inl deep ↦ absurd (shallow (front, rest, split, deep))
      | inr at_most ↦ at_most
    ])

pub closes : (n : ℕ) (ts : List Token) → most_open (n + 1 - 1) ts ≡ most_open n ts
closes n ts = ap (λ k. most_open k ts) (omega arith)

arguments_depth : (a : Terms) → arguments_nesting (meanings (trees_of a)) ≡ 1 + deepest (meanings (trees_of a))
arguments_depth (one t) = refl
arguments_depth (more t a) = refl

list_depth : (a : Terms) (end : tree.Tree) → nesting (meaning (cells_of a end)) ≡ 1 + rest_nesting (meaning (cells_of a end))
list_depth (one t) end = refl
list_depth (more t a) end = refl

cells_depth : (a : Terms) (end : tree.Tree) → rest_nesting (meaning (cells_of a end)) ≤ max (deepest (meanings (trees_of a))) (rest_nesting (meaning end))
cells_depth (one t) end = omega arith
cells_depth (more t a) end = omega (arith, cells_depth a end)

mutual
  pub term_deep : (t : Term) (n : ℕ) (ts : List Token) → IsSound (tree_of t) → max (n + nesting (meaning (tree_of t))) (most_open n ts) ≤ most_open n (grammar.term t ts)
  term_deep (variable v) n ts s = absurd s
  term_deep (integer k) n ts s = omega arith
  term_deep (call f without) n ts s = omega (arith, nesting_of_name f term.none s.0)
  term_deep (call f (within a)) n ts s =
      omega (arith, nesting_of_name f (meanings (trees_of a)) s.0, arguments_depth a, terms_deep a (n + 1) (token.Mark Close ∷ ts) s.1, closes n ts)
  term_deep (list closed) n ts s = omega (arith, closes n ts)
  term_deep (list (whole a)) n ts s =
      omega (arith, list_depth a tree.empty, cells_depth a tree.empty, terms_deep a (n + 1) (token.Mark CloseList ∷ ts) (cells_sound NoVariable a tree.empty s).0, closes n ts)
  term_deep (list (partial a t)) n ts s =
      let parts = cells_sound NoVariable a (tree_of t) s in
      omega (
        arith,
        list_depth a (tree_of t),
        cells_depth a (tree_of t),
        rest_deep (meaning (tree_of t)),
        terms_deep a (n + 1) (token.Mark Bar ∷ grammar.term t (token.Mark CloseList ∷ ts)) parts.0,
        term_deep t (n + 1) (token.Mark CloseList ∷ ts) parts.1,
        closes n ts,
      )

  terms_deep : (a : Terms) (n : ℕ) (ts : List Token) → AreSound (trees_of a) → max (n + deepest (meanings (trees_of a))) (most_open n ts) ≤ most_open n (terms a ts)
  terms_deep (one t) n ts s = omega (arith, term_deep t n ts s.0)
  terms_deep (more t a) n ts s = omega (arith, term_deep t n (token.Mark Comma ∷ terms a ts) s.0, terms_deep a n ts s.1)
