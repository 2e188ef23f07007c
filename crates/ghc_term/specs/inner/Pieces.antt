-- A text that is still to be written, in pieces.
use Rattle.std.specs.Prelude.{◌≡◌, ℕ, suc, ◌+◌, ◌*◌, ◌<◌, ◌≤◌, List, [], ◌∷◌, ◌++◌, Option}
use Rattle.ghc_term.specs.declared.var_name.VarName.{VarName}
use Rattle.ghc_term.specs.declared.printing.pieces.Piece.{Piece}
use Rattle.ghc_term.specs.declared.printing.pieces.Piece.TheVariants.{Term, Rest, Further, Mark, Expr, Operand}
use Rattle.ghc_term.specs.Tree.{Tree, variable, integer, node, none, more, trees}
use Rattle.ghc_term.specs.Bindings.{Leads}
use Rattle.ghc_term.specs.Text.{term_text, rest_text, further_text}
use Rattle.ghc_term.specs.Resolved.{IsResolution, all_resolved}
use Rattle.ghc_term.specs.Expression.{Expression, leaf, operation}
use Rattle.ghc_term.specs.GoalText.{expression_text_by, operand}

-- a variable, an integer or an atom
abbrev pub IsLeaf : Tree → Type 0
IsLeaf (variable _) = Unit {0}
IsLeaf (integer _) = Unit {0}
IsLeaf (node _ none) = Unit {0}
IsLeaf (node _ (more _ _)) = ⊥

-- the text of a piece
abbrev pub piece_text : (Tree → Tree) → Piece → List ℕ
piece_text r (Term t) = term_text (r t.now)
piece_text r (Rest t) = rest_text (r t.now)
piece_text r (Further ts) = further_text (all_resolved r ts.now)
piece_text r (Mark mark) = mark.now
piece_text r (Expr e) = expression_text_by r e.now
piece_text r (Operand e) = operand e.now (expression_text_by r e.now)

-- the text of pieces, of which the last one is written first
abbrev pub pieces_text : (Tree → Tree) → List Piece → List ℕ
pieces_text r [] = []
pieces_text r (p ∷ ps) = pieces_text r ps ++ piece_text r p

-- the measure of a list of trees, with one more for each of them
abbrev pub total : (Tree → ℕ) → List Tree → ℕ
total w [] = 0
total w (t ∷ ts) = suc (w t) + total w ts

-- w is a number that falls from a structure to its arguments and does not rise along a chain
pub record IsMeasure (S : VarName → Option Tree) (w : Tree → ℕ) : Type 0 where
  pub along : {t e : Tree} {xs : List VarName} → Leads S t xs e → w e ≤ w t
  pub below : (f : List ℕ) (ts : List Tree) → total w ts ≤ w (node f (trees ts))

-- how much is left to do for a term, the rest of a list, arguments, and an expression
abbrev pub term_size : (Tree → ℕ) → Tree → ℕ
term_size w t = 2 * w t + 1

-- how much is left to do for the rest of a list
abbrev pub rest_size : (Tree → ℕ) → Tree → ℕ
rest_size w t = 2 * w t + 3

-- how much is left to do for arguments
abbrev pub arguments_size : (Tree → ℕ) → List Tree → ℕ
arguments_size w ts = 2 * total w ts + 1

-- how much is left to do for an expression
abbrev pub expression_size : (Tree → ℕ) → Expression → ℕ
expression_size w (leaf t) = term_size w t
expression_size w (operation _ e f) = expression_size w e + expression_size w f + 8

-- how much is left to do for a piece
abbrev pub piece_size : (Tree → ℕ) → Piece → ℕ
piece_size w (Term t) = term_size w t.now
piece_size w (Rest t) = rest_size w t.now
piece_size w (Further ts) = arguments_size w ts.now
piece_size w (Mark mark) = 1
piece_size w (Expr e) = expression_size w e.now + 1
piece_size w (Operand e) = expression_size w e.now + 3

-- how much is left to do for all pieces together
abbrev pub pieces_size : (Tree → ℕ) → List Piece → ℕ
pieces_size w [] = 0
pieces_size w (p ∷ ps) = piece_size w p + pieces_size w ps

-- A text of the given size was to be written in front of the old pieces. Its beginning was written, and smaller pieces stand for the rest.
pub record Advances (r : Tree → Tree) (w : Tree → ℕ) (text : List ℕ) (size : ℕ) (old new : List Piece) (before after : List ℕ) : Type 0 where
  pub whole : after ++ pieces_text r new ≡ before ++ (text ++ pieces_text r old)
  pub smaller : pieces_size w new < size + pieces_size w old

-- the same, whatever the trees in it resolve to and measure
abbrev pub Unfolds : ((Tree → Tree) → List ℕ) → ((Tree → ℕ) → ℕ) → List Piece → List Piece → List ℕ → List ℕ → Type 0
Unfolds text size old new before after = (r : Tree → Tree) (w : Tree → ℕ) → Advances r w (text r) (size w) old new before after

-- the same, where the trees in it resolve and measure as in the store
abbrev pub UnfoldsIn : (VarName → Option Tree) → ((Tree → Tree) → List ℕ) → ((Tree → ℕ) → ℕ) → List Piece → List Piece → List ℕ → List ℕ → Type 0
UnfoldsIn S text size old new before after =
    (r : Tree → Tree) (w : Tree → ℕ) → IsResolution S r → IsMeasure S w → Advances r w (text r) (size w) old new before after

-- A text was to be written in front of the old pieces. Its beginning was written, and pieces stand for the rest.
abbrev pub StartsIn : (VarName → Option Tree) → ((Tree → Tree) → List ℕ) → List Piece → List Piece → List ℕ → List ℕ → Type 0
StartsIn S text old new before after = (r : Tree → Tree) → IsResolution S r → after ++ pieces_text r new ≡ before ++ (text r ++ pieces_text r old)
