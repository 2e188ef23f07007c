-- The tokens of the shortest derivation of a tree are nested no deeper than what is printed of it.
use Rattle.ghc_reader.proofs.Words.{◌≡◌, ℕ, ◌+◌, ◌≤◌, max, List, [], ◌∷◌, ◌++◌, ap, ◌∙◌, arith, if◌then◌else◌, node, is_cell, IsNameText, nesting, rest_nesting, cell_nesting, arguments_nesting, deepest, Close, CloseList, Comma, Bar, Token, open_behind, open_after, IsTooDeep, Term, Tree, Trees}
use Rattle.ghc_term.specs.Tree as term
use Rattle.ghc_reader.specs.declared.token.Token.TheVariants as token
use Rattle.ghc_reader.specs.Grammar as grammar
use Rattle.ghc_reader.specs.Source as tree
use Rattle.ghc_reader.proofs.Meanings.{meaning, meanings, IsSound, AreSound, name_no_cell, name_no_nil}
use Rattle.ghc_reader.proofs.InputSizes.{most_open, closes, nesting_of_name}
use Rattle.ghc_reader.proofs.Derivations.{derive, derive_arguments, derive_terms, derive_list, derive_has, put_tokens}

-- the brackets of a name over arguments as the rest of a list
rest_nesting_of_name : (f : List ℕ) (ts : term.Trees) → IsNameText f → rest_nesting (node f ts) ≡ arguments_nesting ts
rest_nesting_of_name f ts name =
    ap (λ b. if b then 0 else if is_cell f ts then cell_nesting ts else arguments_nesting ts) (name_no_nil f ts name)
    ∙ ap (λ b. if b then cell_nesting ts else arguments_nesting ts) (name_no_cell f ts name)

-- at most k brackets more are open at one place of the derivation
abbrev OpensAtMost : Term → ℕ → Type 0
OpensAtMost d k = (n : ℕ) (ts : List Token) → most_open n (grammar.term d ts) ≤ max (n + k) (most_open n ts)

mutual
  pub depth_of : (s : Tree) → IsSound s → OpensAtMost (derive s) (nesting (meaning s))
  depth_of (tree.variable v) sound n ts = absurd sound
  depth_of (tree.integer k) sound n ts = omega arith
  depth_of (tree.structure f us) sound n ts =
      omega (arith, depth_of_arguments us sound.1 n ts, nesting_of_name f (meanings us) sound.0)
  depth_of tree.empty sound n ts = omega (arith, closes n ts)
  depth_of (tree.cell t u) sound n ts =
      omega (arith, depth_of_list (derive t) (nesting (meaning t)) (depth_of t sound.0) u sound.1 (n + 1) ts, closes n ts)

  depth_of_arguments : (us : Trees) → AreSound us → (n : ℕ) (ts : List Token)
      → most_open n (grammar.arguments (derive_arguments us) ts) ≤ max (n + arguments_nesting (meanings us)) (most_open n ts)
  depth_of_arguments tree.none sound n ts = omega arith
  depth_of_arguments (tree.some t us) sound n ts =
      omega (arith, depth_of_terms (derive t) (nesting (meaning t)) (depth_of t sound.0) us sound.1 (n + 1) (token.Mark Close ∷ ts), closes n ts)

  depth_of_terms : (d : Term) (k : ℕ) → OpensAtMost d k → (us : Trees) → AreSound us → (n : ℕ) (ts : List Token)
      → most_open n (grammar.terms (derive_terms d us) ts) ≤ max (n + max k (deepest (meanings us))) (most_open n ts)
  depth_of_terms d k at_most tree.none sound n ts = omega (arith, at_most n ts)
  depth_of_terms d k at_most (tree.some t us) sound n ts =
      omega (
        arith,
        at_most n (token.Mark Comma ∷ grammar.terms (derive_terms (derive t) us) ts),
        depth_of_terms (derive t) (nesting (meaning t)) (depth_of t sound.0) us sound.1 n ts,
      )

  depth_of_list : (d : Term) (k : ℕ) → OpensAtMost d k → (u : Tree) → IsSound u → (n : ℕ) (ts : List Token)
      → most_open n (grammar.rest (derive_list d u) ts) ≤ max (n + max k (rest_nesting (meaning u))) (most_open n (token.Mark CloseList ∷ ts))
  depth_of_list d k at_most (tree.variable v) sound n ts = absurd sound
  depth_of_list d k at_most (tree.integer z) sound n ts =
      omega (arith, at_most n (token.Mark Bar ∷ token.Integer z ∷ token.Mark CloseList ∷ ts))
  depth_of_list d k at_most (tree.structure f us) sound n ts =
      omega (
        arith,
        at_most n (token.Mark Bar ∷ token.Name f ∷ grammar.arguments (derive_arguments us) (token.Mark CloseList ∷ ts)),
        depth_of_arguments us sound.1 n (token.Mark CloseList ∷ ts),
        rest_nesting_of_name f (meanings us) sound.0,
      )
  depth_of_list d k at_most tree.empty sound n ts = omega (arith, at_most n (token.Mark CloseList ∷ ts))
  depth_of_list d k at_most (tree.cell t u) sound n ts =
      let r = derive_list (derive t) u in
      omega (
        arith,
        ap (most_open n) (put_tokens d r ts (derive_has (derive t) u)),
        at_most n (token.Mark Comma ∷ grammar.rest r ts),
        depth_of_list (derive t) (nesting (meaning t)) (depth_of t sound.0) u sound.1 n ts,
      )

-- ---- what is open at each place

open_within : (n : ℕ) (front rest : List Token) → open_after n front ≤ most_open n (front ++ rest)
open_within n [] [] = omega arith
open_within n [] (t ∷ rest) = omega arith
open_within n (t ∷ front) rest = omega (arith, open_within (open_behind n t) front rest)

pub nowhere_too_deep : (ts : List Token) → most_open 0 ts ≤ 64 → IsTooDeep ts → ⊥
nowhere_too_deep ts at_most (front, rest, split, deep) =
    absurd (omega (arith, at_most, ap (most_open 0) split, open_within 0 front rest, deep))
