-- What is read as an input term is one: in the grammar, and within the limits.
use Rattle.ghc_reader.proofs.Words.{◌≡◌, ℕ, ◌≤◌, true, List, [], ◌∷◌, length, None, refl, sym, ap, ◌∙◌, subst, arith, IsInputTerm, Close, CloseList, Comma, Bar, Token, Place, Refused, Term, variable, integer, call, list, without, within, closed, whole, partial, Terms, one, more, Input, input, terms, tree_of, trees_of, cells_of, IsTooDeep, IsLexed, text_limit, widest, nodes, Says, IsClosed, AreClosed, IsReadTerm, first_exceeded, of_term, nat_tests}
use Rattle.ghc_term.specs.Tree as term
use Rattle.ghc_reader.specs.declared.token.Token.TheVariants as token
use Rattle.ghc_reader.specs.Grammar as grammar
use Rattle.ghc_reader.specs.Source as tree
use Rattle.ghc_reader.proofs.Meanings.{said, nodes_of_meaning, AnyVariable, IsSoundBy, AreSoundBy, IsSound, AreSound, meaning_in_grammar}
use Rattle.ghc_reader.proofs.ClosedTrees.{closed_tree}
use Rattle.ghc_reader.proofs.InputSizes.{weights, most_open, term_bytes, term_deep, shallow_opens}
use Rattle.ghc_reader.proofs.TokenBytes.{AreGood, good_tokens, tokens_bytes}

-- ---- a derivation of good tokens has a sound tree, whatever variables stand in it

sound_cells : (a : Terms) (end : tree.Tree) → AreSoundBy AnyVariable (trees_of a) → IsSoundBy AnyVariable end → IsSoundBy AnyVariable (cells_of a end)
sound_cells (one t) end s e = (s.0, e)
sound_cells (more t a) end s e = (s.0, sound_cells a end s.1 e)

mutual
  pub sound_tree : (t : Term) (ts : List Token) → AreGood (grammar.term t ts) → IsSoundBy AnyVariable (tree_of t) × AreGood ts
  sound_tree (variable v) ts good = good
  sound_tree (integer n) ts good = good
  sound_tree (call f without) ts good = ((good.0, tt), good.1)
  sound_tree (call f (within a)) ts good = let inner = sound_trees a (token.Mark Close ∷ ts) good.1.1 in ((good.0, inner.0), inner.1.1)
  sound_tree (list closed) ts good = (tt, good.1.1)
  sound_tree (list (whole a)) ts good = let inner = sound_trees a (token.Mark CloseList ∷ ts) good.1 in (sound_cells a tree.empty inner.0 tt, inner.1.1)
  sound_tree (list (partial a t)) ts good =
      let inner = sound_trees a (token.Mark Bar ∷ grammar.term t (token.Mark CloseList ∷ ts)) good.1 in
      let end = sound_tree t (token.Mark CloseList ∷ ts) inner.1.1 in
      (sound_cells a (tree_of t) inner.0 end.0, end.1.1)

  sound_trees : (a : Terms) (ts : List Token) → AreGood (terms a ts) → AreSoundBy AnyVariable (trees_of a) × AreGood ts
  sound_trees (one t) ts good = let inner = sound_tree t ts good in ((inner.0, tt), inner.1)
  sound_trees (more t a) ts good =
      let first = sound_tree t (token.Mark Comma ∷ terms a ts) good in
      let behind = sound_trees a ts first.1.1 in
      ((first.0, behind.0), behind.1)

-- and where no variable stands in it
mutual
  closed_sound : (t : tree.Tree) → IsClosed t → IsSoundBy AnyVariable t → IsSound t
  closed_sound (tree.variable v) c s = c
  closed_sound (tree.integer n) c s = s
  closed_sound (tree.structure f ts) c s = (s.0, closed_all ts c s.1)
  closed_sound tree.empty c s = tt
  closed_sound (tree.cell t rest) c s = (closed_sound t c.0 s.0, closed_sound rest c.1 s.1)

  closed_all : (ts : tree.Trees) → AreClosed ts → AreSoundBy AnyVariable ts → AreSound ts
  closed_all tree.none c s = tt
  closed_all (tree.some t ts) c s = (closed_sound t c.0 s.0, closed_all ts c.1 s.1)

pub sound_input : (i : Input) → AreGood (input i []) → IsSound (tree_of i.term)
sound_input i good = closed_sound (tree_of i.term) (closed_tree i.term i.closed) (sound_tree i.term [] good).0

-- ---- the whole text

-- The text has these tokens, they are those of a derivation and not nested too deep, and its tree has no more nodes and arguments
-- than an input term may have: what the tree says is an input term.
pub lexed_is_input : (text : List ℕ) (tokens : List Token) (places : List Place) (i : Input) (u : term.Tree)
    → length text ≤ text_limit → IsLexed Refused text tokens places → tokens ≡ input i [] → ¬ (IsTooDeep tokens)
    → nodes (tree_of i.term) ≤ 10000 → widest (tree_of i.term) ≤ 255 → Says [] (tree_of i.term) u → IsInputTerm u
lexed_is_input text tokens places i u short lexed spelled shallow size width says =
    let good = subst AreGood (sym lexed.tokens_are ∙ spelled) (good_tokens Refused true lexed.pieces [] lexed.cut.each_stands lexed.cut.none_refused) in
    let sound = sound_input i good in
    let bytes = tokens_bytes true lexed.pieces [] lexed.cut.each_stands lexed.cut.none_refused in
    let written = term_bytes i.term [] sound in
    let opened = subst (λ l. most_open 0 l ≤ 64) spelled (shallow_opens tokens shallow) in
    let deep = term_deep i.term 0 [] sound in
    subst IsInputTerm (sym (said (tree_of i.term) u says)) record {
      grammar = meaning_in_grammar (tree_of i.term) sound width;
      size = omega (arith, size, nodes_of_meaning (tree_of i.term));
      nested = omega (arith, opened, deep);
      text = omega (arith, short, written, bytes, ap weights (sym lexed.tokens_are ∙ spelled), ap length lexed.cut.whole);
    }

-- ---- the limits

limits_of_term : (s : tree.Tree) → first_exceeded (of_term s) ≡ None → (widest s ≤ 255) × (nodes s ≤ 10000)
limits_of_term s none = grind (arith, nat_tests)

pub read_is_input : (text : List ℕ) (u : term.Tree) → IsReadTerm text u → IsInputTerm u
read_is_input text u (seen, read, says) =
    let derived = read.derived in
    let i = derived.derivation in
    let (wide, many) = limits_of_term seen read.within in
    lexed_is_input text read.tokens read.places i u (derived.scanned.has_tokens.short refl) derived.scanned.has_tokens.lexed derived.spelled (derived.scanned.shallow refl)
    (omega (arith, many, ap nodes derived.sees)) (omega (arith, wide, ap widest derived.sees)) (subst (λ t. Says [] t u) (sym derived.sees) says)
