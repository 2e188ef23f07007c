-- What was read as an input term is, printed, read again as itself.
use Rattle.ghc_reader.proofs.Words.{◌≡◌, ℕ, ◌≤◌, true, List, [], ◌∷◌, ◌++◌, length, Option, refl, sym, ap, ◌∙◌, subst, arith, nat_tests, VarName, node, variable_text, term_text, Resolves, an_integer, a_node, ResolvesAll, no_more, one_more, IsTextOf, IsInGrammar, AllInGrammar, IsInputTerm, nesting, Token, Place, Refused, Input, tree_of, IsLexed, token_places, start, place_behind, nodes, Says, IsCalled, a_term, IsRead, IsReadTerm, IsSpelledBy}
use Rattle.std.proofs.Common.{append-nil}
use Rattle.ghc_term.specs.Tree as term
use Rattle.ghc_term.specs.InputTerm as input_term
use Rattle.ghc_reader.specs.Grammar as grammar
use Rattle.ghc_reader.proofs.Meanings.{meaning, said, nodes_of_meaning, NoVariable, IsSound}
use Rattle.ghc_reader.proofs.InputSizes.{weights, most_open, term_bytes}
use Rattle.ghc_reader.proofs.TokenBytes.{AreGood, good_tokens, tokens_bytes}
use Rattle.ghc_reader.proofs.ReadTerms.{sound_input, read_is_input}
use Rattle.ghc_reader.proofs.TokenTexts.{pieces_of, text_of, spaced_lexed}
use Rattle.ghc_reader.proofs.Derivations.{derive, derive_back, closed_term, spaced_term}
use Rattle.ghc_reader.proofs.PrintedTokens.{printed}
use Rattle.ghc_reader.proofs.PrintedDepth.{depth_of, nowhere_too_deep}
use Rattle.ghc_reader.proofs.GrammarTrees.{IsMeant, closed_meant}

-- ---- a term of the grammar is spelled by its text

-- no variable of a closed text has a name
unnamed : (v : List ℕ) (x : VarName) → IsCalled [] v x → v ≡ variable_text x
unnamed v x called = let none = called.1 in cc

module _ (u : term.Tree) (m : IsMeant (IsCalled []) NoVariable u) where
  -- the tokens of its shortest derivation
  abbrev tokens : List Token
  tokens = grammar.term (derive m.seen) []

  abbrev places : List Place
  places = token_places start (pieces_of tokens []) ++ place_behind start (text_of tokens []) ∷ []

  means : u ≡ meaning m.seen
  means = said m.seen u m.says

  sound : IsSound (tree_of (derive m.seen))
  sound = subst IsSound (sym (derive_back m.seen)) m.sound

  abbrev derivation : Input
  derivation = record { term = derive m.seen; closed = closed_term (derive m.seen) sound }

  text_is : text_of tokens [] ≡ term_text u
  text_is = printed (IsCalled []) NoVariable unnamed [] m.seen u m.says m.sound [] ∙ append-nil (term_text u)

  lexed : IsLexed Refused (term_text u) tokens places
  lexed =
      subst (λ text. IsLexed Refused text tokens places) text_is
      (spaced_lexed Refused NoVariable (λ v none. absurd none) (λ v none. absurd none) tokens (spaced_term NoVariable (derive m.seen) [] sound tt))

  spelled_by : IsSpelledBy (term_text u) u
  spelled_by = record {
    tokens = tokens;
    places = places;
    lexed = lexed;
    derivation = derivation;
    spelled = refl;
    says = subst (λ t. Says [] t u) (sym (derive_back m.seen)) m.says;
  }

pub term_is_spelled : (u : term.Tree) → IsInGrammar u → IsSpelledBy (term_text u) u
term_is_spelled u g = spelled_by u (closed_meant u g)

-- ---- an input term is what its text is read as

pub input_is_read : (u : term.Tree) → IsInputTerm u → IsReadTerm (term_text u) u
input_is_read u input =
    let m = closed_meant u input.grammar in
    let is = means u m in
    let s = m.seen in
    let size : nodes s ≤ 10000 = omega (arith, input.size, ap input_term.nodes is, nodes_of_meaning s) in
    let nested : most_open 0 (tokens u m) ≤ 64 = omega (arith, input.nested, ap nesting is, depth_of s m.sound 0 []) in
    let shallow = nowhere_too_deep (tokens u m) nested in
    let read : IsRead a_term (term_text u) s = record {
      tokens = tokens u m;
      places = places u m;
      derived = record {
        scanned = record { has_tokens = record { short = λ _. input.text; lexed = lexed u m }; shallow = λ _. shallow };
        derivation = derivation u m;
        spelled = refl;
        sees = derive_back s;
      };
      placed = refl;
      within = grind (arith, nat_tests, m.width, size);
    } in
    (s, read, m.says)

-- ---- no text of it is shorter

pub read_no_longer : (text : List ℕ) (u : term.Tree) → IsReadTerm text u → length (term_text u) ≤ length text
read_no_longer text u (seen, read, says) =
    let derived = read.derived in
    let i = derived.derivation in
    let lexed = derived.scanned.has_tokens.lexed in
    let good = subst AreGood (sym lexed.tokens_are ∙ derived.spelled) (good_tokens Refused true lexed.pieces [] lexed.cut.each_stands lexed.cut.none_refused) in
    let sound = sound_input i good in
    omega (
      arith,
      term_bytes i.term [] sound,
      tokens_bytes true lexed.pieces [] lexed.cut.each_stands lexed.cut.none_refused,
      ap weights (sym lexed.tokens_are ∙ derived.spelled),
      ap length lexed.cut.whole,
      ap (λ t. length (term_text t)) (said seen u says),
      ap (λ t. length (term_text (meaning t))) derived.sees,
    )

-- ---- what is printed of it

mutual
  unchanged : {S : VarName → Option term.Tree} (u : term.Tree) → IsInGrammar u → Resolves S u u
  unchanged (term.variable x) g = absurd g
  unchanged (term.integer k) g = an_integer
  unchanged (node f us) g = a_node (all_unchanged us g.1)

  all_unchanged : {S : VarName → Option term.Tree} (us : term.Trees) → AllInGrammar us → ResolvesAll S us us
  all_unchanged term.none g = no_more
  all_unchanged (term.more u us) g = one_more (unchanged u g.0) (all_unchanged us g.1)

pub printed_is_read : (text out : List ℕ) (u : term.Tree) (S : VarName → Option term.Tree) → IsReadTerm text u → IsTextOf S u out → IsReadTerm out u
printed_is_read text out u S read of =
    let input = read_is_input text u read in
    let same : out ≡ term_text u = of.written ∙ ap term_text (sym (of.only u (unchanged u input.grammar))) in
    subst (λ t. IsReadTerm t u) (sym same) (input_is_read u input)
