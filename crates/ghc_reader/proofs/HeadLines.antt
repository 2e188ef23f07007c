-- The heads of clauses stand among the tokens, and what begins there is told of the text.
use Rattle.ghc_reader.proofs.Words.{◌≡◌, ℕ, ◌≤◌, ◌<◌, ◌∙◌, All, All-cons, All-nil, List, [], ap, arith, get_or, length, length-map, subst, sym, true, Token, Place, Refused, Clause, fact, rule, Program, done, clauses, clause, program, clause_of, clauses_of, clause_view, clause_views, SourceClause, Each, IsRead, IsShallow, a_program}
use Rattle.std.proofs.lemmas.List.{get_or-map}
use Rattle.std.proofs.lemmas.List.Elements.{All-get_or}
use Rattle.ghc_reader.specs.Source as tree
use Rattle.ghc_reader.specs.ClauseLines.{AreClauseLines, BeginsAt}
use Rattle.ghc_reader.proofs.MisplacedWithin.{clause_longer}
use Rattle.ghc_reader.proofs.OneLexing.{one_lexing}

head_within : (c : Clause) (ts : List Token) (m : ℕ) → length (clause c ts) ≤ m → (clause_of c ts).head.left ≤ m
head_within (fact f a) ts m within = within
head_within (rule f a r) ts m within = within

heads_within : (p : Program) (ts : List Token) (m : ℕ) → length (program p ts) ≤ m → All (λ (c : tree.Clause). c.head.left ≤ m) (clauses_of p ts)
heads_within done ts m within = All-nil (λ (c : tree.Clause). c.head.left ≤ m)
heads_within (clauses c p) ts m within =
    let longer = clause_longer c (program p ts) in
    All-cons (λ (k : tree.Clause). k.head.left ≤ m) (clause_of c (program p ts)) (clauses_of p ts) (head_within c (program p ts) m within) (heads_within p ts m (omega (arith, longer, within)))

-- the head of one clause of those whose heads stand among the tokens
pub head_at : (m : ℕ) (cs : List SourceClause) (i : ℕ) (c : SourceClause) → All (λ (k : tree.Clause). k.head.left ≤ m) (clause_views cs) → i < length cs → c ≡ get_or cs i c → c.head.left ≤ m
head_at m cs i c among within is =
    let mapped = get_or-map clause_view cs i c (clause_view c) within in
    let left : (get_or (clause_views cs) i (clause_view c)).head.left ≡ c.head.left = ap (λ (k : tree.Clause). k.head.left) (mapped ∙ ap clause_view (sym is)) in
    let bound = All-get_or (λ (k : tree.Clause). k.head.left ≤ m) (clause_views cs) i (clause_view c) (omega (arith, within, length-map cs clause_view)) among in
    omega (arith, left, bound)

-- the text of a program with these tokens and places
module _ (text : List ℕ) (tokens : List Token) (places : List Place) (scanned : IsShallow Refused true text tokens places) (seen : List tree.Clause) (read : IsRead a_program text seen) where
  same : (read.tokens ≡ tokens) × (read.places ≡ places)
  same = one_lexing Refused text read.tokens tokens read.places places read.derived.scanned.has_tokens.lexed scanned.has_tokens.lexed

  pub heads_among : All (λ (c : tree.Clause). c.head.left ≤ length tokens) seen
  heads_among =
      let count = ap length same.0 in
      let spelled = ap length read.derived.spelled in
      subst (All (λ (c : tree.Clause). c.head.left ≤ length tokens)) read.derived.sees (heads_within read.derived.derivation [] (length tokens) (omega (arith, count, spelled)))

  pub are_lines : (lines : List ℕ) → Each (BeginsAt tokens places) seen lines → AreClauseLines text lines
  are_lines lines each = record {
    seen = seen;
    read = read;
    each = subst (λ ts. Each (BeginsAt ts read.places) seen lines) (sym same.0) (subst (λ ps. Each (BeginsAt tokens ps) seen lines) (sym same.1) each);
  }
