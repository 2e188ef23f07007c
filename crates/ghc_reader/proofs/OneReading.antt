-- A text is read as one tree, or refused in one way.
use Rattle.ghc_reader.proofs.Words.{◌≡◌, ◌⊎◌, Bool, true, false, Result, Ok, Err, IfOk, IfErr, ℕ, ◌+◌, ◌-◌, ◌<◌, ◌≤◌, List, [], ◌++◌, length, take, drop, Some, None, refl, sym, ap, subst, ◌∙◌, inl, inr, arith, append_assoc, cases_lt, take-append-drop, take-take, Limit, ParseError, Token, Place, Reserved, Refused, fault_at, IsLexed, IsCutFault, IsLexFault, IsTooDeep, Viable, FaultAt, IfSyntax, a_term, HasTokens, IsShallow, IsDerived, IsRead, IsFaultAt, IsTokenRefusal, too_long, bad_byte, too_deep, IsSyntaxRefusal, IsPlaceRefusal, IsLimitRefusal, IsRefusal, IsAnsweredOnce, by_tokens, by_syntax, by_place, by_limit, first_place, Tree, first_exceeded, of_term, Program, Input, program, input, clauses_of, tree_of}
use Rattle.ghc_term.specs.declared.fault.Fault.{Fault}
use Rattle.ghc_term.specs.declared.fault.Fault.TheVariants as fault
use Rattle.ghc_term.specs.declared.limit.Limit.TheVariants as limit
use Rattle.ghc_reader.specs.declared.parse_error.ParseError.TheVariants as parse_error
use Rattle.ghc_reader.specs.Tests.{Kind}
use Rattle.ghc_reader.proofs.OneLexing.{one_lexing, never_both, one_bad_byte}
use Rattle.ghc_reader.proofs.OneClause.{one_program}
use Rattle.ghc_reader.proofs.InputFaults.{one_input}
use Rattle.ghc_reader.proofs.Whole.{no_fault_at}

-- ---- the first three tests

module _ (reserved : Reserved) where
  -- why a text has no tokens is a refusal of the text
  pub lex_refusal : (text : List ℕ) (f : Fault) → IsLexFault reserved text f → (f ≡ fault.Memory) ⊎ IsTokenRefusal reserved true text f
  lex_refusal text fault.Memory h = inl refl
  lex_refusal text (fault.Syntax line column) h = inr (bad_byte (record { line = line; column = column }) (λ _. h.0) h.1 refl)
  lex_refusal text (fault.Limit limit.Text) h = inr (too_long refl h refl)
  lex_refusal text f h = absurd h

-- the same of a text of any length and depth
pub any_tokens : (reserved : Reserved) (text : List ℕ) (ts : List Token) (ps : List Place) → IsLexed reserved text ts ps → IsShallow reserved false text ts ps
any_tokens reserved text ts ps lexed = record { has_tokens = record { short = λ e. cc; lexed = lexed }; shallow = λ e. cc }

pub cut_refusal : (reserved : Reserved) (text : List ℕ) (f : Fault) → IsCutFault reserved text f → (f ≡ fault.Memory) ⊎ IsTokenRefusal reserved false text f
cut_refusal reserved text f (inl memory) = inl memory
cut_refusal reserved text f (inr (place, bad, is)) = inr (bad_byte place (λ e. cc) bad is)

pub any_tokens_found : {T : Type 0} (reserved : Reserved) (text : List ℕ) (r : Result T Fault) (ts : T → List Token) (ps : T → List Place) → IfOk r (λ t. IsLexed reserved text (ts t) (ps t)) → IfOk r (λ t. IsShallow reserved false text (ts t) (ps t))
any_tokens_found reserved text r ts ps h = grind (arith, any_tokens)

pub cut_refusals : {T : Type 0} (reserved : Reserved) (text : List ℕ) (r : Result T Fault) → IfErr r (IsCutFault reserved text) → IfErr r (λ f. (f ≡ fault.Memory) ⊎ IsTokenRefusal reserved false text f)
cut_refusals reserved text (Ok t) h = h
cut_refusals reserved text (Err f) h = cut_refusal reserved text f h

module _ (reserved : Reserved) (measured : Bool) where
  one_tokens : (text : List ℕ) (ts us : List Token) (ps qs : List Place) → HasTokens reserved measured text ts ps → HasTokens reserved measured text us qs → (ts ≡ us) × (ps ≡ qs)
  one_tokens text ts us ps qs x y = one_lexing reserved text ts us ps qs x.lexed y.lexed

  -- a text that passes the first three tests is not refused by them
  no_token_refusal : (text : List ℕ) (ts : List Token) (ps : List Place) (f : Fault) → IsShallow reserved measured text ts ps → IsTokenRefusal reserved measured text f → ⊥
  no_token_refusal text ts ps f s (too_long tested long is) =
      let short = s.has_tokens.short tested in omega arith
  no_token_refusal text ts ps f s (bad_byte place short bad is) = never_both reserved text ts ps place s.has_tokens.lexed bad
  no_token_refusal text ts ps f s (too_deep d is) =
      let same = one_tokens text d.tokens ts d.places ps d.has_tokens s.has_tokens in
      s.shallow d.tested (subst IsTooDeep same.0 d.deep)

  one_token_refusal : (text : List ℕ) (f g : Fault) → IsTokenRefusal reserved measured text f → IsTokenRefusal reserved measured text g → f ≡ g
  one_token_refusal text f g (too_long tested long is) (too_long tested' long' is') = is ∙ sym is'
  one_token_refusal text f g (too_long tested long is) (bad_byte place short bad is') = let less = short tested in absurd (omega arith)
  one_token_refusal text f g (too_long tested long is) (too_deep d is') = let short = d.has_tokens.short tested in absurd (omega arith)
  one_token_refusal text f g (bad_byte place short bad is) (too_long tested long is') = let less = short tested in absurd (omega arith)
  one_token_refusal text f g (bad_byte place short bad is) (bad_byte place' short' bad' is') =
      is ∙ ap fault_at (one_bad_byte reserved text place place' bad bad') ∙ sym is'
  one_token_refusal text f g (bad_byte place short bad is) (too_deep d is') =
      absurd (never_both reserved text d.tokens d.places place d.has_tokens.lexed bad)
  one_token_refusal text f g (too_deep d is) (too_long tested long is') = let short = d.has_tokens.short tested in absurd (omega arith)
  one_token_refusal text f g (too_deep d is) (bad_byte place short bad is') =
      absurd (never_both reserved text d.tokens d.places place d.has_tokens.lexed bad)
  one_token_refusal text f g (too_deep d is) (too_deep d' is') = is ∙ sym is'

-- ---- the place of a fault

-- the beginning of the beginning of a text begins the text
viable_front : (C : Type 0) (spell : C → List Token → List Token) (ts : List Token) (n m : ℕ) → n ≤ m → Viable C spell (take m ts) → Viable C spell (take n ts)
viable_front C spell ts n m less (c, more, is) = (
  c,
  drop n (take m ts) ++ more,
  is ∙ ap (λ l. l ++ more) (sym (take-append-drop n (take m ts)) ∙ ap (λ l. l ++ drop n (take m ts)) (take-take n m ts less)) ∙ append_assoc (take n ts) (drop n (take m ts)) more,
)

no_earlier_fault : (C : Type 0) (spell : C → List Token → List Token) (ts : List Token) (n m : ℕ) → FaultAt C spell ts n → FaultAt C spell ts m → n < m → ⊥
no_earlier_fault C spell ts n m x y less =
    let place = y.place in x.token (omega arith) (viable_front C spell ts (n + 1) m (omega arith) y.before)

one_fault : (C : Type 0) (spell : C → List Token → List Token) (ts : List Token) (n m : ℕ) → FaultAt C spell ts n → FaultAt C spell ts m → n ≡ m
one_fault C spell ts n m x y = elim (cases_lt n m) [
  | inl before ↦ absurd (no_earlier_fault C spell ts n m x y before)
  | inr behind ↦ elim (cases_lt m n) [
    | inl before ↦ absurd (no_earlier_fault C spell ts m n y x before)
    | inr behind' ↦ omega arith
  ]
]

one_fault_at : (ps : List Place) (n : ℕ) (f g : Fault) → IsFaultAt ps n f → IsFaultAt ps n g → f ≡ g
one_fault_at ps n f g (p, at, is) (q, at', is') =
    let same : Some p ≡ Some q = sym at ∙ at' in cc

-- ---- all tests

module _ (K : Kind) where
  -- where a parse stopped is a refusal of the text
  pub parse_refusal : (text : List ℕ) (ts : List Token) (ps qs : List Place) → IsShallow K.reserved K.measured text ts ps → qs ≡ ps → (h : ParseError) → IfSyntax h (FaultAt K.Derivation K.spell ts) → (f : Fault) → (h ≡ parse_error.Memory → f ≡ fault.Memory) → IfSyntax h (λ n. IsFaultAt qs n f) → (f ≡ fault.Memory) ⊎ IsRefusal K text f
  parse_refusal text ts ps qs s same parse_error.Memory stuck f memory at = inl (memory refl)
  parse_refusal text ts ps qs s same (parse_error.Syntax n) stuck f memory at =
      inr (by_syntax (record { tokens = ts; places = ps; scanned = s; front = n; stuck = stuck; refused = subst (λ l. IsFaultAt l n f) same at }))

  -- where one of the first three tests refuses a text, that is its refusal
  pub token_refusal : (text : List ℕ) (f : Fault) → (f ≡ fault.Memory) ⊎ IsTokenRefusal K.reserved K.measured text f → (f ≡ fault.Memory) ⊎ IsRefusal K text f
  token_refusal text f (inl memory) = inl memory
  token_refusal text f (inr refused) = inr (by_tokens refused)

module _ (K : Kind) (one : (d e : K.Derivation) → K.spell d [] ≡ K.spell e [] → K.tree d ≡ K.tree e) where
  one_tree : (text : List ℕ) (ts us : List Token) (ps qs : List Place) (a b : K.Seen) → IsDerived K text ts ps a → IsDerived K text us qs b → a ≡ b
  one_tree text ts us ps qs a b x y =
      let same = one_tokens K.reserved K.measured text ts us ps qs x.scanned.has_tokens y.scanned.has_tokens in
      sym x.sees ∙ one x.derivation y.derivation (sym x.spelled ∙ same.0 ∙ y.spelled) ∙ y.sees

  -- a text that has a derivation has no fault
  no_syntax_refusal : (text : List ℕ) (ts : List Token) (ps : List Place) (a : K.Seen) (f : Fault) → IsDerived K text ts ps a → IsSyntaxRefusal K text f → ⊥
  no_syntax_refusal text ts ps a f x y =
      let same = one_tokens K.reserved K.measured text y.tokens ts y.places ps y.scanned.has_tokens x.scanned.has_tokens in
      no_fault_at K.Derivation K.spell y.tokens y.front y.stuck x.derivation (same.0 ∙ x.spelled)

  never_refused : (text : List ℕ) (a : K.Seen) (f : Fault) → IsRead K text a → IsRefusal K text f → ⊥
  never_refused text a f x (by_tokens y) = no_token_refusal K.reserved K.measured text x.tokens x.places f x.derived.scanned y
  never_refused text a f x (by_syntax y) = no_syntax_refusal text x.tokens x.places a f x.derived y
  never_refused text a f x (by_place y) =
      let same = one_tree text x.tokens y.tokens x.places y.places a y.seen x.derived y.derived in
      let clash : None ≡ Some y.left = sym x.placed ∙ ap (λ s. first_place (K.misplaced s)) same ∙ y.misplaced in cc
  never_refused text a f x (by_limit y) =
      let same = one_tree text x.tokens y.tokens x.places y.places a y.seen x.derived y.derived in
      let clash : None ≡ Some y.which = sym x.within ∙ ap (λ s. first_exceeded (K.amount s)) same ∙ y.exceeded in cc

  one_syntax_refusal : (text : List ℕ) (f g : Fault) → IsSyntaxRefusal K text f → IsSyntaxRefusal K text g → f ≡ g
  one_syntax_refusal text f g x y =
      let same = one_tokens K.reserved K.measured text x.tokens y.tokens x.places y.places x.scanned.has_tokens y.scanned.has_tokens in
      let front = one_fault K.Derivation K.spell y.tokens x.front y.front (subst (λ l. FaultAt K.Derivation K.spell l x.front) same.0 x.stuck) y.stuck in
      one_fault_at y.places y.front f g (subst (λ n. IsFaultAt y.places n f) front (subst (λ l. IsFaultAt l x.front f) same.1 x.refused)) y.refused

  one_place_refusal : (text : List ℕ) (f g : Fault) → IsPlaceRefusal K text f → IsPlaceRefusal K text g → f ≡ g
  one_place_refusal text f g x y =
      let same = one_tokens K.reserved K.measured text x.tokens y.tokens x.places y.places x.derived.scanned.has_tokens y.derived.scanned.has_tokens in
      let tree = one_tree text x.tokens y.tokens x.places y.places x.seen y.seen x.derived y.derived in
      let first : Some x.left ≡ Some y.left = sym x.misplaced ∙ ap (λ s. first_place (K.misplaced s)) tree ∙ y.misplaced in
      let left : x.left ≡ y.left = cc in
      let front : length x.tokens - x.left ≡ length y.tokens - y.left = λ i. length (same.0 i) - left i in
      one_fault_at y.places (length y.tokens - y.left) f g
      (subst (λ n. IsFaultAt y.places n f) front (subst (λ l. IsFaultAt l (length x.tokens - x.left) f) same.1 x.refused)) y.refused

  one_limit_refusal : (text : List ℕ) (f g : Fault) → IsLimitRefusal K text f → IsLimitRefusal K text g → f ≡ g
  one_limit_refusal text f g x y =
      let tree = one_tree text x.tokens y.tokens x.places y.places x.seen y.seen x.derived y.derived in
      let first : Some x.which ≡ Some y.which = sym x.exceeded ∙ ap (λ s. first_exceeded (K.amount s)) tree ∙ y.exceeded in
      let which : x.which ≡ y.which = cc in
      x.refused ∙ ap fault.Limit which ∙ sym y.refused

  -- what is misplaced is refused before a limit is
  no_limit_refusal : (text : List ℕ) (f g : Fault) → IsPlaceRefusal K text f → IsLimitRefusal K text g → ⊥
  no_limit_refusal text f g x y =
      let tree = one_tree text x.tokens y.tokens x.places y.places x.seen y.seen x.derived y.derived in
      let clash : Some x.left ≡ None = sym x.misplaced ∙ ap (λ s. first_place (K.misplaced s)) tree ∙ y.placed in cc

  pub one_refusal : (text : List ℕ) (f g : Fault) → IsRefusal K text f → IsRefusal K text g → f ≡ g
  one_refusal text f g (by_tokens x) (by_tokens y) = one_token_refusal K.reserved K.measured text f g x y
  one_refusal text f g (by_tokens x) (by_syntax y) = absurd (no_token_refusal K.reserved K.measured text y.tokens y.places f y.scanned x)
  one_refusal text f g (by_tokens x) (by_place y) = absurd (no_token_refusal K.reserved K.measured text y.tokens y.places f y.derived.scanned x)
  one_refusal text f g (by_tokens x) (by_limit y) = absurd (no_token_refusal K.reserved K.measured text y.tokens y.places f y.derived.scanned x)
  one_refusal text f g (by_syntax x) (by_tokens y) = absurd (no_token_refusal K.reserved K.measured text x.tokens x.places g x.scanned y)
  one_refusal text f g (by_syntax x) (by_syntax y) = one_syntax_refusal text f g x y
  one_refusal text f g (by_syntax x) (by_place y) =
      absurd (no_syntax_refusal text y.tokens y.places y.seen f y.derived x)
  one_refusal text f g (by_syntax x) (by_limit y) =
      absurd (no_syntax_refusal text y.tokens y.places y.seen f y.derived x)
  one_refusal text f g (by_place x) (by_tokens y) = absurd (no_token_refusal K.reserved K.measured text x.tokens x.places g x.derived.scanned y)
  one_refusal text f g (by_place x) (by_syntax y) =
      absurd (no_syntax_refusal text x.tokens x.places x.seen g x.derived y)
  one_refusal text f g (by_place x) (by_place y) = one_place_refusal text f g x y
  one_refusal text f g (by_place x) (by_limit y) = absurd (no_limit_refusal text f g x y)
  one_refusal text f g (by_limit x) (by_tokens y) = absurd (no_token_refusal K.reserved K.measured text x.tokens x.places g x.derived.scanned y)
  one_refusal text f g (by_limit x) (by_syntax y) =
      absurd (no_syntax_refusal text x.tokens x.places x.seen g x.derived y)
  one_refusal text f g (by_limit x) (by_place y) = absurd (no_limit_refusal text g f y x)
  one_refusal text f g (by_limit x) (by_limit y) = one_limit_refusal text f g x y

  pub answered_once : (text : List ℕ) → IsAnsweredOnce K text
  answered_once text = record {
    one_tree = λ a b x y. one_tree text x.tokens y.tokens x.places y.places a b x.derived y.derived;
    never_both = λ a f x y. never_refused text a f x y;
    one_refusal = λ f g x y. one_refusal text f g x y;
  }

-- the trees of one list of tokens
pub one_program_tree : (p q : Program) → program p [] ≡ program q [] → clauses_of p [] ≡ clauses_of q []
one_program_tree p q e = ap (λ x. clauses_of x []) (one_program p q e)

pub one_input_tree : (i j : Input) → input i [] ≡ input j [] → tree_of i.term ≡ tree_of j.term
one_input_tree i j e = one_input i j.term e

-- the last test of an input term
module _ (text : List ℕ) (ts : List Token) (ps : List Place) (t : Tree) (s : IsShallow Refused true text ts ps) (found : (i : Input) × (ts ≡ input i []) × (tree_of i.term ≡ t)) where
  term_derived : IsDerived a_term text ts ps t
  term_derived = record { scanned = s; derivation = found.0; spelled = found.1; sees = found.2 }

  pub term_limit_refusal : (l : Limit) → first_exceeded (of_term t) ≡ Some l → IsRefusal a_term text (fault.Limit l)
  term_limit_refusal l e =
      by_limit (record { tokens = ts; places = ps; seen = t; derived = term_derived; placed = refl; which = l; exceeded = e; refused = refl })

  pub term_read : first_exceeded (of_term t) ≡ None → IsRead a_term text t
  term_read e = record { tokens = ts; places = ps; derived = term_derived; placed = refl; within = e }
