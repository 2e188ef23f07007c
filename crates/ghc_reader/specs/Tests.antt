-- The tests that a text has to pass, in their order, and its refusal where it does not pass one of them.
use Rattle.std.specs.Prelude.{◌≡◌, ℕ, ◌-◌, ◌<◌, ◌≤◌, Bool, true, false, List, [], length, Some, None, slice_get}
use Rattle.ghc_term.specs.declared.fault.Fault.{Fault}
use Rattle.ghc_term.specs.declared.fault.Fault.TheVariants as fault
use Rattle.ghc_term.specs.declared.limit.Limit.{Limit}
use Rattle.ghc_term.specs.declared.limit.Limit.TheVariants as limit
use Rattle.ghc_reader.specs.declared.token.Token.{Token}
use Rattle.ghc_reader.specs.declared.place.Place.{Place}
use Rattle.ghc_reader.specs.declared.lexer.value.Reserved.{Reserved}
use Rattle.ghc_reader.specs.declared.lexer.value.Reserved.TheVariants.{Refused, Allowed}
use Rattle.ghc_reader.specs.Places.{fault_at}
use Rattle.ghc_reader.specs.Lexed.{IsLexed, IsBadAt}
use Rattle.ghc_term.specs.Limit.{text_limit}
use Rattle.ghc_reader.specs.Depth.{IsTooDeep}
use Rattle.ghc_reader.specs.Viable.{FaultAt}
use Rattle.ghc_reader.specs.Grammar.{Program, Query, Input, program, query, input}
use Rattle.ghc_reader.specs.Derived.{clauses_of, query_of, tree_of}
use Rattle.ghc_reader.specs.Source.{Tree, Goal, Clause}
use Rattle.ghc_reader.specs.Reserved.{misplaced_program, misplaced_query, misplaced_body, first_place}
use Rattle.ghc_reader.specs.Limits.{first_exceeded, of_program, of_query, of_ask, of_term}

-- A kind of text: the derivations of its grammar, with the tokens and the tree of each; the places of what is misplaced in a
-- tree, each as the number of tokens that the text has left there; how much of what is limited a tree has; whether reserved
-- variables may stand in the text; and whether its length and its depth are tested.
pub record Kind : Type 1 where
  pub Derivation : Type 0
  pub Seen : Type 0
  pub spell : Derivation → List Token → List Token
  pub tree : Derivation → Seen
  pub misplaced : Seen → List ℕ
  pub amount : Seen → Limit → ℕ
  pub reserved : Reserved
  pub measured : Bool

-- the kind of text that lists the clauses of a program
abbrev pub a_program : Kind
a_program = record {
  Derivation = Program;
  Seen = List Clause;
  spell = program;
  tree = λ p. clauses_of p [];
  misplaced = misplaced_program;
  amount = of_program;
  reserved = Refused;
  measured = true;
}

-- the kind of text that has the goals of a query
abbrev pub a_query : Kind
a_query = record {
  Derivation = Query;
  Seen = List Goal;
  spell = query;
  tree = λ q. query_of q [];
  misplaced = misplaced_query;
  amount = of_query;
  reserved = Refused;
  measured = true;
}

-- what is asked for in mid-run: the grammar of a query, in which no stream stands
abbrev pub asked : Bool → (List Goal → Limit → ℕ) → Kind
asked measured amount = record {
  Derivation = Query;
  Seen = List Goal;
  spell = query;
  tree = λ q. query_of q [];
  misplaced = misplaced_body;
  amount = amount;
  reserved = Allowed;
  measured = measured;
}

-- the kind of text that asks for goals in mid-run, its length and its depth tested
abbrev pub an_ask : Kind
an_ask = asked true of_ask

-- the same as a history has it, of any length and depth
abbrev pub a_body : Kind
a_body = asked false of_query

-- the kind of text that is an input term, in which no variable stands
abbrev pub a_term : Kind
a_term = record {
  Derivation = Input;
  Seen = Tree;
  spell = input;
  tree = λ i. tree_of i.term;
  misplaced = λ _. [];
  amount = of_term;
  reserved = Refused;
  measured = true;
}

-- the refusal of the token with n tokens in front of it, or of the end where all are
abbrev pub IsFaultAt : List Place → ℕ → Fault → Type 0
IsFaultAt places n f = (place : Place) × (slice_get places n ≡ Some place) × (f ≡ fault_at place)

-- A text whose reserved variables are allowed or refused, and whose length and depth are tested or not.
module _ (reserved : Reserved) (measured : Bool) where
  -- The text is not too long, where that is tested; these are its tokens with their places, and no byte is bad.
  pub record HasTokens (text : List ℕ) (tokens : List Token) (places : List Place) : Type 0 where
    pub short : measured ≡ true → length text ≤ text_limit
    pub lexed : IsLexed reserved text tokens places

  -- Nor is it nested too deep, where that is tested.
  pub record IsShallow (text : List ℕ) (tokens : List Token) (places : List Place) : Type 0 where
    pub has_tokens : HasTokens text tokens places
    pub shallow : measured ≡ true → ¬ (IsTooDeep tokens)

  -- The tokens are nested too deep, and no earlier test refuses the text.
  pub record IsDeep (text : List ℕ) : Type 0 where
    pub tested : measured ≡ true
    pub tokens : List Token
    pub places : List Place
    pub has_tokens : HasTokens text tokens places
    pub deep : IsTooDeep tokens

  -- the refusal by one of the first three tests: the text is too long, has a bad byte, or is nested too deep
  pub data IsTokenRefusal (text : List ℕ) (f : Fault) : Type 0 where
    too_long : measured ≡ true → text_limit < length text → f ≡ fault.Limit limit.Text → IsTokenRefusal text f
    bad_byte : (place : Place) → (measured ≡ true → length text ≤ text_limit) → IsBadAt reserved text place → f ≡ fault_at place → IsTokenRefusal text f
    too_deep : IsDeep text → f ≡ fault.Limit limit.Depth → IsTokenRefusal text f

module _ (K : Kind) where
  -- The tokens are those of a derivation, and this is its tree.
  pub record IsDerived (text : List ℕ) (tokens : List Token) (places : List Place) (seen : K.Seen) : Type 0 where
    pub scanned : IsShallow K.reserved K.measured text tokens places
    pub derivation : K.Derivation
    pub spelled : tokens ≡ K.spell derivation []
    pub sees : K.tree derivation ≡ seen

  -- The text passes every test, and this is its tree: none of its heads and goals is misplaced, and it exceeds no limit.
  pub record IsRead (text : List ℕ) (seen : K.Seen) : Type 0 where
    pub tokens : List Token
    pub places : List Place
    pub derived : IsDerived text tokens places seen
    pub placed : first_place (K.misplaced seen) ≡ None
    pub within : first_exceeded (K.amount seen) ≡ None

  -- It is that of the first token such that the tokens up to it and with it begin no text of the kind, where the end of the text
  -- counts as a token; and no earlier test refuses the text.
  pub record IsSyntaxRefusal (text : List ℕ) (f : Fault) : Type 0 where
    pub tokens : List Token
    pub places : List Place
    pub scanned : IsShallow K.reserved K.measured text tokens places
    pub front : ℕ
    pub stuck : FaultAt K.Derivation K.spell tokens front
    pub refused : IsFaultAt places front f

  -- It is that of the first head or goal that is misplaced, and no earlier test refuses the text.
  pub record IsPlaceRefusal (text : List ℕ) (f : Fault) : Type 0 where
    pub tokens : List Token
    pub places : List Place
    pub seen : K.Seen
    pub derived : IsDerived text tokens places seen
    pub left : ℕ
    pub misplaced : first_place (K.misplaced seen) ≡ Some left
    pub refused : IsFaultAt places (length tokens - left) f

  -- It is that of the first limit that the text exceeds, and no earlier test refuses the text.
  pub record IsLimitRefusal (text : List ℕ) (f : Fault) : Type 0 where
    pub tokens : List Token
    pub places : List Place
    pub seen : K.Seen
    pub derived : IsDerived text tokens places seen
    pub placed : first_place (K.misplaced seen) ≡ None
    pub which : Limit
    pub exceeded : first_exceeded (K.amount seen) ≡ Some which
    pub refused : f ≡ fault.Limit which

  -- the refusal of a text of the kind, by the first test that it does not pass
  pub data IsRefusal (text : List ℕ) (f : Fault) : Type 0 where
    by_tokens : IsTokenRefusal K.reserved K.measured text f → IsRefusal text f
    by_syntax : IsSyntaxRefusal text f → IsRefusal text f
    by_place : IsPlaceRefusal text f → IsRefusal text f
    by_limit : IsLimitRefusal text f → IsRefusal text f

-- ---- a law

-- No text has two trees, or both a tree and a refusal, or two refusals.
pub record IsAnsweredOnce (K : Kind) (text : List ℕ) : Type 0 where
  pub one_tree : (a b : K.Seen) → IsRead K text a → IsRead K text b → a ≡ b
  pub never_both : (a : K.Seen) (f : Fault) → IsRead K text a → IsRefusal K text f → ⊥
  pub one_refusal : (f g : Fault) → IsRefusal K text f → IsRefusal K text g → f ≡ g

-- A text of any kind has at most one answer: its tree or its refusal.
abbrev pub NoTextIsAnsweredTwice : Type 0
NoTextIsAnsweredTwice = (text : List ℕ) → IsAnsweredOnce a_program text × IsAnsweredOnce a_query text × IsAnsweredOnce a_term text × IsAnsweredOnce an_ask text × IsAnsweredOnce a_body text
