-- Terms without variables have tokens without variables, and the other way round.

use Rattle.ghc_reader.proofs.Words.{◌≡◌, ℕ, List, [], ◌∷◌, ◌++◌, map, refl, ap, ◌∙◌, map-append, Open, Close, OpenList, CloseList, Comma, Bar, Token, NoVariable, Term, variable, integer, call, list, Arguments, without, within, Rest, closed, whole, partial, Terms, one, more, term, arguments, rest, terms, AreClosedArguments, IsClosedRest}
use Rattle.ghc_reader.specs.declared.token.Token.TheVariants as token
use Rattle.ghc_reader.proofs.Append.{some_name}
use Rattle.ghc_reader.specs.Grammar.{IsClosed, AreClosed}

mutual
  -- no variable is among the tokens of a closed term
  pub no_variable : (c : Term) (ts : List Token) → IsClosed c → NoVariable ts → NoVariable (term c ts)
  no_variable (variable v) ts h n = h
  no_variable (integer k) ts h n = n
  no_variable (call f x) ts h n = no_variable_arguments x ts h n
  no_variable (list r) ts h n = no_variable_rest r ts h n

  no_variable_arguments : (c : Arguments) (ts : List Token) → AreClosedArguments c → NoVariable ts → NoVariable (arguments c ts)
  no_variable_arguments without ts h n = n
  no_variable_arguments (within x) ts h n = no_variable_terms x (token.Mark Close ∷ ts) h n

  no_variable_rest : (c : Rest) (ts : List Token) → IsClosedRest c → NoVariable ts → NoVariable (rest c ts)
  no_variable_rest closed ts h n = n
  no_variable_rest (whole x) ts h n = no_variable_terms x (token.Mark CloseList ∷ ts) h n
  no_variable_rest (partial x t) ts h n = no_variable_terms x (token.Mark Bar ∷ term t (token.Mark CloseList ∷ ts)) h.0 (no_variable t (token.Mark CloseList ∷ ts) h.1 n)

  no_variable_terms : (c : Terms) (ts : List Token) → AreClosed c → NoVariable ts → NoVariable (terms c ts)
  no_variable_terms (one t) ts h n = no_variable t ts h n
  no_variable_terms (more t x) ts h n = no_variable t (token.Mark Comma ∷ terms x ts) h.0 (no_variable_terms x ts h.1 n)

mutual
  -- a term among whose tokens is no variable is closed
  pub is_closed : (c : Term) (ts : List Token) → NoVariable (term c ts) → IsClosed c × NoVariable ts
  is_closed (variable v) ts n = absurd n
  is_closed (integer k) ts n = (tt, n)
  is_closed (call f x) ts n = are_closed_arguments x ts n
  is_closed (list r) ts n = is_closed_rest r ts n

  are_closed_arguments : (c : Arguments) (ts : List Token) → NoVariable (arguments c ts) → AreClosedArguments c × NoVariable ts
  are_closed_arguments without ts n = (tt, n)
  are_closed_arguments (within x) ts n = are_closed x (token.Mark Close ∷ ts) n

  is_closed_rest : (c : Rest) (ts : List Token) → NoVariable (rest c ts) → IsClosedRest c × NoVariable ts
  is_closed_rest closed ts n = (tt, n)
  is_closed_rest (whole x) ts n = are_closed x (token.Mark CloseList ∷ ts) n
  is_closed_rest (partial x t) ts n =
      let items = are_closed x (token.Mark Bar ∷ term t (token.Mark CloseList ∷ ts)) n in
      let tail = is_closed t (token.Mark CloseList ∷ ts) items.1 in
      ((items.0, tail.0), tail.1)

  are_closed : (c : Terms) (ts : List Token) → NoVariable (terms c ts) → AreClosed c × NoVariable ts
  are_closed (one t) ts n = is_closed t ts n
  are_closed (more t x) ts n =
      let head = is_closed t (token.Mark Comma ∷ terms x ts) n in
      let others = are_closed x ts head.1 in
      ((head.0, others.0), others.1)

-- a name in the place of a variable
abbrev filled_token : Token → Token
filled_token (token.Variable v) = token.Name some_name
filled_token t = t

abbrev pub filled : List Token → List Token
filled ts = map filled_token ts

-- names in the places of all variables
abbrev mutual
  pub fill : Term → Term
  fill (variable v) = call some_name without
  fill (integer k) = integer k
  fill (call f x) = call f (fill_arguments x)
  fill (list r) = list (fill_rest r)

  fill_arguments : Arguments → Arguments
  fill_arguments without = without
  fill_arguments (within x) = within (fill_terms x)

  fill_rest : Rest → Rest
  fill_rest closed = closed
  fill_rest (whole x) = whole (fill_terms x)
  fill_rest (partial x t) = partial (fill_terms x) (fill t)

  fill_terms : Terms → Terms
  fill_terms (one t) = one (fill t)
  fill_terms (more t x) = more (fill t) (fill_terms x)

mutual
  pub fill_closed : (c : Term) → IsClosed (fill c)
  fill_closed (call f x) = fill_closed_arguments x
  fill_closed (list r) = fill_closed_rest r
  fill_closed c = tt

  fill_closed_arguments : (c : Arguments) → AreClosedArguments (fill_arguments c)
  fill_closed_arguments without = tt
  fill_closed_arguments (within x) = fill_closed_terms x

  fill_closed_rest : (c : Rest) → IsClosedRest (fill_rest c)
  fill_closed_rest closed = tt
  fill_closed_rest (whole x) = fill_closed_terms x
  fill_closed_rest (partial x t) = (fill_closed_terms x, fill_closed t)

  fill_closed_terms : (c : Terms) → AreClosed (fill_terms c)
  fill_closed_terms (one t) = fill_closed t
  fill_closed_terms (more t x) = (fill_closed t, fill_closed_terms x)

mutual
  pub fill_tokens : (c : Term) (ts : List Token) → term (fill c) (filled ts) ≡ filled (term c ts)
  fill_tokens (call f x) ts = ap (λ l. token.Name f ∷ l) (fill_tokens_arguments x ts)
  fill_tokens (list r) ts = ap (λ l. token.Mark OpenList ∷ l) (fill_tokens_rest r ts)
  fill_tokens c ts = refl

  fill_tokens_arguments : (c : Arguments) (ts : List Token) → arguments (fill_arguments c) (filled ts) ≡ filled (arguments c ts)
  fill_tokens_arguments without ts = refl
  fill_tokens_arguments (within x) ts = ap (λ l. token.Mark Open ∷ l) (fill_tokens_terms x (token.Mark Close ∷ ts))

  fill_tokens_rest : (c : Rest) (ts : List Token) → rest (fill_rest c) (filled ts) ≡ filled (rest c ts)
  fill_tokens_rest closed ts = refl
  fill_tokens_rest (whole x) ts = fill_tokens_terms x (token.Mark CloseList ∷ ts)
  fill_tokens_rest (partial x t) ts =
      ap (λ l. terms (fill_terms x) (token.Mark Bar ∷ l)) (fill_tokens t (token.Mark CloseList ∷ ts))
      ∙ fill_tokens_terms x (token.Mark Bar ∷ term t (token.Mark CloseList ∷ ts))

  fill_tokens_terms : (c : Terms) (ts : List Token) → terms (fill_terms c) (filled ts) ≡ filled (terms c ts)
  fill_tokens_terms (one t) ts = fill_tokens t ts
  fill_tokens_terms (more t x) ts =
      ap (λ l. term (fill t) (token.Mark Comma ∷ l)) (fill_tokens_terms x ts) ∙ fill_tokens t (token.Mark Comma ∷ terms x ts)

-- tokens among which is no variable stay
pub filled_same : (ts : List Token) → NoVariable ts → filled ts ≡ ts
filled_same [] n = refl
filled_same (token.Variable v ∷ ts) n = absurd n
filled_same (t ∷ ts) n = ap (λ l. t ∷ l) (filled_same ts n)

pub filled_append : (a b : List Token) → filled (a ++ b) ≡ filled a ++ filled b
filled_append a b = map-append filled_token a b

-- a variable stays among the tokens after others
pub variable_among : (a : List Token) (v : List ℕ) (b : List Token) → NoVariable (a ++ token.Variable v ∷ b) → ⊥
variable_among [] v b n = n
variable_among (token.Variable w ∷ a) v b n = n
variable_among (t ∷ a) v b n = variable_among a v b n

-- one more token that is no variable
pub no_variable_push : (a : List Token) (t : Token) → NoVariable a → NoVariable (t ∷ []) → NoVariable (a ++ t ∷ [])
no_variable_push [] t n m = m
no_variable_push (token.Variable w ∷ a) t n m = absurd n
no_variable_push (u ∷ a) t n m = no_variable_push a t n m

-- the front of tokens among which is no variable
pub no_variable_front : (a b : List Token) → NoVariable (a ++ b) → NoVariable a
no_variable_front [] b n = tt
no_variable_front (token.Variable w ∷ a) b n = absurd n
no_variable_front (t ∷ a) b n = no_variable_front a b n
