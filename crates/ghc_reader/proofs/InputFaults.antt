-- The fault of an input term: the first variable, or what is amiss in front of it.

use Rattle.ghc_reader.proofs.Words.{◌≡◌, ◌≢◌, ℕ, ◌+◌, ◌<◌, List, [], ◌∷◌, ◌++◌, length, take, drop, refl, sym, ap, ◌∙◌, subst, arith, append_assoc, length-append, ⊎_elim, take-append-drop, take-append-le, append-nil, eq-or-lt_of_le, take-append_seam, take-append-add, Token, first, NoVariable, StartsWithVariable, Tree, tree_of, Term, Input, term, input, Viable, FaultAt, EndsTerm, EndsWhole, ClosedFront, Found, Fault}
use Rattle.ghc_reader.specs.declared.token.Token.TheVariants as token
use Rattle.ghc_reader.proofs.Append.{term_append}
use Rattle.ghc_reader.proofs.OneTerm.{one_term}
use Rattle.ghc_reader.proofs.Faults.{here}
use Rattle.ghc_reader.proofs.QueryFaults.{none_ends}
use Rattle.ghc_reader.proofs.GoalFounds.{not_none}
use Rattle.ghc_reader.proofs.Closed.{no_variable, is_closed, filled, fill, fill_closed, fill_tokens, filled_same, filled_append, variable_among, no_variable_push, no_variable_front}

-- ---- a term that is the whole text

pub term_in_whole : (ts : List Token) (left : ℕ) → Fault Term term EndsTerm ts left → Fault Term term EndsWhole ts left
term_in_whole ts left f = record {
  front = f.front;
  rest = f.rest;
  split = f.split;
  count = f.count;
  goes_on = f.goes_on;
  stuck = λ us same d r p e. f.stuck us same d r (subst (EndsTerm d) (sym p) (none_ends d)) e;
}

pub behind_whole : (ts behind : List Token) (seen : Tree) → Found Term Tree term tree_of EndsTerm ts seen behind → behind ≢ [] → Fault Term term EndsWhole ts (length behind)
behind_whole ts behind seen x n =
    subst (λ l. Fault Term term EndsWhole l (length behind)) (sym x.spelled)
    (here Term term EndsWhole (λ l. term x.derivation l) behind (term_append x.derivation) x.derivation [] refl
    (λ us same d r p e.
    let s = one_term x.derivation d us r (subst (EndsTerm x.derivation) (sym same) x.stops) (subst (EndsTerm d) (sym p) (none_ends d)) e in
    not_none behind n (sym same ∙ ap first s.behind ∙ p)))

pub whole_found : (ts behind : List Token) (seen : Tree) → Found Term Tree term tree_of EndsTerm ts seen behind → behind ≡ [] → (d : Term) × (ts ≡ term d []) × (tree_of d ≡ seen)
whole_found ts behind seen x e = (x.derivation, x.spelled ∙ ap (term x.derivation) e, x.sees)

-- ---- without variables

-- tokens without variables that begin a term begin one without variables
viable_closed : (ts : List Token) → NoVariable ts → Viable Term term ts → Viable Input input ts
viable_closed ts n v = (
  record { term = fill v.0; closed = fill_closed v.0 },
  filled v.1,
  fill_tokens v.0 [] ∙ ap filled v.2 ∙ filled_append ts v.1 ∙ ap (λ l. l ++ filled v.1) (filled_same ts n),
)

viable_open : (ts : List Token) → Viable Input input ts → Viable Term term ts
viable_open ts v = (v.0.term, v.1, v.2)

-- no term without variables has a variable among its tokens
not_viable : (a : List Token) (v : List ℕ) → Viable Input input (a ++ token.Variable v ∷ []) → ⊥
not_viable a v x =
    variable_among a v x.1 (subst NoVariable (x.2 ∙ append_assoc a (token.Variable v ∷ []) x.1) (no_variable x.0.term [] x.0.closed tt))

closed_take : (n : ℕ) (ts : List Token) → NoVariable ts → NoVariable (take n ts)
closed_take n ts h = no_variable_front (take n ts) (drop n ts) (subst NoVariable (sym (take-append-drop n ts)) h)

-- a fault in front of the first variable
fault_before : (front rest : List Token) (n : ℕ) → NoVariable front → StartsWithVariable rest → FaultAt Term term front n → FaultAt Input input (front ++ rest) n
fault_before front rest n h s f = record {
  place = omega (arith, f.place, length-append front rest);
  before = subst (Viable Input input) (sym (take-append-le n front rest f.place)) (viable_closed (take n front) (closed_take n front h) f.before);
  token = λ less v. ⊎_elim (λ same. at_end rest s same less v) (λ inner. f.token inner (viable_open (take (n + 1) front) (subst (Viable Input input) (take-append-le (n + 1) front rest (omega (arith, inner))) v))) (eq-or-lt_of_le f.place);
  end = λ same i e. whole_text rest same i e;
}
  where
    at_end : (rest : List Token) → StartsWithVariable rest → n ≡ length front → n < length (front ++ rest) → Viable Input input (take (n + 1) (front ++ rest)) → ⊥
    at_end [] s same less v = omega (arith, same, less, length-append front [])
    at_end (token.Variable w ∷ ts) s same less v =
        not_viable front w (subst (Viable Input input) (ap (λ k. take (k + 1) (front ++ token.Variable w ∷ ts)) same ∙ take-append-add front (token.Variable w ∷ ts) 1) v)
    at_end ts s same less v = s

    whole_text : (rest : List Token) → n ≡ length (front ++ rest) → (i : Input) → input i [] ≢ front ++ rest
    whole_text [] same i e = f.end (omega (arith, same, length-append front [])) i.term (e ∙ append-nil front)
    whole_text (t ∷ ts) same i e = omega (arith, same, f.place, length-append front (t ∷ ts))

pub closed_fault : (ts front : List Token) (n : ℕ) → ClosedFront ts front → FaultAt Term term front n → FaultAt Input input ts n
closed_fault ts front n c f = subst (λ l. FaultAt Input input l n) (sym c.split) (fault_before front c.rest n c.closed c.stops f)

-- a term in front of the first variable, at which no input term goes on
variable_stops : (front rest : List Token) → NoVariable front → StartsWithVariable rest → rest ≢ [] → (d : Term) → front ≡ term d [] → FaultAt Input input (front ++ rest) (length front)
variable_stops front [] h s n d e = absurd (n refl)
variable_stops front (token.Variable w ∷ ts) h s n d e = record {
  place = omega (arith, length-append front (token.Variable w ∷ ts));
  before = subst (Viable Input input) (sym (take-append_seam front (token.Variable w ∷ ts))) (viable_closed front h (d, [], sym e ∙ sym (append-nil front)));
  token = λ less v. not_viable front w (subst (Viable Input input) (take-append-add front (token.Variable w ∷ ts) 1) v);
  end = λ same i x. omega (arith, same, length-append front (token.Variable w ∷ ts));
}
variable_stops front ts h s n d e = absurd s

pub at_variable : (ts front : List Token) → ClosedFront ts front → length front ≢ length ts → (d : Term) → front ≡ term d [] → FaultAt Input input ts (length front)
at_variable ts front c n d e =
    subst (λ l. FaultAt Input input l (length front)) (sym c.split) (variable_stops front c.rest c.closed c.stops (λ none. n (sym (ap length c.split ∙ ap (λ l. length (front ++ l)) none ∙ ap length (append-nil front)))) d e)

-- where no variable stands among the tokens, their term is an input term
pub closed_found : (ts front : List Token) (seen : Tree) → ClosedFront ts front → length front ≡ length ts → (d : Term) → front ≡ term d [] → tree_of d ≡ seen → (i : Input) × (ts ≡ input i []) × (tree_of i.term ≡ seen)
closed_found ts front seen c n d e sees =
    let same : ts ≡ front = whole_front c.rest c.split in
    (record { term = d; closed = (is_closed d [] (subst NoVariable e c.closed)).0 }, same ∙ e, sees)
  where
    whole_front : (rest : List Token) → ts ≡ front ++ rest → ts ≡ front
    whole_front [] split = split ∙ append-nil front
    whole_front (t ∷ rest) split = absurd (omega (arith, n, ap length split, length-append front (t ∷ rest)))

-- an input term has one derivation
pub one_input : (i : Input) (d : Term) → input i [] ≡ term d [] → tree_of i.term ≡ tree_of d
one_input i d e = ap tree_of (one_term i.term d [] [] (none_ends i.term) (none_ends d) e).derivation

-- ---- the loop

-- ts are tokens without a variable, and then rest
pub record ClosedSoFar (ts rest : List Token) : Type 0 where
  pub front : List Token
  pub split : ts ≡ front ++ rest
  pub closed : NoVariable front

pub closed_none : (ts : List Token) → ClosedSoFar ts ts
closed_none ts = record { front = []; split = refl; closed = tt }

pub closed_more : (ts rest after : List Token) (t : Token) → ClosedSoFar ts rest → rest ≡ t ∷ after → NoVariable (t ∷ []) → ClosedSoFar ts after
closed_more ts rest after t c e n = record {
  front = c.front ++ t ∷ [];
  split = c.split ∙ ap (λ l. c.front ++ l) e ∙ sym (append_assoc c.front (t ∷ []) after);
  closed = no_variable_push c.front t c.closed n;
}
