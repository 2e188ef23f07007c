-- From the fault of a part that is the whole text to the fault of the text.
use Rattle.ghc_reader.proofs.Words.{◌≡◌, ◌≢◌, ℕ, ◌+◌, ◌-◌, List, Option, None, [], ◌∷◌, ◌++◌, length, true, false, refl, sym, ap, ◌∙◌, subst, arith, append_assoc, length-append, drop, ⊎_elim, ◌==◌, nat_tests, take-append-drop, eq-or-lt_of_le, take-append_seam, take-append-add, Stop, Token, first, Query, plain, stopped, query, query_of, goals_of, FaultAt, Fault}
use Rattle.ghc_reader.specs.declared.token.Token.TheVariants as token
use Rattle.ghc_reader.proofs.Ends.{stop_ends_body}
use Rattle.ghc_reader.proofs.OneGoal.{one_body}
use Rattle.ghc_reader.proofs.QueryFaults.{none_ends_body}

pub is_nothing : (xs : List Token) → true ≡ (length xs == 0) → xs ≡ []
is_nothing [] e = refl
is_nothing (x ∷ xs) e = grind (arith, nat_tests)

pub not_nothing : (xs : List Token) → false ≡ (length xs == 0) → xs ≢ []
not_nothing xs e h = grind (arith, nat_tests)

module _ {C : Type 0} {spell : C → List Token → List Token} (Ends : C → Option Token → Type 0) (ends : (c : C) → Ends c None) where
  fault_of : (front rest : List Token) → ((q : C) × (more : List Token) × (front ++ more ≡ spell q [])) → ((us : List Token) → first us ≡ first rest → (q : C) (behind : List Token) → Ends q (first behind) → front ++ us ≡ spell q behind → ⊥) → FaultAt C spell (front ++ rest) (length front)
  fault_of front [] g stuck = record {
    place = omega (arith, length-append front []);
    before = (g.0, g.1, sym g.2 ∙ ap (λ l. l ++ g.1) (sym (take-append_seam front [])));
    token = λ h v. omega (arith, length-append front []);
    end = λ h q e. stuck [] refl q [] (ends q) (sym e);
  }
  fault_of front (t ∷ rest) g stuck = record {
    place = omega (arith, length-append front (t ∷ rest));
    before = (g.0, g.1, sym g.2 ∙ ap (λ l. l ++ g.1) (sym (take-append_seam front (t ∷ rest))));
    token = λ h v.
        stuck (t ∷ v.1) refl v.0 [] (ends v.0) (sym (v.2 ∙ ap (λ l. l ++ v.1) (take-append-add front (t ∷ rest) 1) ∙ append_assoc front (t ∷ []) v.1));
    end = λ h q e. omega (arith, length-append front (t ∷ rest));
  }

  pub fault_in : (ts : List Token) (left : ℕ) → Fault C spell Ends ts left → FaultAt C spell ts (length ts - left)
  fault_in ts left f =
      let n : length ts - left ≡ length f.front = omega (arith, ap length f.split, length-append f.front f.rest, f.count) in
      subst (FaultAt C spell ts) (sym n) (subst (λ l. FaultAt C spell l (length f.front)) (sym f.split) (fault_of f.front f.rest f.goes_on f.stuck))

  -- a fault is in no text of the grammar
  pub no_fault_in : (ts : List Token) (left : ℕ) (q : C) → ts ≡ spell q [] → Fault C spell Ends ts left → ⊥
  no_fault_in ts left q e f = f.stuck f.rest refl q [] (ends q) (sym f.split ∙ e)

-- a text has one derivation, but for the stop at its end
pub one_query : (p q : Query) → query p [] ≡ query q [] → query_of p [] ≡ query_of q []
one_query (plain x) (plain y) e = ap (λ b. goals_of b []) (one_body x y [] [] (none_ends_body x) (none_ends_body y) e).derivation
one_query (plain x) (stopped y) e =
    let s = one_body x y [] (token.Mark Stop ∷ []) (none_ends_body x) (stop_ends_body y) e in
    cc
one_query (stopped x) (plain y) e =
    let s = one_body x y (token.Mark Stop ∷ []) [] (stop_ends_body x) (none_ends_body y) e in
    cc
one_query (stopped x) (stopped y) e = ap (λ b. goals_of b (token.Mark Stop ∷ [])) (one_body x y (token.Mark Stop ∷ []) (token.Mark Stop ∷ []) (stop_ends_body x) (stop_ends_body y) e).derivation

-- a text of the grammar has no fault
pub no_fault_at : (C : Type 0) (spell : C → List Token → List Token) (ts : List Token) (n : ℕ) → FaultAt C spell ts n → (c : C) → ts ≡ spell c [] → ⊥
no_fault_at C spell ts n f c e =
    ⊎_elim
    (λ same. f.end same c (sym e))
    (λ less. f.token less (c, drop (n + 1) ts, sym e ∙ sym (take-append-drop (n + 1) ts)))
    (eq-or-lt_of_le f.place)
