-- Goals that the grammar has a text for are, printed, read again as themselves.
use Rattle.ghc_reader.proofs.Words.{◌≡◌, ℕ, true, false, List, [], ◌∷◌, ◌++◌, length, refl, sym, ap, ◌∙◌, inl, inr, arith, Some, None, codes, VarName, In, variable_text, variables_of_goals, firsts, IsNameText, IsRefusedToken, token_places, start, place_behind, spelled, Allowed, body, last, plain, without, query_of, first_place, first_exceeded, of_query, IsWithinLimits, an_ask, a_body, IsRead, goals_text, HasNumbers, IsWritableGoal, IsPrintedAs, IsSaidIn, IsReadAs}
use Rattle.ghc_term.specs.Goal.{Goal}
use Rattle.ghc_reader.specs.declared.token.Token.TheVariants as token
use Rattle.ghc_reader.specs.Grammar as grammar
use Rattle.ghc_reader.specs.Source as source
use Rattle.ghc_reader.proofs.TokenTexts.{pieces_of, text_of, spaced_lexed}
use Rattle.ghc_reader.proofs.PrintedNames.{IsPrintedVariable, variable_run, numbers_back}
use Rattle.ghc_reader.proofs.PrintedCounts.{few_variables, none_exceeded}
use Rattle.ghc_reader.proofs.AskReadings.{within_query}
use Rattle.ghc_reader.proofs.PrintedBodies.{goals_meant, goals_lexed}

-- each variable is called by what is printed of it
call_by : (x : VarName) → HasNumbers x → (v : List ℕ) × IsPrintedAs v x × IsPrintedVariable v
call_by x numbers = (variable_text x, refl, record { named = x; printed = refl; numbers = numbers })

-- and such a name is not refused where a text may hold it
kept : (v : List ℕ) → IsPrintedVariable v → ¬ (IsRefusedToken Allowed (Some (token.Variable v)))
kept v p great =
    let numbered = great.2 in
    let by = numbered.2 in
    let back = numbers_back p.named p.numbers numbered.0 numbered.1 by.0 by.1 (sym p.printed ∙ by.2) in
    elim great.3 [ inl first ↦ absurd (omega (arith, first, numbered.3, back.0, p.numbers.step)) | inr second ↦ absurd (omega (arith, second, numbered.4, back.1, p.numbers.place)) ]

-- The text says the goals, and exceeds no limit where the goals and their variables are within the limits.
pub record IsAgain (text : List ℕ) (gs : List Goal) : Type 0 where
  pub said : IsSaidIn IsPrintedAs text gs
  pub within : IsWithinLimits gs (length (firsts [] (variables_of_goals gs))) → first_exceeded (of_query (query_of said.derivation [])) ≡ None

true_name : IsNameText (codes "true")
true_name = (refl, refl, λ e. cc)

none_again : IsAgain (codes "true") []
none_again =
    let tokens = token.Name (codes "true") ∷ [] in
    record {
      said = record {
        tokens = tokens;
        places = token_places start (pieces_of tokens []) ++ place_behind start (text_of tokens []) ∷ [];
        lexed = spaced_lexed Allowed IsPrintedVariable variable_run kept tokens ((refl, true_name), tt);
        derivation = plain (last (grammar.goal (codes "true") without));
        spelled = refl;
        says = tt;
        placed = refl;
      };
      within = λ _. refl;
    }

pub goals_again : (gs : List Goal) → ((g : Goal) → In g gs → IsWritableGoal HasNumbers g) → IsAgain (goals_text gs) gs
goals_again [] w = none_again
goals_again (g ∷ gs) w =
    let m = goals_meant HasNumbers IsPrintedAs IsPrintedVariable call_by (λ v x called. called) Allowed variable_run kept g gs w in
    record {
      said = record {
        tokens = body m.body_is [];
        places = token_places start m.pieces ++ place_behind start (spelled m.pieces []) ∷ [];
        lexed = goals_lexed HasNumbers IsPrintedAs IsPrintedVariable call_by (λ v x called. called) Allowed variable_run kept g gs m;
        derivation = plain m.body_is;
        spelled = refl;
        says = m.says;
        placed = m.placed;
      };
      within = λ limits.
          none_exceeded (query_of (plain m.body_is) []) m.width (omega (arith, m.many, limits.goals)) (omega (arith, few_variables (query_of (plain m.body_is) []) (g ∷ gs) m.says, limits.variables));
    }

-- a text that says goals and exceeds no limit is read as them
no_test : {X : Type 0} → false ≡ true → X
no_test e = cc

pub goals_read : (gs : List Goal) → ((g : Goal) → In g gs → IsWritableGoal HasNumbers g) → IsWithinLimits gs (length (firsts [] (variables_of_goals gs))) → IsReadAs IsPrintedAs (goals_text gs) gs
goals_read gs w limits =
    let again = goals_again gs w in
    let s = again.said in
    let read : IsRead a_body (goals_text gs) (query_of s.derivation []) = record {
      tokens = s.tokens;
      places = s.places;
      derived = record {
        scanned = record { has_tokens = record { short = λ e. no_test e; lexed = s.lexed }; shallow = λ e. no_test e };
        derivation = s.derivation;
        spelled = s.spelled;
        sees = refl;
      };
      placed = ap first_place s.placed;
      within = again.within limits;
    } in
    (query_of s.derivation [], read, s.says)

pub asked_is_body : (text : List ℕ) (seen : List source.Goal) → IsRead an_ask text seen → IsRead a_body text seen
asked_is_body text seen read = record {
  tokens = read.tokens;
  places = read.places;
  derived = record {
    scanned = record { has_tokens = record { short = λ e. no_test e; lexed = read.derived.scanned.has_tokens.lexed }; shallow = λ e. no_test e };
    derivation = read.derived.derivation;
    spelled = read.derived.spelled;
    sees = read.derived.sees;
  };
  placed = read.placed;
  within = within_query seen read.within;
}
