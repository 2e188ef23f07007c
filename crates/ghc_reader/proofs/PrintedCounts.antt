-- A text of printed goals has no more variables than the goals, and exceeds no limit where they are within the limits.
use Rattle.ghc_reader.proofs.Words.{same_name, ◌≡◌, ℕ, ◌+◌, ◌≤◌, Bool, true, false, List, [], ◌∷◌, ◌++◌, length, None, sym, ap, ◌∙◌, inl, inr, arith, cond, append_assoc, length-append, ◌||◌, not, bytes_eq, list_any, decimal, eq_by_cmp, append-nil, list_any-append, bytes_eq-Decides, VarName, name_cmp, variable_text, variables_of_goals, firsts, Goal, widest_goals, names_of_goals, is_unnamed, variables, first_exceeded, of_query, SaysGoalBy, Each, doing, IsPrintedAs, false≢true, nat_tests, false_from_ne_true}
use Rattle.ghc_term.specs.Goal as goal
use Rattle.ghc_reader.proofs.Counting.{and_one, one_more}
use Rattle.ghc_reader.proofs.Numbered.{is_seen, test_cases}
use Rattle.ghc_reader.proofs.NamesIn.{asked_called}

-- ---- variables

-- what is printed of a variable is not `_`
is_named : (x : VarName) → is_unnamed (variable_text x) ≡ false
is_named x = false_from_ne_true _ (λ same.
    let e = (bytes_eq-Decides (variable_text x) (95 ∷ [])).0 same in
    omega (arith, ap length e, length-append (decimal x.step) (95 ∷ decimal x.place)))

at_most_one : (b : Bool) (n : ℕ) → and_one b n ≤ n + 1
at_most_one b n = grind arith

-- The names met hold those of the variables seen.
abbrev AreMet : List (List ℕ) → List VarName → Type 0
AreMet met seen = (y : VarName) → is_seen y seen ≡ true → list_any (bytes_eq (variable_text y)) met ≡ true

still_met : (met : List (List ℕ)) (v w : List ℕ) → list_any (bytes_eq w) met ≡ true → list_any (bytes_eq w) (met ++ v ∷ []) ≡ true
still_met met v w found = list_any-append (bytes_eq w) met (v ∷ []) ∙ ap (λ b. b || (bytes_eq w v || false)) found

met_now : (met : List (List ℕ)) (v w : List ℕ) → w ≡ v → list_any (bytes_eq w) (met ++ v ∷ []) ≡ true
met_now met v w same = list_any-append (bytes_eq w) met (v ∷ []) ∙ grind (arith, (bytes_eq-Decides w v).1 same)

one_more_met : (met : List (List ℕ)) (v : List ℕ) (x : VarName) (seen : List VarName) → v ≡ variable_text x → AreMet met seen → AreMet (met ++ v ∷ []) (x ∷ seen)
one_more_met met v x seen printed known y found = elim (test_cases (eq_by_cmp name_cmp y x)) [
  | inl same ↦ met_now met v (variable_text y) (ap variable_text (same_name y x same) ∙ sym printed)
  | inr other ↦ still_met met v (variable_text y) (known y (sym (ap (λ a. a || is_seen y seen) other) ∙ found))
]

few_more : (vs met : List (List ℕ)) (xs seen : List VarName) → AreMet met seen → Each IsPrintedAs vs xs → variables (met ++ vs) ≤ variables met + length (firsts seen xs)
few_more [] met [] seen known h = omega (arith, ap variables (append-nil met))
few_more [] met (x ∷ xs) seen known h = absurd h
few_more (v ∷ vs) met [] seen known h = absurd h
few_more (v ∷ vs) met (x ∷ xs) seen known h = elim (test_cases (is_seen x seen)) [
  | inl found ↦
      let same : firsts seen (x ∷ xs) ≡ firsts seen xs = ap (λ t. cond t (firsts seen xs) (x ∷ firsts (x ∷ seen) xs)) found in
      let named : is_unnamed v ≡ false = ap is_unnamed h.0 ∙ is_named x in
      let there : list_any (bytes_eq v) met ≡ true = ap (λ w. list_any (bytes_eq w) met) h.0 ∙ known x found in
      let step : variables (met ++ v ∷ []) ≡ variables met = one_more met v ∙ (λ i. and_one (named i || not (there i)) (variables met)) in
      let rest = few_more vs (met ++ v ∷ []) xs seen (λ y e. still_met met v (variable_text y) (known y e)) h.1 in
      omega (arith, rest, step, ap length same, ap variables (append_assoc met (v ∷ []) vs))
  | inr new ↦
      let same : firsts seen (x ∷ xs) ≡ x ∷ firsts (x ∷ seen) xs = ap (λ t. cond t (firsts seen xs) (x ∷ firsts (x ∷ seen) xs)) new in
      let step = at_most_one (is_unnamed v || not (list_any (bytes_eq v) met)) (variables met) in
      let rest = few_more vs (met ++ v ∷ []) xs (x ∷ seen) (one_more_met met v x seen h.0 known) h.1 in
      omega (arith, rest, step, one_more met v, ap length same, ap variables (append_assoc met (v ∷ []) vs))
]

pub few_variables : (xs : List Goal) (gs : List goal.Goal) → Each (SaysGoalBy IsPrintedAs) (doing xs) gs → variables (names_of_goals xs) ≤ length (firsts [] (variables_of_goals gs))
few_variables xs gs says =
    omega (arith, few_more (names_of_goals xs) [] (variables_of_goals gs) [] (λ y e. absurd (false≢true e)) (asked_called IsPrintedAs xs gs says))

-- ---- limits

pub none_exceeded : (xs : List Goal) → widest_goals xs ≤ 255 → length xs ≤ 1000 → variables (names_of_goals xs) ≤ 1000 → first_exceeded (of_query xs) ≡ None
none_exceeded xs width many few = grind (arith, nat_tests)
