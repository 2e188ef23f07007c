-- What is asked for in mid-run: which variables of a state its names name, and what holds of it.
use Rattle.ghc_reader.proofs.Words.{◌≡◌, ◌≢◌, ℕ, ◌+◌, ◌<◌, List, [], ◌∷◌, ◌++◌, length, take, get_or, Option, Some, None, sym, ap, ◌∙◌, subst, inl, inr, arith, slice_get, MatchOption, bytes_eq, cond, HashMap, Updates, length-take-le, take_more, VarName, variables_of_goals, Goal, IsNumberedAs, greatest_number, Names, blank, Each, SaysGoal, doing, IsFresh, IsTable, MeetsAll, WrittenAsk, IsUnnumbered, IsNaming, of_state, of_no_step, is_new, SaysAsk}
use Rattle.std.specs.HashMap.{get}
use Rattle.ghc_reader.specs.WrittenAsk.{of_query}
use Rattle.ghc_reader.proofs.Names.{get_left, get_push, table_more}
use Rattle.ghc_reader.proofs.Numbered.{met_are_named}
use Rattle.ghc_reader.proofs.GoalsLowered.{each_push}

taken : (names : Names) (i : ℕ) (v : List ℕ) → i < length names → v ≡ get_or names i v → take (i + 1) names ≡ take i names ++ v ∷ []
taken names i v less is = take_more names i v less ∙ ap (λ y. take i names ++ y ∷ []) (sym is)

-- ---- the table of a query's names

-- `_` is not in the table
pub table_blank : (found : List ℕ → Option ℕ) (names : Names) (v : List ℕ) → v ≡ blank → IsTable found names → IsTable found (names ++ v ∷ [])
table_blank found names v is table = λ q. by_row q (found q) (table q)
  where
    by_row : (q : List ℕ) (o : Option ℕ) → MatchOption o (IsFresh names q) (λ k. (i : ℕ) × (k ≡ i + 1) × (slice_get names i ≡ Some q) × (q ≢ blank)) → MatchOption o (IsFresh (names ++ v ∷ []) q) (λ k. (i : ℕ) × (k ≡ i + 1) × (slice_get (names ++ v ∷ []) i ≡ Some q) × (q ≢ blank))
    by_row q None fresh = λ i e. elim (get_push names v i q e) [ inl old ↦ fresh i old | inr last ↦ last.1 ∙ is ]
    by_row q (Some k) row = (row.0, row.1, get_left names (v ∷ []) row.0 q row.2, row.3)

pub table_passed : (found : List ℕ → Option ℕ) (names : Names) (i : ℕ) (v : List ℕ) → v ≡ blank → i < length names → v ≡ get_or names i v → IsTable found (take i names) → IsTable found (take (i + 1) names)
table_passed found names i v unnamed less is table = subst (IsTable found) (sym (taken names i v less is)) (table_blank found (take i names) v unnamed table)

-- any other name is put there with its place
pub table_put : {S : Type 0} (m n : HashMap (List ℕ) ℕ S) (names : Names) (i : ℕ) (v key : List ℕ) (place : ℕ) → key ≡ v → v ≢ blank → i < length names → v ≡ get_or names i v → place ≡ i + 1 → IsTable (get bytes_eq m) (take i names) → Updates bytes_eq m n key (Some place) → IsTable (get bytes_eq n) (take (i + 1) names)
table_put m n names i v key place same named less is number table updates =
    let count : i ≡ length (take i names) = sym (length-take-le i names (omega (arith, less))) in
    let at_count : place ≡ length (take i names) + 1 = number ∙ ap (λ k. k + 1) count in
    let at_key : (q : List ℕ) → get bytes_eq n q ≡ cond (bytes_eq v q) (Some (length (take i names) + 1)) (get bytes_eq m q) =
    λ q. updates.0 q ∙ ap (λ w. cond (bytes_eq w q) (Some place) (get bytes_eq m q)) same ∙ ap (λ p. cond (bytes_eq v q) (Some p) (get bytes_eq m q)) at_count in
    subst (IsTable (get bytes_eq n)) (sym (taken names i v less is)) (table_more (get bytes_eq m) (get bytes_eq n) (take i names) v table named at_key)

-- ---- what a name names

pub named_by_no_step : (query : Names) (v w : List ℕ) (n m : ℕ) → w ≡ v → IsNumberedAs w n m → n ≡ greatest_number → IsNaming query v (Some (record { step = 0; place = 0 }))
named_by_no_step query v w n m same numbered greatest =
    of_no_step {m = m} (subst (λ k. IsNumberedAs v k m) greatest (subst (λ l. IsNumberedAs l n m) same numbered))

pub named_by_numbers : (query : Names) (v w : List ℕ) (n m : ℕ) → w ≡ v → IsNumberedAs w n m → n ≢ greatest_number → IsNaming query v (Some (record { step = n; place = m }))
named_by_numbers query v w n m same numbered less = of_state (subst (λ l. IsNumberedAs l n m) same numbered) less

unnumbered : (v w : List ℕ) → w ≡ v → IsUnnumbered w → IsUnnumbered v
unnumbered v w same none = subst IsUnnumbered same none

pub named_in_query : (query : Names) (v w : List ℕ) (found : List ℕ → Option ℕ) (k : ℕ) → w ≡ v → IsUnnumbered w → IsTable found query → found v ≡ Some k → IsNaming query v (Some (record { step = 0; place = k }))
named_in_query query v w found k same none table e =
    let row : (i : ℕ) × (k ≡ i + 1) × (slice_get query i ≡ Some v) × (v ≢ blank) = subst (λ o. MatchOption o (IsFresh query v) (λ k. (i : ℕ) × (k ≡ i + 1) × (slice_get query i ≡ Some v) × (v ≢ blank))) e (table v) in
    subst (λ p. IsNaming query v (Some (record { step = 0; place = p }))) (sym row.1) (of_query row.0 (unnumbered v w same none) row.3 row.2)

pub named_by_none : (query : Names) (v w : List ℕ) (found : List ℕ → Option ℕ) → w ≡ v → IsUnnumbered w → IsTable found query → found v ≡ None → IsNaming query v None
named_by_none query v w found same none table e =
    is_new (unnumbered v w same none) (subst (λ o. MatchOption o (IsFresh query v) (λ k. (i : ℕ) × (k ≡ i + 1) × (slice_get query i ≡ Some v) × (v ≢ blank))) e (table v))

-- one name more
pub namings_more : (query names : Names) (i : ℕ) (v : List ℕ) (o : Option VarName) (named later : List (Option VarName)) → i < length names → v ≡ get_or names i v → later ≡ named ++ o ∷ [] → Each (IsNaming query) (take i names) named → IsNaming query v o → Each (IsNaming query) (take (i + 1) names) later
namings_more query names i v o named later less is grown h k =
    subst (λ l. Each (IsNaming query) l later) (sym (taken names i v less is)) (subst (Each (IsNaming query) (take i names ++ v ∷ [])) (sym grown) (each_push (IsNaming query) (take i names) named v o h k))

-- ---- what is asked for

-- what is asked for in its parts
pub ask_said : (query : Names) (gs : List Goal) (a : WrittenAsk) (start all : Names) → start ≡ [] → Each (SaysGoal all) (doing gs) a.goals → MeetsAll start (variables_of_goals a.goals) all → Each (IsNaming query) all a.named → SaysAsk query gs a
ask_said query gs a start all is_start goals met named = record {
  names = all;
  goals = goals;
  variables = met_are_named (variables_of_goals a.goals) all (subst (λ l. MeetsAll l (variables_of_goals a.goals) all) is_start met);
  named = named;
}
