-- What tells a listing is its text, or says that memory was refused.
use Rattle.ghc_console.proofs.CitedWords.{◌≡◌, ◌⊎◌, ℕ, List, [], ◌∷◌, ◌++◌, codes, map, refl, sym, ap, ◌∙◌, subst, inl, inr, append_assoc, concat, each, one_long, AllZip, In, AreLinesTold, and_line, no_line, lined, lines_or_none, lines_text, text_lines, record_lines, refusal, GoalName, Record, record_text, World, AreGoalLines, HasTooLong, IsGoalLineOf, IsTooLong, Named, TellsGoal, goal_line, AreGoalsTold, IsGoalTold, ListingsAreWhole, SaysMemory, TellsListing, kept_listed, kept_text, listed_or_none, records_listed, records_text, saved_text, session_listed, shelf_listed, shelf_text, steps_told}
use Rattle.std.specs.FinMap as finite
use Rattle.ghc_term.specs.declared.fault.Fault.TheVariants as fault
use Rattle.ghc_records.specs.StepText.{goal_name_text}
use Rattle.ghc_hooks.specs.Status.{Status}
use Rattle.ghc_trace.specs.News.{Stands, status_text}
use Rattle.ghc_trace.proofs.Lines.{there}

-- A line in front of others of which one says that memory was refused.
says_on : (t told rest : List ℕ) → told ≡ lined t → SaysMemory rest → SaysMemory (told ++ rest)
says_on t told rest e s =
    let line : (told ++ rest) ≡ lined t ++ (text_lines s.0 ++ (refusal fault.Memory ++ s.1)) = (λ i. e i ++ s.2 i) in
    let moved : text_lines (t ∷ s.0) ≡ lined t ++ text_lines s.0 = sym (append_assoc t (codes "\n") (text_lines s.0)) in
    (t ∷ s.0, s.1, line ∙ sym (append_assoc (lined t) (text_lines s.0) (refusal fault.Memory ++ s.1)) ∙ ap (λ l. l ++ (refusal fault.Memory ++ s.1)) (sym moved))

-- Where each line is there, or a refusal in its place, all are there, or a line says that memory was refused.
whole : (ts : List (List ℕ)) (text : List ℕ) → TellsListing ts text → (text ≡ text_lines ts) ⊎ SaysMemory text
whole [] text no_line = inl refl
whole (t ∷ ts) text (and_line {told = told} {text = rest} (inr m) more) = inr ([], rest, ap (λ l. l ++ rest) m)
whole (t ∷ ts) text (and_line {told = told} {text = rest} (inl e) more) = elim (whole ts rest more) [
  | inl r ↦ inl ((λ i. e i ++ r i) ∙ append_assoc t (codes "\n") (text_lines ts))
  | inr s ↦ inr (says_on t told rest e s)
]

-- Each line by itself.
each_told : (ts : List (List ℕ)) → TellsListing ts (text_lines ts)
each_told [] = no_line
each_told (t ∷ ts) = subst (AreLinesTold (lined t ∷ map lined ts)) (append_assoc t (codes "\n") (text_lines ts)) (and_line (inl refl) (each_told ts))

-- the lines of records are their texts, a line each
same_records : (rs : List Record) → record_lines rs ≡ text_lines (map record_text rs)
same_records [] = refl
same_records (r ∷ rs) = ap (λ l. lined (record_text r) ++ l) (same_records rs) ∙ append_assoc (record_text r) (codes "\n") (text_lines (map record_text rs))

records_same : (rs : List Record) → records_text rs ≡ text_lines (records_listed rs)
records_same [] = refl
records_same (r ∷ rs) = same_records (r ∷ rs)

lines_same : (ts : List (List ℕ)) → lines_text ts ≡ text_lines ts
lines_same [] = refl
lines_same (t ∷ ts) = ap (λ l. t ++ (codes "\n" ++ l)) (lines_same ts)

none_same : (ts : List (List ℕ)) → lines_or_none ts ≡ text_lines (listed_or_none ts)
none_same [] = refl
none_same (t ∷ ts) = refl

or_refused : (text all own : List ℕ) → own ≡ all → (text ≡ all) ⊎ SaysMemory text → (text ≡ own) ⊎ SaysMemory text
or_refused text all own same (inl e) = inl (e ∙ sym same)
or_refused text all own same (inr s) = inr s

-- a line of a goal ends with a line feed
line_ends : (g : GoalName) (s : Status) (text : List ℕ) → goal_line g s text ≡ lined (goal_name_text g ++ (codes " " ++ (status_text s ++ (codes " " ++ text))))
line_ends g s text =
    let name = goal_name_text g in
    let status = status_text s in
    sym (append_assoc name (codes " " ++ (status ++ (codes " " ++ text))) (codes "\n") ∙ ap (λ l. name ++ (codes " " ++ l)) (append_assoc status (codes " " ++ text) (codes "\n")))

-- The line tells the goal, which is not too long.
abbrev IsWholeLine : World → Named → List ℕ → Type 0
IsWholeLine w goal line = IsGoalLineOf w goal.0 goal.1 line × ¬ IsTooLong w.state.store goal.1

-- Where each goal has its line, or a refusal in its place, all have theirs, or a line says that memory was refused.
goals_whole : (w : World) (goals : List Named) (told : List (List ℕ)) → AllZip (IsGoalTold w) goals told → AllZip (IsWholeLine w) goals told ⊎ SaysMemory (concat told)
goals_whole w [] [] a = inl tt
goals_whole w [] (t ∷ ts) a = absurd a
goals_whole w (goal ∷ goals) [] a = absurd a
goals_whole w (goal ∷ goals) (t ∷ ts) a = elim a.0 [
  | inr m ↦ inr ([], concat ts, ap (λ l. l ++ concat ts) m)
  | inl here ↦ elim (goals_whole w goals ts a.1) [
    | inl rest ↦ inl (here, rest)
    | inr s ↦ inr (says_on _ t (concat ts) (here.0.written ∙ line_ends goal.0 here.0.status here.0.text) s)
  ]
]

-- none of them is too long then
none_long : (w : World) (goals : List Named) (told : List (List ℕ)) (goal : Named) → AllZip (IsWholeLine w) goals told → In goal goals → ¬ IsTooLong w.state.store goal.1
none_long w [] told goal a i = absurd i
none_long w (other ∷ goals) [] goal a i = absurd a
none_long w (other ∷ goals) (t ∷ ts) goal a (inl e) = subst (λ (one : Named). ¬ IsTooLong w.state.store one.1) (sym e) a.0.1
none_long w (other ∷ goals) (t ∷ ts) goal a (inr i) = none_long w goals ts goal a.1 i

goals_or_refused : (w : World) (text : List ℕ) → AreGoalsTold w text → (AreGoalLines w text × ¬ HasTooLong w.state.goals w.state.store) ⊎ SaysMemory text
goals_or_refused w text t = elim (goals_whole w (finite.entries w.state.goals) t.0 t.1) [
  | inl all ↦
      let lines = each (IsWholeLine w) (TellsGoal (λ goal s. Stands w goal.0 s) w.state.store) (finite.entries w.state.goals) t.0 (λ goal line i one. one.0) all in
      inl ((t.0, lines, t.2), λ long. none_long w (finite.entries w.state.goals) t.0 (long.0, long.1) all (there w.state.goals long.0 long.1 long.2) long.3)
  | inr s ↦ inr (subst SaysMemory (sym t.2) s)
]

whole_goals : (w : World) (text : List ℕ) → AreGoalLines w text → ¬ HasTooLong w.state.goals w.state.store → AreGoalsTold w text
whole_goals w text t short = (
  t.0,
  each (TellsGoal (λ goal s. Stands w goal.0 s) w.state.store) (IsGoalTold w) (finite.entries w.state.goals) t.0 (λ goal line i told. inl (told, λ long. short (one_long w.state.goals w.state.store goal i long))) t.1,
  t.2,
)

pub are_whole : ListingsAreWhole
are_whole = record {
  records = λ rs text told. or_refused text (text_lines (records_listed rs)) (records_text rs) (records_same rs) (whole (records_listed rs) text told);
  shelf = λ held text told. or_refused text (text_lines (shelf_listed held)) (shelf_text held) (none_same (steps_told (finite.entries held))) (whole (shelf_listed held) text told);
  kept = λ w text told. or_refused text (text_lines (kept_listed w)) (kept_text w) (lines_same (kept_listed w)) (whole (kept_listed w) text told);
  session = λ w spies text told. or_refused text (text_lines (session_listed w spies)) (saved_text w spies) (lines_same (session_listed w spies)) (whole (session_listed w spies) text told);
  goals = goals_or_refused;
  records_told = λ rs. subst (TellsListing (records_listed rs)) (sym (records_same rs)) (each_told (records_listed rs));
  shelf_told = λ held. subst (TellsListing (shelf_listed held)) (sym (none_same (steps_told (finite.entries held)))) (each_told (shelf_listed held));
  kept_told = λ w. subst (TellsListing (kept_listed w)) (sym (lines_same (kept_listed w))) (each_told (kept_listed w));
  session_told = λ w spies. subst (TellsListing (session_listed w spies)) (sym (lines_same (session_listed w spies))) (each_told (session_listed w spies));
  goals_told = whole_goals;
}
