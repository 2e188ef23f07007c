-- The lines of runs: how far their writing has come, and of which steps they are.
use Rattle.ghc_console.proofs.CitedWords.{◌≡◌, ℕ, zero, suc, ◌+◌, ◌-◌, ◌<◌, ◌≤◌, List, [], ◌∷◌, ◌++◌, length, map, take, drop, refl, sym, ap, ◌∙◌, subst, inl, inr, ◌⊎◌, slice_get, append_assoc, append-nil, take-append-drop, drop_of_length-le, length-append, arith, Option, Some, None, Result, Ok, Err, length-drop, slice_get_cases, take-append_seam, drop-append_seam, Appends, Appends-trans, Appends-nil, GoalName, In, in_at, in_right, Record, numbers, AreDistinct, record_once, NotesByGoal, World, Spies, Report, Mode, Runs, RunsIn, Takes, at_start, and_step, and_tries, RunsAddAtTheEnd, AreLinesTold, no_line, and_line, IsAdded, IsLineTold, TellsRun, last_of, mode_of, run_lines, step_line, WritesTold}
use Rattle.ghc_console.proofs.RecordLines.{drop_at}

-- Lines of a text, and more after them.
told_then : (xs ys : List (List ℕ)) (t u : List ℕ) → AreLinesTold xs t → AreLinesTold ys u → AreLinesTold (xs ++ ys) (t ++ u)
told_then xs ys t u no_line q = q
told_then xs ys t u (and_line {line = x} {told = told} {text = text} {lines = lines} h p) q =
    subst (AreLinesTold (x ∷ (lines ++ ys))) (sym (append_assoc told text u)) (and_line h (told_then lines ys text u p q))

-- Each line by itself tells them all.
abbrev plain : List (List ℕ) → List ℕ
plain [] = []
plain (x ∷ xs) = x ++ plain xs

plain_told : (xs : List (List ℕ)) → AreLinesTold xs (plain xs)
plain_told [] = no_line
plain_told (x ∷ xs) = and_line (inl refl) (plain_told xs)

-- One line.
pub one_told : (x text : List ℕ) → IsLineTold x text → AreLinesTold (x ∷ []) text
one_told x text h = subst (AreLinesTold (x ∷ [])) (append-nil text) (and_line h no_line)

-- the text has a front of all the lines; with the rest after it, it has all
pub record Going (all rest : List (List ℕ)) (old now : Option (List ℕ)) : Type 0 where
  pub done : List ℕ
  pub appended : Appends old now done
  pub whole : (text : List ℕ) → AreLinesTold rest text → AreLinesTold all (done ++ text)

pub going_start : (all : List (List ℕ)) (now : Option (List ℕ)) → Going all all now now
going_start all now = record { done = []; appended = Appends-nil now; whole = λ text told. told }

-- some lines on
pub going_on : (all xs rest : List (List ℕ)) (a b c : Option (List ℕ)) (text : List ℕ) → Going all (xs ++ rest) a b → AreLinesTold xs text → Appends b c text → Going all rest a c
going_on all xs rest a b c text g told wrote = record {
  done = g.done ++ text;
  appended = Appends-trans a b c g.done text g.appended wrote;
  whole = λ more later. subst (AreLinesTold all) (sym (append_assoc g.done text more)) (g.whole (text ++ more) (told_then xs rest text more told later));
}

-- the text has all
pub going_end : (all : List (List ℕ)) (a b : Option (List ℕ)) → Going all [] a b → (text : List ℕ) × AreLinesTold all text × Appends a b text
going_end all a b g = (g.done ++ [], g.whole [] no_line, subst (Appends a b) (sym (append-nil g.done)) g.appended)

-- What was written ends in the middle of a text.
pub cut_in : (done text rest : List ℕ) (n : ℕ) → take (length (done ++ take n text)) (done ++ (text ++ rest)) ≡ done ++ take n text
cut_in done text rest n =
    let part = take n text in
    let behind = drop n text ++ rest in
    let split : done ++ (text ++ rest) ≡ (done ++ part) ++ behind =
    ap (λ l. done ++ (l ++ rest)) (sym (take-append-drop n text)) ∙ ap (λ l. done ++ l) (append_assoc part (drop n text) rest) ∙ sym (append_assoc done part behind) in
    ap (take (length (done ++ part))) split ∙ take-append_seam (done ++ part) behind

-- a call failed as some lines were written
pub going_broken : (all xs rest : List (List ℕ)) (a b c : Option (List ℕ)) (text : List ℕ) (n : ℕ) → Going all (xs ++ rest) a b → AreLinesTold xs text → Appends b c (take n text)
    → (whole : List ℕ) × AreLinesTold all whole × ((m : ℕ) × Appends a c (take m whole))
going_broken all xs rest a b c text n g told wrote =
    let part = take n text in (
      g.done ++ (text ++ plain rest),
      g.whole (text ++ plain rest) (told_then xs rest text (plain rest) told (plain_told rest)),
      (length (g.done ++ part), subst (Appends a c) (sym (cut_in g.done text (plain rest) n)) (Appends-trans a b c g.done part g.appended wrote)),
    )

-- the last lines were written, or a call failed
pub going_last : {E : Type 0} (all xs : List (List ℕ)) (a b c : Option (List ℕ)) (result : Result Unit E) → Going all xs a b → WritesTold xs b c result → WritesTold all a c result
going_last all xs a b c (Ok t) g w = going_end all a c (going_on all xs [] a b c w.0 (subst (λ l. Going all l a b) (sym (append-nil xs)) g) w.1 w.2)
going_last all xs a b c (Err e) g w = going_broken all xs [] a b c w.0 w.2.0 (subst (λ l. Going all l a b) (sym (append-nil xs)) g) w.1 w.2.1

-- An element of a list with one more at its end.
at_last : {X : Type 0} (xs : List X) (y x : X) (i : ℕ) → slice_get (xs ++ y ∷ []) i ≡ Some x → (slice_get xs i ≡ Some x) ⊎ ((i ≡ length xs) × (x ≡ y))
at_last [] y x zero e = let same : y ≡ x = cc in inr (refl, sym same)
at_last [] y x (suc i) e = let clash : None ≡ Some x = e in cc
at_last (z ∷ xs) y x zero e = inl e
at_last (z ∷ xs) y x (suc i) e = elim (at_last xs y x i e) [ inl old ↦ inl old | inr new ↦ inr (ap suc new.0, new.1) ]

-- What is done in the mode of a run is a run.
pub runs_so : (root : Option GoalName) (limit workers : ℕ) (spies : Spies) (w v : World) (notes : NotesByGoal) (report : Report) (mode : Mode) → mode ≡ mode_of root limit
    → RunsIn mode (Unit {0}) workers spies w v notes report → Runs (Unit {0}) workers spies root limit w v notes report
runs_so None limit workers spies w v notes report mode is ran = subst (λ m. RunsIn m (Unit {0}) workers spies w v notes report) is ran
runs_so (Some root) limit workers spies w v notes report mode is ran = subst (λ m. RunsIn m (Unit {0}) workers spies w v notes report) is ran

-- The steps of a run have the next numbers.
numbered : RunsAddAtTheEnd → (workers : ℕ) (spies : Spies) (root : Option GoalName) (w : World) (before : NotesByGoal) (v : World) (after : NotesByGoal) (steps : List Record) → Takes workers spies root w before steps v after
    → (i : ℕ) (r : Record) → slice_get steps i ≡ Some r → r.number ≡ w.next + i
numbered law workers spies root w before v after steps at_start i r e = let clash : None ≡ Some r = e in cc
numbered law workers spies root w before v after steps (and_tries {notes = notes} more t kept) i r e = numbered law workers spies root w before v notes steps t i r e
numbered law workers spies root w before v after steps (and_step {steps = front} {v = u} {notes = notes} q left t s spared) i r e =
    elim (at_last front q r i e) [
      | inl old ↦ numbered law workers spies root w before u notes front t i r old
      | inr new ↦ ap (λ (z : Record). z.number) new.1 ∙ s.taken.2.1.0 ∙ (law workers spies root w before u notes front t).next ∙ ap (λ k. w.next + k) (sym new.0)
    ]

-- The last of a list, as many as stand after its front.
last_is : (front back : List Record) → last_of (length back) (front ++ back) ≡ back
last_is front back =
    let long = length-append front back in
    let less : length (front ++ back) - length back ≡ length front = omega (arith, long) in
    ap (λ k. drop k (front ++ back)) less ∙ drop-append_seam front back

module _ (law : RunsAddAtTheEnd) (workers : ℕ) (spies : Spies) (root : Option GoalName) (limit : ℕ) (w v : World) (notes : NotesByGoal) (report : Report) (ran : Runs (Unit {0}) workers spies root limit w v notes report) where
  -- the last steps are those of the run
  its_steps : last_of report.added v.kept ≡ ran.steps
  its_steps =
      let adds = law workers spies root w ran.before v notes ran.steps ran.taken in
      ap (λ k. last_of k v.kept) ran.count ∙ ap (last_of (length ran.steps)) adds.kept ∙ last_is w.kept ran.steps

  pub tells_run : (text : List ℕ) → AreLinesTold (run_lines (last_of report.added v.kept) report.stop) text → TellsRun workers spies root limit w text v
  tells_run text told = record { notes = notes; report = report; run = ran; told = subst (λ steps. AreLinesTold (run_lines steps report.stop) text) its_steps told }

  pub is_added : IsAdded v report.added
  is_added =
      let adds = law workers spies root w ran.before v notes ran.steps ran.taken in
      let count = ran.count in
      let next = adds.next in
      let long : length v.kept ≡ length w.kept + length ran.steps = ap length adds.kept ∙ length-append w.kept ran.steps in
      let first : v.next - report.added ≡ w.next = omega (arith, count, next) in
      record {
        few = omega (arith, count, long);
        below = omega (arith, count, next);
        numbered = λ i r e. numbered law workers spies root w ran.before v notes ran.steps ran.taken i r (subst (λ steps. slice_get steps i ≡ Some r) its_steps e) ∙ ap (λ k. k + i) (sym first);
      }

  pub opening_left : v.opening ≡ w.opening
  opening_left = (law workers spies root w ran.before v notes ran.steps ran.taken).opening

module _ (w : World) (count : ℕ) (added : IsAdded w count) where
  so_many : length (last_of count w.kept) ≡ count
  so_many =
      let long = length-drop (length w.kept - count) w.kept in
      let few = added.few in
      omega (arith, long, few)

  -- one of the last steps has the number
  stands : (n : ℕ) → w.next - count ≤ n → n < w.next → (r : Record) × (slice_get (last_of count w.kept) (n - (w.next - count)) ≡ Some r) × In r w.kept × (r.number ≡ n)
  stands n low high =
      let rs = last_of count w.kept in
      let i = n - (w.next - count) in
      let many = so_many in
      let below = added.below in
      elim (slice_get_cases rs i).1 [
        | inl there ↦ (
          there.0,
          there.2,
          subst (In there.0) (take-append-drop (length w.kept - count) w.kept) (in_right (take (length w.kept - count) w.kept) rs there.0 (in_at rs i there.0 there.2)),
          (let number = added.numbered i there.0 there.2 in omega (arith, number, low)),
        )
        | inr past ↦ (let behind = past.0 in absurd (omega (arith, many, behind, low, high, below)))
      ]

  pub is_there : (n : ℕ) → w.next - count ≤ n → n < w.next → ¬ ((r : Record) → In r w.kept → r.number ≡ n → ⊥)
  is_there n low high none = let s = stands n low high in none s.0 s.2 s.3

  -- the step of the number is the next to be written
  pub going_at : (n : ℕ) (r : Record) (a b : Option (List ℕ)) → w.next - count ≤ n → n < w.next → AreDistinct (numbers w.kept) → In r w.kept → r.number ≡ n
      → Going (map step_line (last_of count w.kept)) (map step_line (drop (n - (w.next - count)) (last_of count w.kept))) a b
      → Going (map step_line (last_of count w.kept)) (step_line r ∷ map step_line (drop ((n + 1) - (w.next - count)) (last_of count w.kept))) a b
  going_at n r a b low high distinct i e g =
      let rs = last_of count w.kept in
      let s = stands n low high in
      let there : slice_get rs (n - (w.next - count)) ≡ Some r = s.1 ∙ ap Some (record_once w.kept s.0 r distinct s.2 i (s.3 ∙ sym e)) in
      let more : (n - (w.next - count)) + 1 ≡ (n + 1) - (w.next - count) = omega (arith, low) in
      subst (λ ls. Going (map step_line rs) ls a b) (ap (map step_line) (drop_at rs (n - (w.next - count)) r there) ∙ ap (λ k. step_line r ∷ map step_line (drop k rs)) more) g

  -- no line is left at the end
  pub none_left : (n : ℕ) → w.next ≤ n → map step_line (drop (n - (w.next - count)) (last_of count w.kept)) ≡ []
  none_left n past =
      let many = so_many in
      let below = added.below in
      ap (map step_line) (drop_of_length-le (last_of count w.kept) {i = n - (w.next - count)} (omega (arith, many, past, below)))
