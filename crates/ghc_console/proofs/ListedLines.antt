-- The lines of listings: how far their writing has come, and what they tell.
use Rattle.ghc_console.proofs.CitedWords.{◌≡◌, ◌≢◌, ◌⊎◌, ◌≤◌, ℕ, ◌+◌, List, [], ◌∷◌, ◌++◌, codes, length, length-map, map, take, drop, refl, sym, ap, ◌∙◌, subst, inl, inr, arith, append-nil, map-append, drop_of_length-le, Option, Result, Appends, WritesFront, WritesTold, AreLinesTold, IsLineTold, and_line, no_line, form_text, lined, Record, World, SlotList, StandsIn, held_in, rank, rank_end, rank_gap, rank_next, rank_stands, rank_zero, count_line, heading, kept_listed, listed_or_none, step_of, History, Entry, Predicate, chronicle_of, chronicle_lines, chronicle_heading, opening_line, entries_line, spies_line, end_line, step_text, entry_text, chronicle_predicate_text}
use Rattle.ghc_console.specs.declared.replies.record_listing.RecordForm.TheVariants as form
use Rattle.ghc_core.proofs.SavedSteps.{drop_at}
use Rattle.ghc_console.proofs.RunLines.{Going, going_broken, going_end, going_last, going_on, going_start, one_told}

-- lines whose text was written
abbrev pub Wrote : List (List ℕ) → Option (List ℕ) → Option (List ℕ) → Type 0
Wrote lines a b = (text : List ℕ) × AreLinesTold lines text × Appends a b text

-- lines of whose text a front was written
abbrev pub WroteFront : List (List ℕ) → Option (List ℕ) → Option (List ℕ) → Type 0
WroteFront lines a b = (text : List ℕ) × AreLinesTold lines text × ((n : ℕ) × Appends a b (take n text))

-- Lines, and others after them.
pub wrote_then : {E : Type 0} (xs ys : List (List ℕ)) (a b c : Option (List ℕ)) (result : Result Unit E) → Wrote xs a b → WritesTold ys b c result → WritesTold (xs ++ ys) a c result
wrote_then xs ys a b c result first more = going_last (xs ++ ys) ys a b c result (going_on (xs ++ ys) xs ys a a b first.0 (going_start (xs ++ ys) a) first.1 first.2) more

pub front_then : (xs ys : List (List ℕ)) (a b c : Option (List ℕ)) → Wrote xs a b → WroteFront ys b c → WroteFront (xs ++ ys) a c
front_then xs ys a b c first more =
    going_broken (xs ++ ys) ys [] a b c more.0 more.2.0 (subst (λ l. Going (xs ++ ys) l a b) (sym (append-nil ys)) (going_on (xs ++ ys) xs ys a a b first.0 (going_start (xs ++ ys) a) first.1 first.2)) more.1 more.2.1

-- A call failed in the lines in front.
pub front_less : (xs ys : List (List ℕ)) (a b : Option (List ℕ)) → WroteFront xs a b → WroteFront (xs ++ ys) a b
front_less xs ys a b first = going_broken (xs ++ ys) xs ys a a b first.0 first.2.0 (going_start (xs ++ ys) a) first.1 first.2.1

-- the lines of things
abbrev pub lines_of_each : {A : Type 0} → (A → List ℕ) → List A → List (List ℕ)
lines_of_each f xs = map lined (map f xs)

-- a line that was written, or a front of it
pub wrote_alone : (line : List ℕ) (a b : Option (List ℕ)) → Appends a b line → Wrote (line ∷ []) a b
wrote_alone line a b wrote = (line, one_told line line (inl refl), wrote)

pub front_alone : (line : List ℕ) (a b : Option (List ℕ)) → (n : ℕ) × Appends a b (take n line) → WroteFront (line ∷ []) a b
front_alone line a b wrote = (line, one_told line line (inl refl), wrote)

-- what stands for one line
pub line_alone : (line text : List ℕ) → AreLinesTold (line ∷ []) text → IsLineTold line text
line_alone line text (and_line {told = told} h no_line) = subst (IsLineTold line) (sym (append-nil told)) h

module _ {A : Type 0} (f : A → List ℕ) (all : List (List ℕ)) where
  -- one more line
  pub next_on : (x : A) (rest : List A) (a b c : Option (List ℕ)) → Going all (lines_of_each f (x ∷ rest)) a b → Wrote (lined (f x) ∷ []) b c → Going all (lines_of_each f rest) a c
  next_on x rest a b c g told = going_on all (lined (f x) ∷ []) (lines_of_each f rest) a b c told.0 g told.1 told.2

  -- a call failed in it
  pub next_broken : (x : A) (rest : List A) (a b c : Option (List ℕ)) → Going all (lines_of_each f (x ∷ rest)) a b → WroteFront (lined (f x) ∷ []) b c → WroteFront all a c
  next_broken x rest a b c g told = going_broken all (lined (f x) ∷ []) (lines_of_each f rest) a b c told.0 told.2.0 g told.1 told.2.1

module _ {A : Type 0} (f : A → List ℕ) (all : List (List ℕ)) (xs : List A) where
  -- the same by places
  pub lines_on : (i : ℕ) (x : A) (a b c : Option (List ℕ)) → drop i xs ≡ x ∷ drop (i + 1) xs → Going all (lines_of_each f (drop i xs)) a b → Wrote (lined (f x) ∷ []) b c → Going all (lines_of_each f (drop (i + 1) xs)) a c
  lines_on i x a b c here g told = next_on f all x (drop (i + 1) xs) a b c (subst (λ l. Going all (lines_of_each f l) a b) here g) told

  pub lines_broken : (i : ℕ) (x : A) (a b c : Option (List ℕ)) → drop i xs ≡ x ∷ drop (i + 1) xs → Going all (lines_of_each f (drop i xs)) a b → WroteFront (lined (f x) ∷ []) b c → WroteFront all a c
  lines_broken i x a b c here g told = next_broken f all x (drop (i + 1) xs) a b c (subst (λ l. Going all (lines_of_each f l) a b) here g) told

  -- all were written
  pub lines_done : (i : ℕ) (a b : Option (List ℕ)) → length xs ≤ i → Going all (lines_of_each f (drop i xs)) a b → Wrote all a b
  lines_done i a b past g = going_end all a b (subst (λ l. Going all (lines_of_each f l) a b) (drop_of_length-le xs {i = i} past) g)

-- The line of the record in a slot was written; or no line, where that is a gap.
abbrev pub WroteSlot : (Record → List ℕ) → SlotList → ℕ → Option (List ℕ) → Option (List ℕ) → Type 0
WroteSlot f ss i a b = ((r : Record) × StandsIn ss i r × Wrote (lined (f r) ∷ []) a b) ⊎ (((r : Record) → ¬ StandsIn ss i r) × Wrote [] a b)

-- the same, where a call failed
abbrev pub WroteSlotFront : (Record → List ℕ) → SlotList → ℕ → Option (List ℕ) → Option (List ℕ) → Type 0
WroteSlotFront f ss i a b = ((r : Record) × StandsIn ss i r × WroteFront (lined (f r) ∷ []) a b) ⊎ (((r : Record) → ¬ StandsIn ss i r) × WroteFront [] a b)

-- the lines of the records from a slot on
abbrev pub lines_from : (Record → List ℕ) → SlotList → ℕ → List (List ℕ)
lines_from f ss i = lines_of_each f (drop (rank ss i) (held_in ss))

-- slot by slot
module _ (f : Record → List ℕ) (ss : SlotList) where
  abbrev all : List (List ℕ)
  all = lines_of_each f (held_in ss)

  abbrev from_rank : ℕ → List (List ℕ)
  from_rank k = lines_of_each f (drop k (held_in ss))

  pub slots_start : (a : Option (List ℕ)) → Going (lines_of_each f (held_in ss)) (lines_from f ss 0) a a
  slots_start a = subst (λ k. Going all (from_rank k) a a) (sym (rank_zero ss)) (going_start all a)

  pub slot_on : (i : ℕ) (a b c : Option (List ℕ)) → Going (lines_of_each f (held_in ss)) (lines_from f ss i) a b → WroteSlot f ss i b c → Going (lines_of_each f (held_in ss)) (lines_from f ss (i + 1)) a c
  slot_on i a b c g (inl t) =
      subst (λ k. Going all (from_rank k) a c) (sym (rank_next ss i t.0 t.1))
      (lines_on f all (held_in ss) (rank ss i) t.0 a b c (drop_at (held_in ss) (rank ss i) t.0 (rank_stands ss i t.0 t.1)) g t.2)
  slot_on i a b c g (inr t) = subst (λ k. Going all (from_rank k) a c) (sym (rank_gap ss i t.0)) (going_on all [] (from_rank (rank ss i)) a b c t.1.0 g t.1.1 t.1.2)

  pub slot_broken : (i : ℕ) (a b c : Option (List ℕ)) → Going (lines_of_each f (held_in ss)) (lines_from f ss i) a b → WroteSlotFront f ss i b c → WroteFront (lines_of_each f (held_in ss)) a c
  slot_broken i a b c g (inl t) = lines_broken f all (held_in ss) (rank ss i) t.0 a b c (drop_at (held_in ss) (rank ss i) t.0 (rank_stands ss i t.0 t.1)) g t.2
  slot_broken i a b c g (inr t) = going_broken all [] (from_rank (rank ss i)) a b c t.1.0 t.1.2.0 g t.1.1 t.1.2.1

  pub slots_done : (i : ℕ) (a b : Option (List ℕ)) → length ss ≤ i → Going (lines_of_each f (held_in ss)) (lines_from f ss i) a b → Wrote (lines_of_each f (held_in ss)) a b
  slots_done i a b past g =
      let behind : rank ss i ≡ length (held_in ss) = rank_end ss i past in
      lines_done f all (held_in ss) (rank ss i) a b (omega (arith, behind)) g

module _ {E A : Type 0} (f : A → List ℕ) where
  -- there is nothing to list
  pub none_listed : (xs : List A) (a b : Option (List ℕ)) (result : Result Unit E) → length xs ≡ 0 → WritesFront a b result (codes "none\n") → WritesTold (map lined (listed_or_none (map f xs))) a b result
  none_listed [] a b result none wrote = (codes "none\n", one_told (codes "none\n") (codes "none\n") (inl refl), wrote)
  none_listed (x ∷ xs) a b result none wrote = absurd (omega (arith, none))

  -- there is something
  pub some_listed : (xs : List A) (a b : Option (List ℕ)) (result : Result Unit E) → length xs ≢ 0 → WritesTold (lines_of_each f xs) a b result → WritesTold (map lined (listed_or_none (map f xs))) a b result
  some_listed [] a b result some wrote = absurd (some refl)
  some_listed (x ∷ xs) a b result some wrote = wrote

-- four parts, one after another
module _ (all p q r s : List (List ℕ)) (parts : all ≡ p ++ (q ++ (r ++ s))) where
  -- a call failed in the first, or the second, or the third
  pub broken_at_first : (a b : Option (List ℕ)) → WroteFront p a b → WroteFront all a b
  broken_at_first a b first = subst (λ ls. WroteFront ls a b) (sym parts) (front_less p (q ++ (r ++ s)) a b first)

  pub broken_at_second : (a b c : Option (List ℕ)) → Wrote p a b → WroteFront q b c → WroteFront all a c
  broken_at_second a b c first second = subst (λ ls. WroteFront ls a c) (sym parts) (front_then p (q ++ (r ++ s)) a b c first (front_less q (r ++ s) b c second))

  pub broken_at_third : (a b c d : Option (List ℕ)) → Wrote p a b → Wrote q b c → WroteFront r c d → WroteFront all a d
  broken_at_third a b c d first second third =
      subst (λ ls. WroteFront ls a d) (sym parts) (front_then p (q ++ (r ++ s)) a b d first (front_then q (r ++ s) b c d second (front_less r s c d third)))

  -- the last was written, or a call failed
  pub all_wrote : {E : Type 0} (a b c d e : Option (List ℕ)) (result : Result Unit E) → Wrote p a b → Wrote q b c → Wrote r c d → WritesTold s d e result → WritesTold all a e result
  all_wrote a b c d e result first second third last =
      subst (λ ls. WritesTold ls a e result) (sym parts) (wrote_then p (q ++ (r ++ s)) a b e result first (wrote_then q (r ++ s) b c e result second (wrote_then r s c d e result third last)))

-- the parts of a session
abbrev pub opening_part : History → List (List ℕ)
opening_part o = map lined (chronicle_heading ∷ opening_line o.next (length o.steps) ∷ map step_text o.steps)

abbrev pub entries_part : List Entry → List (List ℕ)
entries_part es = map lined (entries_line (length es) ∷ map entry_text es)

abbrev pub spies_part : List Predicate → List (List ℕ)
spies_part ps = map lined (spies_line (length ps) ∷ map chronicle_predicate_text ps)

abbrev pub end_part : ℕ → List (List ℕ)
end_part n = lined (end_line n) ∷ []

module _ (o : History) (journal : List Entry) (ps : List Predicate) (n : ℕ) where
  abbrev behind_opening : List Entry
  behind_opening = drop (length o.steps) journal

  abbrev session_lines : List (List ℕ)
  session_lines = map lined (chronicle_lines (chronicle_of o journal ps n))

  pub session_parts : session_lines ≡ opening_part o ++ (entries_part behind_opening ++ (spies_part ps ++ end_part n))
  session_parts =
      let first = chronicle_heading ∷ opening_line o.next (length o.steps) ∷ map step_text o.steps in
      let second = entries_line (length behind_opening) ∷ map entry_text behind_opening in
      let third = spies_line (length ps) ∷ map chronicle_predicate_text ps in
      let last = end_line n ∷ [] in
      map-append lined first (second ++ (third ++ last)) ∙ ap (λ l. map lined first ++ l) (map-append lined second (third ++ last)) ∙ ap (λ l. map lined first ++ (map lined second ++ l)) (map-append lined third last)

-- the parts of a history of kept steps
module _ (w : World) where
  abbrev pub step_lines : List (List ℕ)
  step_lines = lines_of_each (form_text form.Step) w.kept

  of_steps : (rs : List Record) → map step_text (map step_of rs) ≡ map (form_text form.Step) rs
  of_steps [] = refl
  of_steps (r ∷ rs) = ap (λ l. step_text (step_of r) ∷ l) (of_steps rs)

  pub kept_parts : map lined (kept_listed w) ≡ (lined heading ∷ []) ++ ((lined (count_line (length w.kept)) ∷ []) ++ (step_lines ++ end_part w.next))
  kept_parts =
      let front : ℕ → List (List ℕ) → List (List ℕ) = λ n ls. lined heading ∷ lined (count_line n) ∷ ls in
      ap (λ n. front n (map lined (map step_text (map step_of w.kept) ++ end_line w.next ∷ []))) (length-map w.kept step_of)
      ∙ ap (front (length w.kept)) (map-append lined (map step_text (map step_of w.kept)) (end_line w.next ∷ []) ∙ ap (λ ls. map lined ls ++ end_part w.next) (of_steps w.kept))
