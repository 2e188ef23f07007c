-- Legal histories and reachable worlds are the same, and a history leaves one world.
use Rattle.ghc_core.proofs.Words.{◌≡◌, ℕ, ◌+◌, ◌<◌, List, [], ◌∷◌, ◌++◌, map, length, refl, sym, ap, ◌∙◌, subst, subst₂, inl, inr, arith, map-append, length-append, In, in_more, AreDistinct, Record, numbers, Shelf, query_state, Runs, Opening, Entry, took, step_of, Item, entered, history, number_of, run_once, Keeps, taken_numbers, taken_append, keeps_once, distinct_push, Change, no_hands, emptied, World, CanChange, Changes, commit, command, Reply, stepped, told_of, by_command, makes, Reaches, from_opening, by_change, Leaves, the_opening, and_entry, NoStepIsFree, length-map, taken_same}
use Rattle.ghc_records.specs.Journal.{opened}
use Rattle.ghc_core.specs.Legal as legal
use Rattle.ghc_core.specs.HistoryLaws as laws
use Rattle.ghc_core.proofs.Moving.{Moves, answered_moves, Numbers, change_enters, opening_stays}
use Rattle.ghc_core.proofs.Reaching.{reached_good}
use Rattle.ghc_core.proofs.Replayed.{replayed}
use Rattle.ghc_core.proofs.Keeping.{reached_keeps}
use Rattle.ghc_core.proofs.Standing.{standing_apart}
use Rattle.ghc_core.proofs.Taking.{change_done, holding, hand_commits, reached_reachable}

-- the history of a journal with one more entry
pub history_push : (o : Opening) (es : List Entry) (e : Entry) → history o (es ++ e ∷ []) ≡ history o es ++ entered e ∷ []
history_push o es e = ap (λ items. opened o ∷ items) (map-append entered es (e ∷ []))

-- some event makes the change, and enters it
pub change_entered : (w v : World) (change : Change) → NoStepIsFree w → CanChange w change → Changes w change v → (entry : Entry) → v.journal ≡ w.journal ++ entry ∷ [] → (reply : Reply) × legal.Enters w entry reply v
change_entered w v change free can changes entry journal = elim (change_done w v change free can changes) [
  | inl (p, r, c, e) ↦ (stepped w.next, (holding p, emptied 1 (holding p), commit 1, hand_commits w v p r c e, journal))
  | inr (c, asks, proper) ↦ (told_of change, (no_hands, no_hands, command c, makes tt (by_command asks) can changes refl, journal))
]

-- a world that is reached is left by its history
pub reached_legal : {w : World} → Reaches w → Leaves (history w.opening w.journal) w
reached_legal (from_opening {w = w} sound opens) = subst₂ (λ p es. Leaves (history p es) w) (sym opens.opening) (sym opens.journal) (the_opening sound opens)
reached_legal (by_change {w = w} {v = v} change r can changes) =
    let g = change_enters w v change can changes in
    let by = change_entered w v change (standing_apart w r) can changes g.entry g.journal in
    let next : Leaves (history w.opening w.journal ++ entered g.entry ∷ []) v = and_entry g.entry by.0 (reached_legal r) by.1 in
    subst₂ (λ o es. Leaves (history o es) v) (sym g.opening) (sym g.journal) (subst (λ items. Leaves items v) (sym (history_push w.opening w.journal g.entry)) next)

-- a journal is not itself with an entry more
pub not_longer : (es : List Entry) (e : Entry) → ¬ (es ≡ es ++ e ∷ [])
not_longer es e p = omega (arith, ap length p, length-append es (e ∷ []))

-- what enters an entry is a change
pub entered_moves : (w v : World) (entry : Entry) (reply : Reply) → legal.Enters w entry reply v → Moves w v
entered_moves w v entry reply n = elim (answered_moves w n.0 n.1 n.2 reply v n.3) [
  | inl same ↦ absurd (not_longer w.journal entry (sym (ap (λ (z : World). z.journal) same) ∙ n.4))
  | inr m ↦ m
]

legal_reached : {items : List Item} {w : World} → Leaves items w → Reaches w
legal_reached (the_opening sound opens) = from_opening sound opens
legal_reached (and_entry {w = w} {v = v} entry reply l n) =
    let (change, can, changes) = entered_moves w v entry reply n in
    by_change change (legal_reached l) can changes

legal_history : {items : List Item} {w : World} → Leaves items w → items ≡ history w.opening w.journal
legal_history (the_opening sound opens) = λ i. history (sym opens.opening i) (sym opens.journal i)
legal_history (and_entry {w = w} {v = v} entry reply l n) =
    let (change, can, changes) = entered_moves w v entry reply n in
    let opening : w.opening ≡ v.opening = sym (opening_stays w v change can changes) in
    ap (λ xs. xs ++ entered entry ∷ []) (legal_history l) ∙ sym (history_push w.opening w.journal entry) ∙ (λ i. history (opening i) (sym n.4 i))

pub legal_reachable : laws.LegalIsReachable
legal_reachable items w l = (legal_history l, (no_hands, reached_reachable (legal_reached l)))

-- The numbers taken are distinct and below the next one, which rises by one with each.
record Counted (w : World) : Type 0 where
  pub distinct : AreDistinct (taken_numbers w.journal)
  pub below : (n : ℕ) → In n (taken_numbers w.journal) → n < w.next
  pub next : w.next + length w.opening.steps ≡ w.opening.next + length (taken_numbers w.journal)

-- the numbers of loaded steps
loaded_numbers : (rs : List Record) → taken_numbers (map took (map step_of rs)) ≡ numbers rs
loaded_numbers [] = refl
loaded_numbers (r ∷ rs) = ap (λ ns. r.number ∷ ns) (loaded_numbers rs)

grown_counted : (w v : World) (entry : Entry) → v.journal ≡ w.journal ++ entry ∷ [] → v.opening ≡ w.opening → Numbers w entry v → Counted w → Counted v
grown_counted w v entry j o (inl (none, now)) c =
    let taken : taken_numbers v.journal ≡ taken_numbers w.journal = ap taken_numbers j ∙ taken_same w.journal entry none in
    record {
      distinct = rw taken c.distinct;
      below = rw (taken, now) c.below;
      next = rw (taken, now, o) c.next;
    }
grown_counted w v entry j o (inr (one, now)) c =
    let before = taken_numbers w.journal in
    let taken : taken_numbers v.journal ≡ before ++ w.next ∷ [] = ap taken_numbers j ∙ taken_append w.journal (entry ∷ []) ∙ ap (λ ns. before ++ ns) one in
    record {
      distinct = rw taken (distinct_push before w.next c.distinct (λ i. omega (arith, c.below w.next i)));
      below = rw (taken, now) (λ n i. elim (in_more before w.next n i) [ inl k ↦ omega (arith, c.below n k) | inr e ↦ omega (arith, e) ]);
      next = rw (taken, now, o) (omega (arith, length-append before (w.next ∷ []), c.next));
    }

counted : {w : World} → Reaches w → Counted w
counted (from_opening {o = o} {w = w} sound opens) =
    let taken : taken_numbers w.journal ≡ numbers w.kept = ap taken_numbers (opens.journal ∙ ap (map took) (sym opens.steps)) ∙ loaded_numbers w.kept in
    let count : length (taken_numbers w.journal) ≡ length o.steps =
    ap length taken ∙ length-map w.kept (λ r. r.number) ∙ sym (length-map w.kept step_of) ∙ ap length opens.steps in
    record {
      distinct = rw taken opens.state.0.1;
      below = rw (taken, opens.next) (λ n i. let r = number_of w.kept n i in rw r.2 at (opens.below r.0 r.1));
      next = omega (arith, count, ap (λ (p : Opening). length p.steps) opens.opening, ap (λ (p : Opening). p.next) opens.opening, opens.next);
    }
counted (by_change {w = w} {v = v} change r can changes) = let g = change_enters w v change can changes in grown_counted w v g.entry g.journal g.opening g.numbers (counted r)

pub told_kept : {w : World} (kept : List Record) (shelf : Shelf) → Reaches w → Keeps w.opening w.journal kept shelf → (kept ≡ w.kept) × (shelf ≡ w.shelf)
told_kept {w} kept shelf r k =
    let good = reached_good r in
    keeps_once w.opening w.journal kept w.kept shelf w.shelf good.accepted good.asked (counted r).distinct k (reached_keeps r)

pub reached_once : {w v : World} → Reaches w → Reaches v → w.opening ≡ v.opening → w.journal ≡ v.journal → w ≡ v
reached_once {w} {v} r q o j =
    let same = told_kept v.kept v.shelf r (rw (o, j) (reached_keeps q)) in
    let walk : Runs w.opening.program (query_state w.opening.query) w.kept v.state = rw (o, ← same.0) (replayed q).replay.1 in
    let state : w.state ≡ v.state = run_once w.opening.program (query_state w.opening.query) w.kept w.state v.state (replayed r).replay.1 walk in
    let one : v.next + length v.opening.steps ≡ v.opening.next + length (taken_numbers v.journal) = (counted q).next in
    let other : w.next + length v.opening.steps ≡ v.opening.next + length (taken_numbers v.journal) = rw (← o, ← j) (counted r).next in
    let next : w.next ≡ v.next = omega (arith, one, other) in
    λ i. record { opening = o i; state = state i; kept = sym same.0 i; shelf = sym same.1 i; next = next i; journal = j i }

pub entries_once : (es fs : List Entry) → map entered es ≡ map entered fs → es ≡ fs
entries_once [] [] e = refl
entries_once (x ∷ es) (f ∷ fs) e =
    let behind : map entered es ≡ map entered fs = cc in
    cc (entries_once es fs behind)
entries_once es fs e = cc

pub leaves_once : laws.LeavesIsOne
leaves_once items w v l m =
    let same : history w.opening w.journal ≡ history v.opening v.journal = sym (legal_history l) ∙ legal_history m in
    let opening : w.opening ≡ v.opening = cc in
    let behind : map entered w.journal ≡ map entered v.journal = cc in
    reached_once (legal_reached l) (legal_reached m) opening (entries_once w.journal v.journal behind)
