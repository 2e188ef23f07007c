-- What the reply says that tells what depends on a step.
use Rattle.ghc_console.proofs.CitedWords.{◌≡◌, ◌<◌, ◌≤◌, ◌+◌, ◌∙◌, ℕ, zero, suc, List, [], ◌∷◌, ◌++◌, inl, inr, refl, sym, ap, subst, arith, append-nil, length, length-map, drop, drop_of_length-le, get_or, Some, slice_get, In, in_at, AreDistinct, Record, numbers, record_once, SlotList, held_in, rank, rank_stands, World, record_lines, TellsSlot}
use Rattle.ghc_records.specs.inner.Slots.{HasNumberIn}
use Rattle.ghc_records.proofs.OrderLemmas.{number_in, number_of}
use Rattle.ghc_records.proofs.PickLemmas.{picks_in}
use Rattle.ghc_depend.specs.Depend.{AreConsequencesOf}
use Rattle.ghc_console.specs.TextLines.{text_or_none}
use Rattle.ghc_console.specs.Looks.{RepliesToEffects, tells_effects}
use Rattle.ghc_console.proofs.RecordLines.{line_on}

-- What follows from a step is kept, and so its number is one of a kept step.
pub found_kept : (rs : List Record) (n : ℕ) (found : List Record) → AreConsequencesOf rs n found → (r : Record) → In r found → In r rs
found_kept rs n found (inl (none, empty)) r i = absurd (subst (In r) empty i)
found_kept rs n found (inr (a, at, picks)) r i = (picks_in rs found r picks i).0

pub number_kept : (rs : List Record) (n : ℕ) (found : List Record) → AreConsequencesOf rs n found → (k : ℕ) → In k (numbers found) → In k (numbers rs)
number_kept rs n found are k i =
    let r = number_of found k i in
    subst (λ m. In m (numbers rs)) r.2 (number_in rs r.0 (found_kept rs n found are r.0 r.1))

-- The record at a place of a list has the number at this place.
numbered_at : (rs : List Record) (i : ℕ) → i < length (numbers rs) → (r : Record) × (slice_get rs i ≡ Some r) × (r.number ≡ get_or (numbers rs) i 0)
numbered_at [] i within = absurd (omega (arith, within))
numbered_at (r ∷ rs) zero within = (r, refl, refl)
numbered_at (r ∷ rs) (suc i) within = numbered_at rs i (omega (arith, within))

-- Where a text and the lines of steps from a place on are the whole, so are the text with the line of the slot of the number there, and the lines after it.
pub number_on : (ss : SlotList) (steps : List Record) (ns : List ℕ) (i p : ℕ) (before later all : List ℕ) → AreDistinct (numbers (held_in ss)) → ((r : Record) → In r steps → In r (held_in ss)) → numbers steps ≡ ns
    → i < length ns → HasNumberIn ss p (get_or ns i 0) → TellsSlot ss p before later → before ++ record_lines (drop i steps) ≡ all → later ++ record_lines (drop (i + 1) steps) ≡ all
number_on ss steps ns i p before later all distinct kept are within (r, stands, is) told whole =
    let s = numbered_at steps i (subst (λ ks. i < length ks) (sym are) within) in
    let held : In r (held_in ss) = in_at (held_in ss) (rank ss p) r (rank_stands ss p r stands) in
    let same : r ≡ s.0 = record_once (held_in ss) r s.0 distinct held (kept s.0 (in_at steps i s.0 s.1)) (is ∙ ap (λ ks. get_or ks i 0) (sym are) ∙ sym s.2) in
    elim told [
      | inl t ↦ (let both : Some (Some t.0) ≡ Some (Some r) = sym t.1 ∙ stands in
          let one : t.0 ≡ r = cc in
          line_on steps i t.0 before later all (s.1 ∙ ap Some (sym same ∙ sym one)) whole t.2)
      | inr t ↦ absurd (t.0 r stands)
    ]

-- After the last number no line is left.
pub numbers_end : (steps : List Record) (ns : List ℕ) (i : ℕ) (text all : List ℕ) → numbers steps ≡ ns → length ns ≤ i → text ++ record_lines (drop i steps) ≡ all → text ≡ all
numbers_end steps ns i text all are end whole =
    let long : length (numbers steps) ≡ length steps = length-map steps (λ (r : Record). r.number) in
    let few : length steps ≤ i = subst (λ k. k ≤ i) (sym (ap (λ (ks : List ℕ). length ks) are) ∙ long) end in
    let none : record_lines (drop i steps) ≡ [] = ap record_lines (drop_of_length-le steps {i = i} few) in
    sym (append-nil text) ∙ ap (λ l. text ++ l) (sym none) ∙ whole

-- The text has the lines of all that depends on a kept step.
pub effects_told : (w : World) (n : ℕ) (r : Record) (found : List Record) (text : List ℕ) → In r w.kept → r.number ≡ n → AreConsequencesOf w.kept n found → text ≡ text_or_none (record_lines found) → RepliesToEffects w n text
effects_told w n r found text kept is (inl (none, empty)) told = absurd (none r kept is)
effects_told w n r found text kept is (inr (a, at, are)) told = subst (RepliesToEffects w n) (sym told) (tells_effects a found at are)
