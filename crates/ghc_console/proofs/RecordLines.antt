-- The lines of records, one more at a time.
use Rattle.ghc_console.proofs.CitedWords.{◌≡◌, ℕ, suc, ◌+◌, List, [], ◌∷◌, ◌++◌, drop, drop-cons, sym, ap, ◌∙◌, subst, inl, inr, slice_get, append_assoc, append-nil, arith, Some, slice_get_within, get_or_from_slice_get, Record, SlotList, held_in, rank, rank_stands, rank_next, rank_gap, record_text, lined, record_lines, TellsSlot}

-- What is left from a place on is the record there and the rest.
pub drop_at : (rs : List Record) (i : ℕ) (r : Record) → slice_get rs i ≡ Some r → drop i rs ≡ r ∷ drop (i + 1) rs
drop_at rs i r e =
    let more : suc i ≡ i + 1 = omega arith in
    drop-cons rs i r (slice_get_within rs i r e) ∙ (λ k. get_or_from_slice_get rs i r r e k ∷ drop (more k) rs)

-- Where a text and the lines from a place on are the whole, so are the text with the line there and the lines after it.
pub line_on : (rs : List Record) (i : ℕ) (r : Record) (before later all : List ℕ) → slice_get rs i ≡ Some r → before ++ record_lines (drop i rs) ≡ all
    → later ≡ before ++ record_lines (r ∷ []) → later ++ record_lines (drop (i + 1) rs) ≡ all
line_on rs i r before later all there whole wrote =
    let rest = record_lines (drop (i + 1) rs) in
    ap (λ l. l ++ rest) wrote ∙ append_assoc before (lined (record_text r) ++ []) rest ∙ ap (λ l. before ++ l) (append_assoc (lined (record_text r)) [] rest)
    ∙ ap (λ l. before ++ record_lines l) (sym (drop_at rs i r there)) ∙ whole

-- So it is slot by slot.
pub slot_on : (ss : SlotList) (i : ℕ) (before later all : List ℕ) → TellsSlot ss i before later → before ++ record_lines (drop (rank ss i) (held_in ss)) ≡ all
    → later ++ record_lines (drop (rank ss (i + 1)) (held_in ss)) ≡ all
slot_on ss i before later all (inl t) whole =
    subst (λ k. later ++ record_lines (drop k (held_in ss)) ≡ all) (sym (rank_next ss i t.0 t.1)) (line_on (held_in ss) (rank ss i) t.0 before later all (rank_stands ss i t.0 t.1) whole t.2)
slot_on ss i before later all (inr t) whole =
    subst (λ k. later ++ record_lines (drop k (held_in ss)) ≡ all) (sym (rank_gap ss i t.0)) (subst (λ l. l ++ record_lines (drop (rank ss i) (held_in ss)) ≡ all) (sym t.1) whole)

-- the line of a record
pub one_line : (r : Record) (before mid after : List ℕ) → mid ≡ before ++ record_text r → after ≡ mid ++ 10 ∷ [] → after ≡ before ++ record_lines (r ∷ [])
one_line r before mid after wrote ended = ended ∙ ap (λ l. l ++ 10 ∷ []) wrote ∙ append_assoc before (record_text r) (10 ∷ []) ∙ ap (λ l. before ++ l) (sym (append-nil (lined (record_text r))))
