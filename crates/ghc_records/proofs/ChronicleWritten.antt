-- The lines of chronicles, as they are written.
use Rattle.ghc_records.proofs.Words.{◌≡◌, ℕ, ◌+◌, ◌<◌, zero, suc, List, [], ◌∷◌, ◌++◌, drop, get_or, length, map, refl, sym, ap, ◌∙◌, subst, append_assoc, decimal, Some, slice_get, arith, codes, drop_more, step_text, History, end_line, lines_text, entry_text, numbers_behind, predicate_text, Chronicle, chronicle_heading, chronicle_text, entries_line, opening_line, spies_line}
use Rattle.ghc_records.proofs.HistoryLines.{lines_after}

-- the thing at a place of a list, in front of those after it
pub here : {A : Type 0} (xs : List A) (i : ℕ) (x : A) → i < length xs → x ≡ get_or xs i x → drop i xs ≡ x ∷ drop (i + 1) xs
here xs i x low is = sym (ap (λ z. z ∷ drop (i + 1) xs) is ∙ sym (drop_more xs i x low))

there_suc : {A : Type 0} (xs : List A) (i : ℕ) → i < length xs → (x : A) × (slice_get xs i ≡ Some x) × (drop i xs ≡ x ∷ drop (suc i) xs)
there_suc [] i low = absurd (omega (arith, low))
there_suc (x ∷ xs) zero low = (x, refl, refl)
there_suc (x ∷ xs) (suc i) low = there_suc xs i (omega (arith, low))

-- there is one at each place
pub there : {A : Type 0} (xs : List A) (i : ℕ) → i < length xs → (x : A) × (slice_get xs i ≡ Some x) × (drop i xs ≡ x ∷ drop (i + 1) xs)
there xs i low =
    let k = there_suc xs i low in
    let next : suc i ≡ i + 1 = omega arith in
    (k.0, k.1, subst (λ j. drop i xs ≡ k.0 ∷ drop j xs) next k.2)

-- a line that is put after a text, in front of others
pub put_first : (old line rest new : List ℕ) → new ≡ old ++ (line ++ codes "\n") → new ++ rest ≡ old ++ (line ++ (codes "\n" ++ rest))
put_first old line rest new e = ap (λ l. l ++ rest) e ∙ append_assoc old (line ++ codes "\n") rest ∙ ap (λ l. old ++ l) (append_assoc line (codes "\n") rest)

-- Where a text and the lines from a place on are all, so are the text with the line there and the lines after it.
pub line_put : {A : Type 0} (f : A → List ℕ) (xs : List A) (i : ℕ) (x : A) (before after whole : List ℕ) → drop i xs ≡ x ∷ drop (i + 1) xs → after ≡ before ++ (f x ++ codes "\n")
    → before ++ lines_text (map f (drop i xs)) ≡ whole → after ++ lines_text (map f (drop (i + 1) xs)) ≡ whole
line_put f xs i x before after whole here wrote all = simp (wrote, append_assoc) (rw here at all)

-- in two pieces
pub ended : (before mid after text : List ℕ) → mid ≡ before ++ text → after ≡ mid ++ codes "\n" → after ≡ before ++ (text ++ codes "\n")
ended before mid after text wrote fed = fed ∙ ap (λ l. l ++ codes "\n") wrote ∙ append_assoc before text (codes "\n")

-- a number that is put after a space
pub number_put : (ns : List ℕ) (i n : ℕ) (before after whole : List ℕ) → drop i ns ≡ n ∷ drop (i + 1) ns → after ≡ before ++ (codes " " ++ decimal n)
    → before ++ numbers_behind (drop i ns) ≡ whole → after ++ numbers_behind (drop (i + 1) ns) ≡ whole
number_put ns i n before after whole here wrote all = simp (wrote, append_assoc) (rw here at all)

-- piece by piece, heading and opening are written
pub opening_written : (o : History) (old a b c d e f : List ℕ) → a ≡ old ++ codes "ghc-history 2\nopening " → b ≡ a ++ decimal (length o.steps) → c ≡ b ++ codes " " → d ≡ c ++ decimal o.next → e ≡ d ++ codes "\n"
    → f ≡ e ++ lines_text (map step_text o.steps) → f ≡ old ++ lines_text (chronicle_heading ∷ opening_line o.next (length o.steps) ∷ map step_text o.steps)
opening_written o old a b c d e f a_is b_is c_is d_is e_is f_is = simp (f_is, e_is, d_is, c_is, b_is, a_is, append_assoc)

-- part by part, a chronicle is written
pub chronicle_written : (x : Chronicle) (old a b c d : List ℕ) → a ≡ old ++ lines_text (chronicle_heading ∷ opening_line x.opening.next (length x.opening.steps) ∷ map step_text x.opening.steps)
    → b ≡ a ++ lines_text (entries_line (length x.entries) ∷ map entry_text x.entries) → c ≡ b ++ lines_text (spies_line (length x.spies) ∷ map predicate_text x.spies)
    → d ≡ c ++ (end_line x.next ++ codes "\n") → d ≡ old ++ chronicle_text x
chronicle_written x old a b c d a_is b_is c_is d_is = simp (d_is, c_is, b_is, a_is, append_assoc, lines_after)
