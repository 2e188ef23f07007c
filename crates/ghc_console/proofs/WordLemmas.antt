-- Lemmas on words, numbers and names of goals.
use Rattle.ghc_console.proofs.CitedWords.{◌≡◌, ◌≢◌, ℕ, ◌+◌, ◌-◌, ◌*◌, Bool, true, false, cond, eqb, All, Option, Some, None, inl, inr, ◌⊎◌, List, [], ◌&&◌, ◌<◌, not, leb, zero, suc, length, filter, get_or, take, drop, ◌∷◌, ◌++◌, refl, sym, ap, ◌∙◌, arith, rules, eq-eqb, eqb-true, false≢true, take_rest, drop-drop, slice_split-cons_no, slice_split-cons_yes, slice_split_at, digit_value, is_ascii_digit, list_all, slice_split, onto_first, digits_value, digits_value_after, IsAscii, is_name_byte, goal_name_of, goal_named, goal_of_parts, is_variable, number_of, words_of}
use Rattle.std.proofs.Math.Seq.{drop-cons}
pub use Rattle.ghc_records.proofs.CutLemmas.{only_piece}
use Rattle.ghc_records.proofs.CutLemmas.{none_passes, value_after_le}

-- the part up to the first of the wanted bytes
pub split-first : (wanted : ℕ) (part rest : List ℕ) → All (λ b. b ≢ wanted) part → slice_split (λ b. eqb b wanted) (part ++ wanted ∷ rest) ≡ part ∷ slice_split (λ b. eqb b wanted) rest
split-first wanted part rest h = slice_split_at (λ b. eqb b wanted) part wanted rest (none_passes wanted part h) (eq-eqb wanted wanted refl)

-- a number over the range is none
pub too_big : (word : List ℕ) → 4294967295 < digits_value 10 word → number_of word ≡ None
too_big word h =
    let over : leb (digits_value 10 word) 4294967295 ≡ false = search rules in
    gate (not (eqb (length word) 0)) (list_all is_ascii_digit word) (leb (digits_value 10 word) 4294967295) (digits_value 10 word) over
  where
    gate : (a b c : Bool) (v : ℕ) → c ≡ false → cond (a && (b && c)) (Some v) None ≡ None
    gate false b c v e = refl
    gate true false c v e = refl
    gate true true true v e = cc
    gate true true false v e = refl

-- and so is one that is over it already
pub over_it : (word : List ℕ) (i n : ℕ) → i < length word → digits_value_after 10 n (drop i word) ≡ digits_value 10 word → 4294967295 < n * 10 + digit_value (get_or word i 0) → number_of word ≡ None
over_it word i n low e h =
    let split = ap (digits_value_after 10 n) (drop-cons word i 0 low) in
    too_big word (omega (arith, value_after_le (n * 10 + digit_value (get_or word i 0)) (drop (suc i) word), split, e))

abbrev pub filled : List ℕ → Bool
filled word = not (eqb (length word) 0)

front_word : (word : List ℕ) (words : List (List ℕ)) → filter filled (word ∷ words) ≡ filter filled (word ∷ []) ++ filter filled words
front_word word words = elim (filled word) as (λ b. cond b (word ∷ filter filled words) (filter filled words) ≡ cond b (word ∷ []) [] ++ filter filled words) [ true ↦ refl | false ↦ refl ]

-- a word alone counts where it is not empty
one_word : (word : List ℕ) (empty : Bool) → eqb (length word) 0 ≡ empty → filter filled (word ∷ []) ≡ cond empty [] (word ∷ [])
one_word word true e = ap (λ b. cond (not b) (word ∷ []) []) e
one_word word false e = ap (λ b. cond (not b) (word ∷ []) []) e

-- The words of a line that are left in the rest: the first part of it, where it is one, and those after the blank.
pub words_on : (rest line word behind : List ℕ) (i : ℕ) (empty : Bool) → rest ≡ take i rest ++ 32 ∷ drop (i + 1) rest → All (λ b. b ≢ 32) (take i rest) → words_of rest ≡ words_of line
    → word ≡ take i rest → behind ≡ drop i rest → eqb (length word) 0 ≡ empty → words_of line ≡ cond empty [] (word ∷ []) ++ words_of (take (length behind - 1) (drop 1 behind))
words_on rest line word behind i empty e plain h front back is =
    let later : take (length behind - 1) (drop 1 behind) ≡ drop (i + 1) rest = take_rest behind 1 ∙ ap (drop 1) back ∙ drop-drop 1 i rest in
    let split = ap words_of e ∙ ap (filter filled) (split-first 32 (take i rest) (drop (i + 1) rest) plain) ∙ front_word (take i rest) (slice_split (λ b. eqb b 32) (drop (i + 1) rest)) in
    sym h ∙ split ∙ ap (λ w. filter filled (w ∷ []) ++ words_of (drop (i + 1) rest)) (sym front)
    ∙ ap (λ l. l ++ words_of (drop (i + 1) rest)) (one_word word empty is) ∙ ap (λ l. cond empty [] (word ∷ []) ++ words_of l) (sym later)

-- where the rest has no blank, it is the last word, or none is left
pub last_word : (rest line : List ℕ) (empty : Bool) → All (λ b. b ≢ 32) rest → words_of rest ≡ words_of line → eqb (length rest) 0 ≡ empty → words_of line ≡ cond empty [] (rest ∷ [])
last_word rest line empty plain h is = sym h ∙ ap (filter filled) (only_piece 32 rest plain) ∙ one_word rest empty is

-- Bytes are one part, or they have the wanted byte and are no number.
abbrev pub IsOnePartOrNone : ℕ → List ℕ → Type 0
IsOnePartOrNone wanted bytes =
    (slice_split (λ b. eqb b wanted) bytes ≡ bytes ∷ [])
    ⊎ ((first second : List ℕ) × (rest : List (List ℕ)) × (slice_split (λ b. eqb b wanted) bytes ≡ first ∷ second ∷ rest) × (list_all is_ascii_digit bytes ≡ false))

all_false : (a b : Bool) → b ≡ false → (a && b) ≡ false
all_false true b e = e
all_false false b e = refl

-- where the wanted byte is no digit
module _ (wanted : ℕ) (plain : is_ascii_digit wanted ≡ false) where
  no_digit : (byte : ℕ) (bytes : List ℕ) → eqb byte wanted ≡ true → list_all is_ascii_digit (byte ∷ bytes) ≡ false
  no_digit byte bytes e = ap (λ t. t && list_all is_ascii_digit bytes) (ap is_ascii_digit (eqb-true byte wanted e) ∙ plain)

  one_more : (byte : ℕ) (bytes : List ℕ) (t : Bool) → eqb byte wanted ≡ t → IsOnePartOrNone wanted bytes → IsOnePartOrNone wanted (byte ∷ bytes)
  one_more byte bytes true e (inl h) = inr ([], bytes, [], slice_split-cons_yes (λ b. eqb b wanted) byte bytes e ∙ ap (λ l. [] ∷ l) h, no_digit byte bytes e)
  one_more byte bytes true e (inr h) = inr ([], h.0, h.1 ∷ h.2, slice_split-cons_yes (λ b. eqb b wanted) byte bytes e ∙ ap (λ l. [] ∷ l) h.3, no_digit byte bytes e)
  one_more byte bytes false e (inl h) = inl (slice_split-cons_no (λ b. eqb b wanted) byte bytes e ∙ ap (onto_first byte) h)
  one_more byte bytes false e (inr h) =
      inr (byte ∷ h.0, h.1, h.2, slice_split-cons_no (λ b. eqb b wanted) byte bytes e ∙ ap (onto_first byte) h.3, all_false (is_ascii_digit byte) (list_all is_ascii_digit bytes) h.4)

  pub one_part_or_none : (bytes : List ℕ) → IsOnePartOrNone wanted bytes
  one_part_or_none [] = inl refl
  one_part_or_none (byte ∷ bytes) = one_more byte bytes (eqb byte wanted) refl (one_part_or_none bytes)

pub no_number : (word : List ℕ) → list_all is_ascii_digit word ≡ false → number_of word ≡ None
no_number word e = gate (not (eqb (length word) 0)) (list_all is_ascii_digit word) (leb (digits_value 10 word) 4294967295) (digits_value 10 word) e
  where
    gate : (a b c : Bool) (v : ℕ) → b ≡ false → cond (a && (b && c)) (Some v) None ≡ None
    gate false b c v e = refl
    gate true true c v e = cc
    gate true false c v e = refl

-- the part before the first point, and all after it
pub goal_at_point : (word : List ℕ) (i : ℕ) → word ≡ take i word ++ 46 ∷ drop (i + 1) word → All (λ b. b ≢ 46) (take i word)
    → goal_name_of word ≡ goal_named (number_of (take i word)) (number_of (drop (i + 1) word))
goal_at_point word i e plain =
    ap goal_name_of e ∙ ap goal_of_parts (split-first 46 (take i word) (drop (i + 1) word) plain)
    ∙ behind (drop (i + 1) word) (one_part_or_none 46 refl (drop (i + 1) word))
  where
    nothing : (step : Option ℕ) → goal_named step None ≡ None
    nothing None = refl
    nothing (Some step) = refl

    behind : (place : List ℕ) → IsOnePartOrNone 46 place → goal_of_parts (take i word ∷ slice_split (λ b. eqb b 46) place) ≡ goal_named (number_of (take i word)) (number_of place)
    behind place (inl h) = ap (λ l. goal_of_parts (take i word ∷ l)) h
    behind place (inr h) =
        ap (λ l. goal_of_parts (take i word ∷ l)) h.3 ∙ sym (nothing (number_of (take i word))) ∙ ap (goal_named (number_of (take i word))) (sym (no_number place h.4))

-- without a point there is no goal
pub no_point : (word : List ℕ) → All (λ b. b ≢ 46) word → goal_name_of word ≡ None
no_point word plain = ap goal_of_parts (only_piece 46 word plain)

-- the bytes of names are ASCII
ascii_name : (b : ℕ) → is_name_byte b ≡ true → b < 128
ascii_name b e = grind (arith, e)

pub ascii_names : (bytes : List ℕ) → list_all is_name_byte bytes ≡ true → IsAscii bytes
ascii_names [] e i = omega arith
ascii_names (b ∷ bytes) e zero = ascii_name b (grind (arith, e))
ascii_names (b ∷ bytes) e (suc i) = ascii_names bytes (grind (arith, e)) i

-- and so are those of a variable
pub ascii_variable : (word : List ℕ) → is_variable word ≡ true → IsAscii word
ascii_variable [] e i = absurd (false≢true e)
ascii_variable (b ∷ bytes) e zero = grind (arith, e)
ascii_variable (b ∷ bytes) e (suc i) = ascii_names bytes (grind (arith, e)) i
