-- Lemmas on bytes that are cut at a mark, and on the numbers that they say.
use Rattle.ghc_records.proofs.Words.{◌≡◌, ◌≢◌, ℕ, zero, suc, ◌+◌, ◌*◌, ◌<◌, ◌≤◌, ◌^◌, true, false, eqb, All, List, [], ◌∷◌, ◌++◌, drop, get_or, length, refl, sym, ap, ◌∙◌, arith, decimal, drop_of_length-le, eq-eqb, ne_eqb, append_cancel_left, drop-drop, slice_split_at, slice_split_none, length-slice_split, join_with_byte, join_with_byte-slice_split, decimal_is_IsNumeral, decimal-digits_value, decimal_digit, decimal_injective, first_decimal, decimal_nonempty, digits_told, numerals_by_value, digit_from_value, drop-cons, digit_value, is_ascii_digit, list_all, slice_split, AllDigits, digits_value, digits_value_after, IsLineOf, greatest_number, pieces_of}
use Rattle.std.proofs.lemmas.List.{length-drop}

-- the test that finds a byte says no of every other
pub none_passes : (mark : ℕ) (bytes : List ℕ) → All (λ b. b ≢ mark) bytes → All (λ b. eqb b mark ≡ false) bytes
none_passes mark bytes h = λ k e m. ne_eqb _ mark (h k e m)

-- the piece up to the first mark, and those after it
pub first_piece : (mark : ℕ) (a b : List ℕ) → All (λ b. b ≢ mark) a → slice_split (λ b. eqb b mark) (a ++ mark ∷ b) ≡ a ∷ slice_split (λ b. eqb b mark) b
first_piece mark a b h = slice_split_at (λ b. eqb b mark) a mark b (none_passes mark a h) (eq-eqb mark mark refl)

-- bytes without the mark are one piece
pub only_piece : (mark : ℕ) (a : List ℕ) → All (λ b. b ≢ mark) a → slice_split (λ b. eqb b mark) a ≡ a ∷ []
only_piece mark a h = slice_split_none (λ b. eqb b mark) a (none_passes mark a h)

-- what stands in front of the first mark is unique, and so is what follows it
pub cut_once : (mark : ℕ) (a b c d : List ℕ) → All (λ b. b ≢ mark) a → All (λ b. b ≢ mark) c → a ++ mark ∷ b ≡ c ++ mark ∷ d → (a ≡ c) × (b ≡ d)
cut_once mark a b c d p q e =
    let heads : a ∷ slice_split (λ b. eqb b mark) b ≡ c ∷ slice_split (λ b. eqb b mark) d = sym (first_piece mark a b p) ∙ ap (slice_split (λ b. eqb b mark)) e ∙ first_piece mark c d q in
    let same : a ≡ c = cc in
    let rest : mark ∷ b ≡ mark ∷ d = append_cancel_left c (mark ∷ b) (mark ∷ d) (ap (λ l. l ++ mark ∷ b) (sym same) ∙ e) in
    let behind : b ≡ d = cc in
    (same, behind)

-- pieces are never none
pub some_piece : (mark : ℕ) (b : List ℕ) → slice_split (λ b. eqb b mark) b ≢ []
some_piece mark b e = omega (arith, length-slice_split (λ b. eqb b mark) b, ap length e)

-- bytes without the mark are not cut at it
pub no_cut : (mark : ℕ) (a b bytes : List ℕ) → All (λ b. b ≢ mark) a → All (λ b. b ≢ mark) bytes → bytes ≢ a ++ mark ∷ b
no_cut mark a b bytes p h e =
    let pieces : bytes ∷ [] ≡ a ∷ slice_split (λ b. eqb b mark) b = sym (only_piece mark bytes h) ∙ ap (slice_split (λ b. eqb b mark)) e ∙ first_piece mark a b p in
    let none : slice_split (λ b. eqb b mark) b ≡ [] = cc in
    some_piece mark b none

-- pieces make one text
pub one_text : (a b : List ℕ) → pieces_of a ≡ pieces_of b → a ≡ b
one_text a b e = sym (join_with_byte-slice_split 10 a) ∙ ap (join_with_byte 10) e ∙ join_with_byte-slice_split 10 b

-- the line in front of a line feed
pub first_line : (text a b : List ℕ) → text ≡ a ++ 10 ∷ b → All (λ b. b ≢ 10) a → pieces_of text ≡ a ∷ pieces_of b
first_line text a b e h = ap pieces_of e ∙ first_piece 10 a b h

-- digits have no mark that is none
pub digits_plain : (mark : ℕ) → is_ascii_digit mark ≡ false → (ds : List ℕ) → AllDigits 10 ds → All (λ b. b ≢ mark) ds
digits_plain mark other [] d k x low = omega (arith, low)
digits_plain mark other (c ∷ cs) d zero x low = λ e. let k = digit_from_value c d.0 in grind (arith, other, k, e)
digits_plain mark other (c ∷ cs) d (suc k) x low = digits_plain mark other cs d.1 k x (omega (arith, low))

pub fits : (n : ℕ) → n ≤ greatest_number → n < 2 ^ 64
fits n h = omega (arith, h)

-- a number has digits alone
pub number_plain : (mark n : ℕ) → is_ascii_digit mark ≡ false → n ≤ greatest_number → All (λ b. b ≢ mark) (decimal n)
number_plain mark n other h = digits_plain mark other (decimal n) (decimal_is_IsNumeral n (fits n h)).0.1

-- numbers are written in one way
pub one_number : (m n : ℕ) → m ≤ greatest_number → n ≤ greatest_number → decimal m ≡ decimal n → m ≡ n
one_number m n p q e = decimal_injective m n (fits m p) (fits n q) e

-- digits without a leading zero are the number of their value
pub digits_say : (word : List ℕ) → list_all is_ascii_digit word ≡ true → 0 < length word → (get_or word 0 0 ≡ 48 → length word ≡ 1) → digits_value 10 word ≤ greatest_number → decimal (digits_value 10 word) ≡ word
digits_say word digits some lead small = decimal-digits_value (numerals_by_value _ digits_told) word digits some lead (fits _ small)

-- a number is digits, with its value
pub said_digits : (n : ℕ) → n ≤ greatest_number → list_all is_ascii_digit (decimal n) ≡ true
said_digits n h = (numerals_by_value _ digits_told).from (decimal n) (decimal_is_IsNumeral n (fits n h)).0.1

pub said_value : (n : ℕ) → n ≤ greatest_number → digits_value 10 (decimal n) ≡ n
said_value n h = (decimal_is_IsNumeral n (fits n h)).1

-- more digits make no smaller number
pub value_after_le : (n : ℕ) (bytes : List ℕ) → n ≤ digits_value_after 10 n bytes
value_after_le n [] = omega arith
value_after_le n (byte ∷ bytes) = omega (arith, value_after_le (n * 10 + digit_value byte) bytes)

-- a value that is too great already
pub over_it : (word : List ℕ) (i n : ℕ) → i < length word → digits_value_after 10 n (drop i word) ≡ digits_value 10 word → greatest_number < n * 10 + digit_value (get_or word i 0) → greatest_number < digits_value 10 word
over_it word i n low e h =
    let split = ap (digits_value_after 10 n) (drop-cons word i 0 low) in
    omega (arith, value_after_le (n * 10 + digit_value (get_or word i 0)) (drop (suc i) word), split, e, h)

-- a number begins with no zero, but for 0 itself
pub lone_zero : (n : ℕ) → n ≤ greatest_number → get_or (decimal n) 0 0 ≡ 48 → length (decimal n) ≡ 1
lone_zero zero h e = ap length (decimal_digit 0 (omega arith))
lone_zero (suc n) h e = omega (arith, first_decimal (suc n) (omega arith) (fits (suc n) h), e)

-- a number has a digit
pub some_digit : (n : ℕ) → n ≤ greatest_number → 0 < length (decimal n)
some_digit n h = decimal_nonempty n (fits n h)

pub some_first : {X : Type 0} (xs : List X) → xs ≢ [] → (x : X) × (more : List X) × (xs ≡ x ∷ more)
some_first [] n = absurd (n refl)
some_first (x ∷ more) n = (x, more, refl)

-- after the first i pieces the next line stands
pub line_stands : (pieces : List (List ℕ)) (i : ℕ) (rest line behind : List ℕ) → drop i pieces ≡ pieces_of rest → pieces_of rest ≡ line ∷ pieces_of behind → IsLineOf pieces i line
line_stands pieces i rest line behind e f = let k = some_first (pieces_of behind) (some_piece 10 behind) in (k.0, k.1, e ∙ f ∙ ap (λ l. line ∷ l) k.2)

-- and no other
pub line_is : (pieces : List (List ℕ)) (i : ℕ) (rest line behind other : List ℕ) → drop i pieces ≡ pieces_of rest → pieces_of rest ≡ line ∷ pieces_of behind → IsLineOf pieces i other → other ≡ line
line_is pieces i rest line behind other e f (next, more, g) = let same : other ∷ next ∷ more ≡ line ∷ pieces_of behind = sym g ∙ e ∙ f in cc

-- where no line feed is left, there is no line
pub no_line : (pieces : List (List ℕ)) (i : ℕ) (rest other : List ℕ) → drop i pieces ≡ pieces_of rest → pieces_of rest ≡ rest ∷ [] → ¬ IsLineOf pieces i other
no_line pieces i rest other e f (next, more, g) = let same : other ∷ next ∷ more ≡ rest ∷ [] = sym g ∙ e ∙ f in cc

-- so many lines, and so many more
pub behind_both : (pieces : List (List ℕ)) (n m k : ℕ) → k ≡ n + m → drop k pieces ≡ drop m (drop n pieces)
behind_both pieces n m k e = ap (λ i. drop i pieces) e ∙ sym (drop-drop m n pieces)

-- one line further
pub drop_next : (pieces : List (List ℕ)) (i : ℕ) (line : List ℕ) (behind : List (List ℕ)) → drop i pieces ≡ line ∷ behind → drop (i + 1) pieces ≡ behind
drop_next pieces i line behind e = sym (drop-drop 1 i pieces) ∙ ap (drop 1) e

-- after the last piece there is none
pub none_behind : (pieces : List (List ℕ)) (i n : ℕ) (last : List ℕ) → drop i pieces ≡ last ∷ [] → i < n → drop n pieces ≡ []
none_behind pieces i n last e low = drop_of_length-le pieces {i = n} (omega (arith, low, ap length e, length-drop i pieces))
