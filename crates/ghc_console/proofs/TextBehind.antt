-- What stands after the words of a line.
use Rattle.ghc_console.proofs.CitedWords.{◌≡◌, ◌≢◌, ℕ, ◌+◌, ◌-◌, All, true, false, List, [], ◌∷◌, ◌++◌, cond, eqb, length, take, drop, refl, sym, ap, ◌∙◌, append-nil, eqb-true, ne_eqb, take_rest, drop-drop, nil_from_length, All-head, All-tail, behind, from_space, unindented}

-- a word in front stays
word_stays : (word more : List ℕ) → All (λ b. b ≢ 32) word → eqb (length word) 0 ≡ false → unindented (word ++ more) ≡ word ++ more
word_stays [] more plain filled = cc
word_stays (b ∷ bytes) more plain filled = ap (λ t. cond t (unindented (bytes ++ more)) (b ∷ (bytes ++ more))) (ne_eqb b 32 (All-head (λ a. a ≢ 32) b bytes plain))

-- and it is passed on the way to the first space
word_passed : (word more : List ℕ) → All (λ b. b ≢ 32) word → from_space (word ++ more) ≡ from_space more
word_passed [] more plain = refl
word_passed (b ∷ bytes) more plain =
    ap (λ t. cond t (b ∷ (bytes ++ more)) (from_space (bytes ++ more))) (ne_eqb b 32 (All-head (λ a. a ≢ 32) b bytes plain))
    ∙ word_passed bytes more (All-tail (λ a. a ≢ 32) b bytes plain)

nothing_in : (word : List ℕ) → eqb (length word) 0 ≡ true → word ≡ []
nothing_in word e = nil_from_length word (eqb-true (length word) 0 e)

-- what is cut off after the first space
cut : (rest tail : List ℕ) (i : ℕ) → tail ≡ drop i rest → take (length tail - 1) (drop 1 tail) ≡ drop (i + 1) rest
cut rest tail i back = take_rest tail 1 ∙ ap (drop 1) back ∙ drop-drop 1 i rest

-- A space in front is passed.
pub space_off : (rest line word tail : List ℕ) (i : ℕ) → rest ≡ take i rest ++ 32 ∷ drop (i + 1) rest → unindented rest ≡ unindented line → word ≡ take i rest → tail ≡ drop i rest
    → eqb (length word) 0 ≡ true → unindented (take (length tail - 1) (drop 1 tail)) ≡ unindented line
space_off rest line word tail i e same front back none =
    let left = drop (i + 1) rest in
    ap unindented (cut rest tail i back) ∙ sym (ap unindented (e ∙ ap (λ w. w ++ 32 ∷ left) (sym front ∙ nothing_in word none))) ∙ same

-- After a word and a space comes what is after the first word of the line.
pub behind_word : (rest line word tail : List ℕ) (i : ℕ) → rest ≡ take i rest ++ 32 ∷ drop (i + 1) rest → All (λ b. b ≢ 32) (take i rest) → unindented rest ≡ unindented line
    → word ≡ take i rest → tail ≡ drop i rest → eqb (length word) 0 ≡ false → unindented (take (length tail - 1) (drop 1 tail)) ≡ behind 1 line
behind_word rest line word tail i e plain same front back filled =
    let left = drop (i + 1) rest in
    let at_word : unindented rest ≡ take i rest ++ 32 ∷ left = ap unindented e ∙ word_stays (take i rest) (32 ∷ left) plain (ap (λ w. eqb (length w) 0) (sym front) ∙ filled) in
    ap unindented (cut rest tail i back) ∙ sym (ap (λ l. unindented (from_space l)) (sym same ∙ at_word) ∙ ap unindented (word_passed (take i rest) (32 ∷ left) plain))

-- After the last word comes nothing.
pub behind_last : (rest line : List ℕ) → All (λ b. b ≢ 32) rest → unindented rest ≡ unindented line → eqb (length rest) 0 ≡ false → unindented [] ≡ behind 1 line
behind_last rest line plain same filled =
    let at_word : unindented rest ≡ rest ++ [] = ap unindented (sym (append-nil rest)) ∙ word_stays rest [] plain filled in
    sym (ap (λ l. unindented (from_space l)) (sym same ∙ at_word) ∙ ap unindented (word_passed rest [] plain))
