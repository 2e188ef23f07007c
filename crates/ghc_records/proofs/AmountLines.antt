-- Lemmas on lines that say numbers after a word.
use Rattle.ghc_records.proofs.Words.{◌≡◌, ◌≢◌, ◌<◌, ◌≤◌, ◌++◌, ◌∷◌, All, ℕ, List, Option, Some, None, IfNone, refl, sym, ap, ◌∙◌, arith, decimal, codes, append_cancel_left, kept_limit, greatest_number, IsNext, opening_line}
use Rattle.ghc_records.proofs.CutLemmas.{cut_once, no_cut, number_plain, one_number}

-- what follows the same front
pub rest_is : (line front word other : List ℕ) → line ≡ front ++ word → line ≡ front ++ other → word ≡ other
rest_is line front word other e f = append_cancel_left front word other (sym e ∙ f)

-- a number over the limit
pub too_great : (line front word : List ℕ) (value limit : ℕ) → line ≡ front ++ word → word ≡ decimal value → value ≤ greatest_number → limit < value → limit ≤ greatest_number → (n : ℕ) → n ≤ limit → line ≢ front ++ decimal n
too_great line front word value limit begins is small great fits n few e =
    omega (arith, great, few, one_number n value (omega (arith, few, fits)) small (sym (rest_is line front word (decimal n) begins e) ∙ is))

pub unsaid : (line front word : List ℕ) (limit : ℕ) → line ≡ front ++ word → limit ≤ greatest_number → ((n : ℕ) → n ≤ greatest_number → word ≢ decimal n) → (n : ℕ) → n ≤ limit → line ≢ front ++ decimal n
unsaid line front word limit begins fits none n few e = none n (omega (arith, few, fits)) (rest_is line front word (decimal n) begins e)

-- too many steps
pub too_many : (count next : List ℕ) (value : ℕ) → count ≡ decimal value → value ≤ greatest_number → 1000000 < value → (m n : ℕ) → IsNext n → m ≤ kept_limit → count ≡ decimal m → next ≢ decimal n
too_many count next value is small many m n fits few e f = omega (arith, many, few, one_number m value (omega (arith, few)) small (sym e ∙ is))

-- the words of an opening
opening_rest : (line front words : List ℕ) → front ≡ codes "opening " → line ≡ front ++ words → (next count : ℕ) → line ≡ opening_line next count → words ≡ decimal count ++ 32 ∷ decimal next
opening_rest line front words at begins next count e = append_cancel_left (codes "opening ") words (decimal count ++ 32 ∷ decimal next) (ap (λ l. l ++ words) (sym at) ∙ sym begins ∙ e)

pub one_word_only : (line front words : List ℕ) → front ≡ codes "opening " → line ≡ front ++ words → All (λ c. c ≢ 32) words → (next count : ℕ) → IsNext next → count ≤ kept_limit → line ≢ opening_line next count
one_word_only line front words at begins plain next count fits few e =
    no_cut 32 (decimal count) (decimal next) words (number_plain 32 count refl (omega (arith, few))) plain (opening_rest line front words at begins next count e)

pub no_opening_words : (line front words a b : List ℕ) (r : Option (ℕ × ℕ)) → front ≡ codes "opening " → line ≡ front ++ words → words ≡ a ++ 32 ∷ b → All (λ c. c ≢ 32) a
    → IfNone r ((m n : ℕ) → IsNext n → m ≤ kept_limit → a ≡ decimal m → b ≢ decimal n) → IfNone r ((next count : ℕ) → IsNext next → count ≤ kept_limit → line ≢ opening_line next count)
no_opening_words line front words a b (Some p) at begins cut plain none = tt
no_opening_words line front words a b None at begins cut plain none = λ next count fits few e.
    let same = cut_once 32 a b (decimal count) (decimal next) plain (number_plain 32 count refl (omega (arith, few))) (sym cut ∙ opening_rest line front words at begins next count e) in
    none count next fits few same.0 same.1
