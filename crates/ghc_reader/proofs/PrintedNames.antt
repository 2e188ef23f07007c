-- The variables of printed goals: `_n_m` is a word of its form, and is that of no other variable.
use Rattle.ghc_reader.proofs.Words.{◌≡◌, ℕ, ◌≤◌, true, List, [], ◌∷◌, ◌++◌, refl, sym, ap, ◌∙◌, subst, arith, decimal, list_all, digits_value, is_ascii_digit, nat_tests, decimal_is_IsNumeral, list_all-append, VarName, variable_text, IsRun, is_word, begins_variable, HasNumbers}
use Rattle.ghc_reader.proofs.Values.{all_of_run, one_split}
use Rattle.ghc_reader.proofs.TokenTexts.{all_digits, run_of_digits}

-- what is printed of a variable whose numbers have 32 bits
pub record IsPrintedVariable (v : List ℕ) : Type 0 where
  pub named : VarName
  pub printed : v ≡ variable_text named
  pub numbers : HasNumbers named

-- ---- the digits of a number

decimal_digits : (n : ℕ) → n ≤ 4294967295 → list_all is_ascii_digit (decimal n) ≡ true
decimal_digits n small = all_digits (decimal n) (decimal_is_IsNumeral n (omega arith)).0.1

digits_are_word : (ds : List ℕ) → list_all is_ascii_digit ds ≡ true → list_all is_word ds ≡ true
digits_are_word [] all = refl
digits_are_word (d ∷ ds) all = let others = digits_are_word ds (grind (arith, all)) in grind (arith, nat_tests, others)

-- ---- a word

pub variable_run : (v : List ℕ) → IsPrintedVariable v → IsRun begins_variable is_word v
variable_run v p =
    let x = p.named in
    let front = digits_are_word (decimal x.step) (decimal_digits x.step p.numbers.step) in
    let back = digits_are_word (decimal x.place) (decimal_digits x.place p.numbers.place) in
    let both : list_all is_word (decimal x.step ++ (95 ∷ decimal x.place)) ≡ true = list_all-append is_word (decimal x.step) (95 ∷ decimal x.place) ∙ grind (arith, front, back) in
    subst (IsRun begins_variable is_word) (sym p.printed) (refl, both)

-- ---- of no other variable

pub decimal_run : (n : ℕ) → n ≤ 4294967295 → IsRun is_ascii_digit is_ascii_digit (decimal n)
decimal_run n small = let k = decimal_is_IsNumeral n (omega arith) in run_of_digits (decimal n) k.0.0 k.0.1

-- digits that such a word is made of have the values of its numbers
pub numbers_back : (x : VarName) → HasNumbers x → (first second : List ℕ) → IsRun is_ascii_digit is_ascii_digit first → IsRun is_ascii_digit is_ascii_digit second → variable_text x ≡ 95 ∷ (first ++ 95 ∷ second)
    → (digits_value 10 first ≡ x.step) × (digits_value 10 second ≡ x.place)
numbers_back x small first second front back e =
    let tails : decimal x.step ++ (95 ∷ decimal x.place) ≡ first ++ (95 ∷ second) = cc in
    let same = one_split is_ascii_digit (decimal x.step) (95 ∷ decimal x.place) first (95 ∷ second) (decimal_digits x.step small.step) refl (all_of_run first front) refl tails in
    let places : decimal x.place ≡ second = let behind = same.back in cc in (
      ap (digits_value 10) (sym same.front) ∙ (decimal_is_IsNumeral x.step (omega (arith, small.step))).1,
      ap (digits_value 10) (sym places) ∙ (decimal_is_IsNumeral x.place (omega (arith, small.place))).1,
    )

pub one_variable : (x y : VarName) → HasNumbers x → HasNumbers y → variable_text x ≡ variable_text y → x ≡ y
one_variable x y a b e =
    let back = numbers_back x a (decimal y.step) (decimal y.place) (decimal_run y.step b.step) (decimal_run y.place b.place) e in
    let step = sym back.0 ∙ (decimal_is_IsNumeral y.step (omega (arith, b.step))).1 in
    let place = sym back.1 ∙ (decimal_is_IsNumeral y.place (omega (arith, b.place))).1 in
    λ i. record { step = step i; place = place i }
