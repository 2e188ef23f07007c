-- Reserved variables, and what the bytes of an integer stand for.
use Rattle.ghc_reader.proofs.Words.{◌≡◌, ◌≢◌, ◌⊎◌, ℕ, ◌<◌, ◌≤◌, Bool, true, List, [], ◌∷◌, ◌++◌, length, Result, Err, MatchResult, OkIff, Option, Some, None, is_some, IsTrue, MatchOption, ◌↔◌, ◌^◌, not, false, rules, refl, sym, ap, subst, ◌∙◌, inl, inr, arith, ◌==◌, FitsSigned, IsOk, AllDigits, IsNumeral, without_leading_sign, digits_value, signed_digits_value, ParsesUnsigned, is_ascii_digit, list_all, append-nil, cases_lt, false≢true, nat_tests, IsDigitsTest, numerals_by_value, parse_digits, IsRun, Lacks, HasForm, AreDigits, BeginsNumber, IsReserved, IsReservedBy, IsReservedAs, IsNumberedAs, IsTooGreat, greatest_number}
use Rattle.std.specs.Int.{w64}
use Rattle.ghc_reader.specs.declared.lexer.front.Kind.TheVariants as kind

pub all_of_run : (bs : List ℕ) → IsRun is_ascii_digit is_ascii_digit bs → list_all is_ascii_digit bs ≡ true
all_of_run [] run = absurd run
all_of_run (b ∷ bs) run = let first = run.0 in let others = run.1 in grind (arith, first, others)

-- the longest run and what follows it, in one way
pub record SameSplit (a b c d : List ℕ) : Type 0 where
  pub front : a ≡ c
  pub back : b ≡ d

pub one_split : (test : ℕ → Bool) (a b c d : List ℕ) → list_all test a ≡ true → Lacks test b → list_all test c ≡ true → Lacks test d → a ++ b ≡ c ++ d → SameSplit a b c d
one_split test [] b [] d all stops all' stops' e = record { front = refl; back = e }
one_split test [] b (x ∷ c) d all stops all' stops' e = let lacks = subst (Lacks test) e stops in absurd (grind (arith, lacks, all'))
one_split test (x ∷ a) b [] d all stops all' stops' e = let lacks = subst (Lacks test) (sym e) stops' in absurd (grind (arith, lacks, all))
one_split test (x ∷ a) b (y ∷ c) d all stops all' stops' e =
    let same = one_split test a b c d (grind (arith, all)) stops (grind (arith, all')) stops' (cc) in
    record { front = cc (same.front); back = same.back }

-- ---- reserved variables

pub no_number : (text : List ℕ) → ((digits more : List ℕ) → AreDigits digits → text ≢ 95 ∷ (digits ++ more)) → ¬ (IsReserved text)
no_number text none (first, second, (run, run', e)) = none first (95 ∷ second) run e

-- a text begins with one number
same_number : (text found rest digits more : List ℕ) → BeginsNumber text found rest → AreDigits digits → Lacks is_ascii_digit more → text ≡ 95 ∷ (digits ++ more) → SameSplit found rest digits more
same_number text found rest digits more (run, is, stops) run' stops' e =
    let tails : found ++ rest ≡ digits ++ more = cc in
    one_split is_ascii_digit found rest digits more (all_of_run found run) stops (all_of_run digits run') stops' tails

pub no_second_number : (text first rest : List ℕ) → BeginsNumber text first rest → ((digits more : List ℕ) → AreDigits digits → rest ≢ 95 ∷ (digits ++ more)) → ¬ (IsReserved text)
no_second_number text first rest begins none (digits, second, (run, run', e)) =
    none second [] run' ((same_number text first rest digits (95 ∷ second) begins run refl e).back ∙ ap (λ l. 95 ∷ l) (sym (append-nil second)))

pub reserved_ends : (text first rest second end : List ℕ) → BeginsNumber text first rest → BeginsNumber rest second end → IsReserved text → end ≡ []
reserved_ends text first rest second end begins goes_on (digits, more, (run, run', e)) =
    let rest_is = (same_number text first rest digits (95 ∷ more) begins run refl e).back in
    (same_number rest second end more [] goes_on run' tt (rest_is ∙ ap (λ l. 95 ∷ l) (sym (append-nil more)))).back

pub reserved_by : (text first rest second end : List ℕ) → BeginsNumber text first rest → BeginsNumber rest second end → end ≡ [] → IsReservedBy text first second
reserved_by text first rest second end begins goes_on none =
    (begins.0, goes_on.0, begins.1 ∙ ap (λ l. 95 ∷ (first ++ l)) (goes_on.1 ∙ ap (λ l. 95 ∷ l) (ap (λ l. second ++ l) none ∙ append-nil second)))

-- ---- their numbers

-- the digits of a reserved variable are these alone
one_spelling : (bs a b c d : List ℕ) → IsReservedBy bs a b → IsReservedBy bs c d → SameSplit a b c d
one_spelling bs a b c d h k =
    let whole : a ++ 95 ∷ b ≡ c ++ 95 ∷ d = cc in
    let same = one_split is_ascii_digit a (95 ∷ b) c (95 ∷ d) (all_of_run a h.0) refl (all_of_run c k.0) refl whole in
    record { front = same.front; back = cc }

-- a reserved variable has these numbers alone
pub same_numbers : (bs : List ℕ) (n m k l : ℕ) → IsReservedAs bs n m → IsReservedAs bs k l → (n ≡ k) × (m ≡ l)
same_numbers bs n m k l (a, b, h, first, second) (c, d, h', first', second') =
    let same = one_spelling bs a b c d h h' in
    (first ∙ ap (digits_value 10) same.front ∙ sym first', second ∙ ap (digits_value 10) same.back ∙ sym second')

pub numbered_by : (bs first second : List ℕ) (n m : ℕ) → IsReservedBy bs first second → n ≡ digits_value 10 first → m ≡ digits_value 10 second → n ≤ greatest_number → m ≤ greatest_number → IsNumberedAs bs n m
numbered_by bs first second n m h one two low below = ((first, second, h, one, two), low, below)

-- with a number that is too great it has none that fit
pub not_numbered : (bs first second : List ℕ) → IsReservedBy bs first second → (greatest_number < digits_value 10 first) ⊎ (greatest_number < digits_value 10 second) → (n m : ℕ) → ¬ (IsNumberedAs bs n m)
not_numbered bs first second h over n m (here, low, below) =
    let same = same_numbers bs n m (digits_value 10 first) (digits_value 10 second) here (first, second, h, refl, refl) in
    elim over [
      | inl great ↦ omega (arith, same.0, low, great)
      | inr great ↦ omega (arith, same.1, below, great)
    ]

pub never_too_great : (bs : List ℕ) (n m : ℕ) → IsNumberedAs bs n m → ¬ (IsTooGreat bs)
never_too_great bs n m numbered (k, l, (first, second, h, one, two), over) =
    not_numbered bs first second h (elim over [ inl great ↦ inl (subst (λ x. greatest_number < x) one great) | inr great ↦ inr (subst (λ x. greatest_number < x) two great) ]) n m numbered

-- without numbers that fit, one is too great
pub too_great_else : (bs : List ℕ) → IsReserved bs → ((n m : ℕ) → ¬ (IsNumberedAs bs n m)) → IsTooGreat bs
too_great_else bs (first, second, h) none = by_first (cases_lt greatest_number (digits_value 10 first)) (cases_lt greatest_number (digits_value 10 second))
  where
    n : ℕ
    n = digits_value 10 first

    m : ℕ
    m = digits_value 10 second

    by_first : (greatest_number < n) ⊎ (n ≤ greatest_number) → (greatest_number < m) ⊎ (m ≤ greatest_number) → IsTooGreat bs
    by_first (inl great) other = (n, m, (first, second, h, refl, refl), inl great)
    by_first (inr low) (inl great) = (n, m, (first, second, h, refl, refl), inr great)
    by_first (inr low) (inr below) = absurd (none n m ((first, second, h, refl, refl), low, below))

pub too_great_is_reserved : (bs : List ℕ) → IsTooGreat bs → IsReserved bs
too_great_is_reserved bs (n, m, (first, second, h, one, two), over) = (first, second, h)

-- where no numbers are found
pub tests_numbers : (bs : List ℕ) (found : Option (ℕ × ℕ)) (none : Bool) → is_some found ≡ not none → IsReserved bs → MatchOption found ((n m : ℕ) → ¬ (IsNumberedAs bs n m)) (λ numbers. IsNumberedAs bs numbers.0 numbers.1) → IsTrue none ↔ IsTooGreat bs
tests_numbers bs None true e reserved h = (λ _. too_great_else bs reserved h, λ _. refl)
tests_numbers bs None false e reserved h = cc
tests_numbers bs (Some numbers) true e reserved h = cc
tests_numbers bs (Some numbers) false e reserved h = (λ wrong. absurd (false≢true wrong), λ great. absurd (never_too_great bs numbers.0 numbers.1 h great))

-- ---- integers

nonempty : (ds : List ℕ) → AreDigits ds → 0 < length ds
nonempty ds run = grind arith

pub digits_of_all : (bs : List ℕ) → list_all is_ascii_digit bs ≡ true → AllDigits 10 bs
digits_of_all [] all = tt
digits_of_all (b ∷ bs) all =
    (grind (arith, nat_tests, all), digits_of_all bs (grind (arith, all)))

pub numeral_of_form : (bs : List ℕ) → HasForm true kind.Integer bs → IsNumeral 10 (without_leading_sign bs)
numeral_of_form [] (inl run) = absurd run
numeral_of_form [] (inr negative) = absurd negative.1
numeral_of_form (b ∷ bs) (inl run) =
    let unsigned : without_leading_sign (b ∷ bs) ≡ b ∷ bs = grind (arith, nat_tests, run.0) in
    subst (IsNumeral 10) (sym unsigned) (omega arith, digits_of_all (b ∷ bs) (all_of_run (b ∷ bs) run))
numeral_of_form (b ∷ bs) (inr negative) =
    let signed : without_leading_sign (b ∷ bs) ≡ bs = grind (arith, nat_tests, negative.1.0) in
    subst (IsNumeral 10) (sym signed) (nonempty bs negative.1.1, digits_of_all bs (all_of_run bs negative.1.1))

-- where `parse` fails, the value does not fit
pub no_value : (text bs : List ℕ) → text ≡ bs → HasForm true kind.Integer bs → ¬ (IsNumeral 10 (without_leading_sign text) × FitsSigned w64 (signed_digits_value 10 text)) → ¬ (FitsSigned w64 (signed_digits_value 10 bs))
no_value text bs same form none =
    let none_here = subst (λ l. ¬ (IsNumeral 10 (without_leading_sign l) × FitsSigned w64 (signed_digits_value 10 l))) same none in
    λ fits. none_here (numeral_of_form bs form, fits)

-- ---- numbers of 32 bits

pub digits_told : IsDigitsTest (λ ds. list_all is_ascii_digit ds ≡ true)
digits_told = search rules

number_parsed : {E : Type 0} (ds : List ℕ) (r : Result ℕ E) → ParsesUnsigned 32 10 ds r → AreDigits ds → OkIff r ((0 < length ds) × (digits_value 10 ds < 2 ^ 32)) (digits_value 10 ds)
number_parsed ds r parses run = parse_digits (numerals_by_value _ digits_told) 32 ds r parses (all_of_run ds run)

-- where `parse` fails, the value is too great
pub no_number_fits : {E : Type 0} (text ds : List ℕ) (e : E) → text ≡ ds → AreDigits ds → ParsesUnsigned 32 10 text (Err e) → greatest_number < digits_value 10 ds
no_number_fits text ds e same run parses =
    let failed = number_parsed ds (Err e) (subst (λ l. ParsesUnsigned 32 10 l (Err e)) same parses) run in
    elim (cases_lt greatest_number (digits_value 10 ds)) [
      | inl great ↦ great
      | inr low ↦ absurd (failed (nonempty ds run, omega (arith, low)))
    ]

pub test_from_empty : (bs : List ℕ) (b : Bool) → b ≡ (length bs == 0) → bs ≡ [] → b ≡ true
test_from_empty bs b is none = is ∙ ap (λ l. length l == 0) none

pub ok_from_cases : {T E : Type 0} (P : T → Type 0) (Q : E → Type 0) (U : Type 0) (r : Result T E) → MatchResult r P (λ e. (¬ U) × Q e) → U → IsOk r
ok_from_cases P Q U r cases utf8 = grind arith
