use Rattle.ghc_records.proofs.Words.{◌≡◌, ◌≢◌, ◌<◌, ◌≤◌, ℕ, List, true, length, get_or, Option, Some, None, IfSome, IfNone, sym, ap, ◌∙◌, arith, decimal, rules, is_ascii_digit, list_all, digits_value, greatest_number}
use Rattle.ghc_records.proofs.CutLemmas.{digits_say, said_digits, said_value, lone_zero, some_digit}
use Rattle.ghc_records.proofs.text.cutting.number.Goals as goal

empty : (word : List ℕ) → length word ≡ 0 → (n : ℕ) → n ≤ greatest_number → word ≢ decimal n
empty word none n h e = omega (arith, some_digit n h, ap length e, none)

leading : (word : List ℕ) → get_or word 0 0 ≡ 48 → 1 < length word → (n : ℕ) → n ≤ greatest_number → word ≢ decimal n
leading word first long n h e = omega (arith, long, ap length e, lone_zero n h (sym (ap (λ l. get_or l 0 0) e) ∙ first))

some : (word : List ℕ) (r : Option ℕ) → 0 < length word → (get_or word 0 0 ≡ 48 → length word ≤ 1) → IfSome r (λ n. list_all is_ascii_digit word ≡ true) → IfSome r (λ n. n ≡ digits_value 10 word)
    → IfSome r (λ n. n ≤ greatest_number) → IfSome r (λ n. word ≡ decimal n)
some word None filled alone digits value small = tt
some word (Some n) filled alone digits value small =
    sym (digits_say word digits filled (λ e. omega (arith, filled, alone e)) (omega (arith, value, small))) ∙ ap decimal (sym value)

none : (word : List ℕ) (r : Option ℕ) → IfNone r (list_all is_ascii_digit word ≡ true → greatest_number < digits_value 10 word) → IfNone r ((n : ℕ) → n ≤ greatest_number → word ≢ decimal n)
none word (Some n) h = tt
none word None h = λ n small e.
    let over = h (ap (list_all is_ascii_digit) e ∙ said_digits n small) in
    omega (arith, over, ap (digits_value 10) e, said_value n small, small)

pub returns-then-is_empty-clause-none : goal.returns-then-is_empty-clause-none
returns-then-is_empty-clause-none c = empty c.args.word.now (search rules)

pub returns-then-has_leading_zero-clause-none : goal.returns-then-has_leading_zero-clause-none
returns-then-has_leading_zero-clause-none c = let k = c.has_leading_zero.ensures.leading c.if-has_leading_zero.true in leading c.args.word.now k.0 k.1

pub returns-clause-some : goal.returns-clause-some
returns-clause-some c = some c.args.word.now c.value_of.result (search rules) (c.has_leading_zero.ensures.alone c.if-has_leading_zero.false) c.value_of.ensures.digits c.value_of.ensures.value c.value_of.ensures.small

pub returns-clause-none : goal.returns-clause-none
returns-clause-none c = none c.args.word.now c.value_of.result c.value_of.ensures.none
