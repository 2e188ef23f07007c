-- Whether a token is refused.
use Rattle.ghc_reader.proofs.Words.{◌≡◌, ◌≢◌, ◌⊎◌, ℕ, ◌<◌, ◌≤◌, Bool, true, false, List, [], ◌∷◌, ◌++◌, Option, Some, FitsSigned, ℤ, refl, sym, ap, subst, ◌∙◌, inl, inr, arith, is_ascii_digit, list_all, digits_value, cases_lt, Lacks, AreDigits, BeginsNumber, IsReserved, IsTooGreat, IsRefusedToken, greatest_number, Token, Reserved}
use Rattle.std.specs.Int.{w64}
use Rattle.ghc_reader.specs.declared.token.Token.TheVariants as token
use Rattle.ghc_reader.specs.declared.lexer.value.Reserved.TheVariants as reserved
use Rattle.ghc_reader.proofs.SoOrNot.{IsSoOrNot, not_or_so, one_or_not, same_or_not, below_or_not}
use Rattle.ghc_reader.proofs.Values.{no_number, no_second_number, reserved_ends, reserved_by, never_too_great, too_great_is_reserved}

record SplitRun (test : ℕ → Bool) (bs : List ℕ) : Type 0 where
  front : List ℕ
  rest : List ℕ
  split : bs ≡ front ++ rest
  each : list_all test front ≡ true
  stops : Lacks test rest

split_run_of : (test : ℕ → Bool) (bs : List ℕ) → SplitRun test bs
split_run_of test [] = record { front = []; rest = []; split = refl; each = refl; stops = tt }
split_run_of test (b ∷ bs) = by_test (test b) refl (split_run_of test bs)
  where
    by_test : (t : Bool) → test b ≡ t → SplitRun test bs → SplitRun test (b ∷ bs)
    by_test true passes more =
        record { front = b ∷ more.front; rest = more.rest; split = ap (λ l. b ∷ l) more.split; each = grind (arith, more.each, passes); stops = more.stops }
    by_test false fails more = record { front = []; rest = b ∷ bs; split = refl; each = refl; stops = fails }

number_or_none : (text : List ℕ) → ((digits rest : List ℕ) × BeginsNumber text digits rest) ⊎ ((digits more : List ℕ) → AreDigits digits → text ≢ 95 ∷ (digits ++ more))
number_or_none [] = inr (λ digits more run e. cc)
number_or_none (b ∷ bs) = elim (same_or_not (b ∷ []) (95 ∷ [])) [
  | inr other ↦ inr (λ digits more run e. other (cc))
  | inl same ↦ let s = split_run_of is_ascii_digit bs in by_front s.front s.rest same s.split s.each s.stops
]
  where
    none_there : (rest digits more : List ℕ) → bs ≡ rest → Lacks is_ascii_digit rest → AreDigits digits → bs ≡ digits ++ more → ⊥
    none_there rest [] more split stops run e = run
    none_there rest (d ∷ ds) more split stops run e = let lacks = subst (Lacks is_ascii_digit) (sym split ∙ e) stops in let first = run.0 in grind (arith, lacks, first)

    by_front : (front rest : List ℕ) → b ∷ [] ≡ 95 ∷ [] → bs ≡ front ++ rest → list_all is_ascii_digit front ≡ true → Lacks is_ascii_digit rest → ((digits rest : List ℕ) × BeginsNumber (b ∷ bs) digits rest) ⊎ ((digits more : List ℕ) → AreDigits digits → b ∷ bs ≢ 95 ∷ (digits ++ more))
    by_front [] rest same split each stops = inr (λ digits more run e. none_there rest digits more split stops run (cc))
    by_front (d ∷ ds) rest same split each stops =
        inl (d ∷ ds, rest, ((grind (arith, each), grind (arith, each)), cc, stops))

reserved_or_not : (bs : List ℕ) → IsSoOrNot (IsReserved bs)
reserved_or_not bs = elim (number_or_none bs) [
  | inr none ↦ inr (no_number bs none)
  | inl (first, rest, begins) ↦ elim (number_or_none rest) [
    | inr none ↦ inr (no_second_number bs first rest begins none)
    | inl (second, end, goes_on) ↦ elim (same_or_not end []) [
      | inl ended ↦ inl (first, second, reserved_by bs first rest second end begins goes_on ended)
      | inr more ↦ inr (λ is. more (reserved_ends bs first rest second end begins goes_on is))
    ]
  ]
]

great_or_not : (n : ℕ) → IsSoOrNot (greatest_number < n)
great_or_not n = below_or_not _ greatest_number n (λ h. h) (λ h. h)

too_great_or_not : (bs : List ℕ) → IsSoOrNot (IsTooGreat bs)
too_great_or_not bs = elim (reserved_or_not bs) [
  | inr none ↦ inr (λ great. none (too_great_is_reserved bs great))
  | inl (first, second, h) ↦ elim (one_or_not _ _ (great_or_not (digits_value 10 first)) (great_or_not (digits_value 10 second))) [
    | inl over ↦ inl (digits_value 10 first, digits_value 10 second, (first, second, h, refl, refl), over)
    | inr fits ↦ inr (never_too_great bs (digits_value 10 first) (digits_value 10 second) ((first, second, h, refl, refl), low _ (λ o. fits (inl o)), low _ (λ o. fits (inr o))))
  ]
]
  where
    low : (n : ℕ) → ¬ (greatest_number < n) → n ≤ greatest_number
    low n never = elim (cases_lt greatest_number n) [ inl great ↦ absurd (never great) | inr fits ↦ fits ]

pub fits_or_not : (z : ℤ) → IsSoOrNot (FitsSigned w64 z)
fits_or_not z = below_or_not (FitsSigned w64 z) _ _ (λ h. record { sfits = h }) (λ fits. fits.sfits)

pub refused_or_not : (r : Reserved) (t : Option Token) → IsSoOrNot (IsRefusedToken r t)
refused_or_not reserved.Refused (Some (token.Integer value)) = not_or_so _ (fits_or_not value)
refused_or_not reserved.Allowed (Some (token.Integer value)) = not_or_so _ (fits_or_not value)
refused_or_not reserved.Refused (Some (token.Variable bs)) = reserved_or_not bs
refused_or_not reserved.Allowed (Some (token.Variable bs)) = too_great_or_not bs
refused_or_not r t = inr (λ h. h)
