-- What the pieces of a text say of its tokens: their names are those of the grammar, their integers have 64 bits, and none is longer than its piece.
use Rattle.ghc_reader.proofs.Words.{◌≡◌, ℕ, ◌+◌, ◌^◌, ◌≤◌, ◌<◌, Bool, true, ℤ, pos, zero, suc, List, [], ◌∷◌, length, Option, Some, None, sym, ap, subst, inl, inr, arith, length-append, FitsSigned, w64, All, cond, neg_ℤ, decimal, signed_decimal, filter_map, cons_option, digits_value, starts_with_minus, without_leading_sign, signed_digits_value, is_ascii_digit, nat_tests, length-decimal-le, digits_value-lt, All-head, All-tail, IsNameText, IsRun, Piece, HasForm, Cuts, signs_behind, spelled, spelling, token_of_symbol, token_of_bytes, token_of, IsRefusedToken, IsRefused, Token, Symbol, Kind, Reserved, Refused}
use Rattle.ghc_reader.specs.declared.token.Token.TheVariants as token
use Rattle.ghc_reader.specs.declared.lexer.front.Kind.TheVariants as kind
use Rattle.ghc_reader.proofs.RefusedOrNot.{fits_or_not}
use Rattle.ghc_reader.proofs.TokenTexts.{unsigned_value}
use Rattle.ghc_reader.proofs.Values.{all_of_run, digits_of_all}
use Rattle.ghc_reader.proofs.InputSizes.{weight, weights}

-- a name of the grammar, or an integer of 64 bits, where it is one
abbrev pub IsGood : Token → Type 0
IsGood (token.Name f) = IsNameText f
IsGood (token.Integer k) = FitsSigned w64 k
IsGood t = Unit {0}

abbrev pub AreGood : List Token → Type 0
AreGood [] = Unit {0}
AreGood (t ∷ ts) = IsGood t × AreGood ts

abbrev IsGoodIfAny : Option Token → Type 0
IsGoodIfAny None = Unit {0}
IsGoodIfAny (Some t) = IsGood t

abbrev weight_if_any : Option Token → ℕ
weight_if_any None = 0
weight_if_any (Some t) = weight t

-- ---- integers

not_refused : (z : ℤ) → ¬ (¬ (FitsSigned w64 z)) → FitsSigned w64 z
not_refused z h = elim (fits_or_not z) [ inl fits ↦ fits | inr never ↦ absurd (h never) ]

digits_length : (ds : List ℕ) → IsRun is_ascii_digit is_ascii_digit ds → digits_value 10 ds < 2 ^ 64 → length (decimal (digits_value 10 ds)) ≤ length ds
digits_length [] run fits = absurd run
digits_length (d ∷ ds) run fits =
    length-decimal-le (length (d ∷ ds)) (digits_value 10 (d ∷ ds)) (omega arith) (digits_value-lt 10 (d ∷ ds) (digits_of_all (d ∷ ds) (all_of_run (d ∷ ds) run))) fits

negative_length : (n k : ℕ) → FitsSigned w64 (neg_ℤ (pos n)) → (n < 2 ^ 64 → length (decimal n) ≤ k) → length (signed_decimal (neg_ℤ (pos n))) ≤ k + 1
negative_length zero k fits le = omega (arith, le (omega arith))
negative_length (suc n) k fits le = omega (arith, le (omega (arith, fits.sfits)), fits.sfits)

integer_length : (signs : Bool) (bs : List ℕ) → HasForm signs kind.Integer bs → FitsSigned w64 (signed_digits_value 10 bs) → length (signed_decimal (signed_digits_value 10 bs)) ≤ length bs
integer_length signs [] (inl run) fits = absurd run
integer_length signs [] (inr negative) fits = absurd negative.1
integer_length signs (b ∷ bs) (inl run) fits =
    let value = unsigned_value (b ∷ bs) (omega arith) (digits_of_all (b ∷ bs) (all_of_run (b ∷ bs) run)) in
    let small : FitsSigned w64 (pos (digits_value 10 (b ∷ bs))) = subst (FitsSigned w64) value fits in
    subst (λ z. length (signed_decimal z) ≤ length (b ∷ bs)) (sym value) (digits_length (b ∷ bs) run (omega (arith, small.sfits)))
integer_length signs (b ∷ bs) (inr negative) fits =
    let signed : starts_with_minus (b ∷ bs) ≡ true = grind (arith, nat_tests, negative.1.0) in
    let behind : without_leading_sign (b ∷ bs) ≡ bs = grind (arith, nat_tests, negative.1.0) in
    let value : signed_digits_value 10 (b ∷ bs) ≡ neg_ℤ (pos (digits_value 10 bs)) =
    (λ i. cond (signed i) (neg_ℤ (pos (digits_value 10 (behind i)))) (pos (digits_value 10 (behind i)))) in
    let bound = negative_length (digits_value 10 bs) (length bs) (subst (FitsSigned w64) value fits) (digits_length bs negative.1.1) in
    subst (λ z. length (signed_decimal z) ≤ length (b ∷ bs)) (sym value) (omega (arith, bound))

-- ---- one piece

mark_length : (s : Symbol) → weight (token_of_symbol s) ≤ length (spelling s)
mark_length s = grind arith

piece_good : (reserved : Reserved) (signs : Bool) (k : Kind) (bs : List ℕ) → HasForm signs k bs → ¬ (IsRefusedToken reserved (token_of_bytes k bs)) → IsGoodIfAny (token_of_bytes k bs)
piece_good reserved signs k bs form fine = grind (arith, not_refused)

piece_length : (signs : Bool) (k : Kind) (bs : List ℕ) → HasForm signs k bs → IsGoodIfAny (token_of_bytes k bs) → weight_if_any (token_of_bytes k bs) ≤ length bs
piece_length signs kind.Integer bs form good = integer_length signs bs form good
piece_length signs (kind.Symbol s) bs form good = omega (arith, mark_length s, ap length form)
piece_length signs k bs form good = omega arith

-- ---- the tokens of a text

one_more : (t : Option Token) (ts : List Token) → IsGoodIfAny t → AreGood ts → AreGood (cons_option t ts)
one_more t ts good goods = grind arith

weight_more : (t : Option Token) (ts : List Token) → weights (cons_option t ts) ≡ weight_if_any t + weights ts
weight_more t ts = grind arith

pub good_tokens : (reserved : Reserved) (signs : Bool) (ps : List Piece) (rest : List ℕ) → Cuts signs ps rest → All (λ p. ¬ (IsRefused reserved p)) ps → AreGood (filter_map token_of ps)
good_tokens reserved signs [] rest cuts fine = tt
good_tokens reserved signs (p ∷ ps) rest cuts fine =
    one_more (token_of p) (filter_map token_of ps) (piece_good reserved signs p.kind p.bytes cuts.0.form (All-head (λ q. ¬ (IsRefused reserved q)) p ps fine))
    (good_tokens reserved (signs_behind signs p.kind) ps rest cuts.1 (All-tail (λ q. ¬ (IsRefused reserved q)) p ps fine))

pub tokens_bytes : (signs : Bool) (ps : List Piece) (rest : List ℕ) → Cuts signs ps rest → All (λ p. ¬ (IsRefused Refused p)) ps → weights (filter_map token_of ps) ≤ length (spelled ps rest)
tokens_bytes signs [] rest cuts fine = omega arith
tokens_bytes signs (p ∷ ps) rest cuts fine =
    let good = piece_good Refused signs p.kind p.bytes cuts.0.form (All-head (λ q. ¬ (IsRefused Refused q)) p ps fine) in
    omega (
      arith,
      weight_more (token_of p) (filter_map token_of ps),
      length-append p.bytes (spelled ps rest),
      piece_length signs p.kind p.bytes cuts.0.form good,
      tokens_bytes (signs_behind signs p.kind) ps rest cuts.1 (All-tail (λ q. ¬ (IsRefused Refused q)) p ps fine),
    )
