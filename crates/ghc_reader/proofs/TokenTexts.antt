-- The text of tokens as they are printed, with a space on each side of an operator and none elsewhere, and that it is cut into these tokens.
use Rattle.ghc_reader.proofs.Words.{◌≡◌, ℕ, ◌<◌, Bool, true, false, ℤ, pos, negsuc, suc, List, [], ◌∷◌, ◌++◌, length, refl, sym, ap, ◌∙◌, subst, inr, arith, IsTrue, FitsSigned, w64, cond, neg_ℤ, Some, All, decimal, signed_decimal, filter_map, list_all, AllDigits, digits_value, starts_with_minus, without_leading_sign, signed_digits_value, is_ascii_digit, nat_tests, decimal_is_IsNumeral, digit_from_value, All-nil, All-cons, IsNameText, IsRun, Lacks, is_word, begins_variable, spelling, Piece, Stands, Cuts, signs_behind, spelled, start, place_behind, token_of, IsRefusedToken, IsRefused, IsLexed, token_places, Close, CloseList, Equals, Assign, Define, Stop, Token, Symbol, Reserved, false≢true}
use Rattle.std.proofs.Common.{append-nil}
use Rattle.ghc_reader.specs.Bytes.{Begins}
use Rattle.ghc_reader.specs.declared.token.Token.TheVariants as token
use Rattle.ghc_reader.specs.declared.lexer.symbol.Symbol.TheVariants as symbol
use Rattle.ghc_reader.specs.declared.lexer.front.Kind.TheVariants as kind
use Rattle.ghc_reader.proofs.Values.{all_of_run}
use Rattle.ghc_reader.proofs.Forms.{name_stands, variable_stands, integer_stands, run_stands, minus_leaves}
use Rattle.ghc_reader.proofs.MarkPieces.{mark_stands}
use Rattle.ghc_reader.proofs.OperatorPieces.{space, space_stands, symbol_piece, is_wide, wide_stands}

-- ---- the text of tokens

-- an operator, with a space on each side
abbrev with_spaces : Symbol → List Piece → List Piece
with_spaces s ps = space ∷ symbol_piece s ∷ space ∷ ps

-- the pieces of a token, and then ps
abbrev put : Token → List Piece → List Piece
put (token.Name f) ps = record { kind = kind.Name; bytes = f } ∷ ps
put (token.Variable v) ps = record { kind = kind.Variable; bytes = v } ∷ ps
put (token.Integer k) ps = record { kind = kind.Integer; bytes = signed_decimal k } ∷ ps
put (token.Mark Equals) ps = with_spaces (symbol.Mark Equals) ps
put (token.Mark Assign) ps = with_spaces (symbol.Mark Assign) ps
put (token.Mark m) ps = symbol_piece (symbol.Mark m) ∷ ps
put (token.Comparison c) ps = with_spaces (symbol.Comparison c) ps
put (token.Sum o) ps = with_spaces (symbol.Sum o) ps
put (token.Product o) ps = with_spaces (symbol.Product o) ps

-- the pieces of tokens, and then ps
abbrev pub pieces_of : List Token → List Piece → List Piece
pieces_of [] ps = ps
pieces_of (t ∷ ts) ps = put t (pieces_of ts ps)

-- the text of tokens in front of pieces
abbrev pub text_of : List Token → List Piece → List ℕ
text_of ts ps = spelled (pieces_of ts ps) []

-- a name, a variable or an integer may stand directly after this token
abbrev frees : Token → Bool
frees (token.Name f) = false
frees (token.Variable v) = false
frees (token.Integer k) = false
frees (token.Mark Close) = false
frees (token.Mark CloseList) = false
frees t = true

-- a text that may stand after a token, where free says whether any may
abbrev EndsWord : Bool → List ℕ → Type 0
EndsWord true text = Unit {0}
EndsWord false text = Lacks is_word text × Lacks is_ascii_digit text

-- The token can be printed, where W holds of the variables that can; free says whether a name, a variable or an integer may come.
module _ (W : List ℕ → Type 0) where
  abbrev MayStand : Bool → Token → Type 0
  MayStand free (token.Name f) = (free ≡ true) × IsNameText f
  MayStand free (token.Variable v) = (free ≡ true) × W v
  MayStand free (token.Integer k) = (free ≡ true) × FitsSigned w64 k
  MayStand free (token.Mark Define) = ⊥
  MayStand free (token.Mark Stop) = ⊥
  MayStand free (token.Comparison c) = ⊥
  MayStand free _ = Unit {0}

  -- The tokens can be printed, and no two names, variables or integers are neighbours, and none follows a bracket that closes.
  abbrev pub AreSpaced : Bool → List Token → Type 0
  AreSpaced free [] = Unit {0}
  AreSpaced free (t ∷ ts) = MayStand free t × AreSpaced (frees t) ts

-- ---- integers

pub all_digits : (ds : List ℕ) → AllDigits 10 ds → list_all is_ascii_digit ds ≡ true
all_digits [] d = refl
all_digits (c ∷ cs) d = let digit = digit_from_value c d.0 in grind (arith, nat_tests, digit, all_digits cs d.1)

pub run_of_digits : (ds : List ℕ) → 0 < length ds → AllDigits 10 ds → IsRun is_ascii_digit is_ascii_digit ds
run_of_digits [] some d = absurd (omega arith)
run_of_digits (c ∷ cs) some d = let digit = digit_from_value c d.0 in (grind (arith, nat_tests, digit), all_digits cs d.1)

run_begins : (ds rest : List ℕ) → IsRun is_ascii_digit is_ascii_digit ds → Begins is_ascii_digit (ds ++ rest)
run_begins ds rest run = grind arith

pub unsigned_value : (ds : List ℕ) → 0 < length ds → AllDigits 10 ds → signed_digits_value 10 ds ≡ pos (digits_value 10 ds)
unsigned_value [] some d = absurd (omega arith)
unsigned_value (c ∷ cs) some d =
    let digit = digit_from_value c d.0 in
    let plain : starts_with_minus (c ∷ cs) ≡ false = grind (arith, nat_tests, digit) in
    let unsigned : without_leading_sign (c ∷ cs) ≡ c ∷ cs = grind (arith, nat_tests, digit) in
    (λ i. cond (plain i) (neg_ℤ (pos (digits_value 10 (unsigned i)))) (pos (digits_value 10 (unsigned i))))

integer_back : (k : ℤ) → FitsSigned w64 k → signed_digits_value 10 (signed_decimal k) ≡ k
integer_back (pos n) fits =
    let k = decimal_is_IsNumeral n (omega (arith, fits.sfits)) in
    unsigned_value (decimal n) k.0.0 k.0.1 ∙ ap pos k.1
integer_back (negsuc n) fits =
    let k = decimal_is_IsNumeral (suc n) (omega (arith, fits.sfits)) in
    ap (λ m. neg_ℤ (pos m)) k.1

-- ---- each token stands where it is

name_at : (signs : Bool) (f rest : List ℕ) → IsNameText f → Lacks is_word rest → Stands signs (record { kind = kind.Name; bytes = f }) rest
name_at signs [] rest name ends = absurd name
name_at signs (b ∷ bs) rest name ends =
    let whole : list_all is_word (b ∷ bs) ≡ true = grind (arith, nat_tests, name.0, name.1) in
    name_stands signs (b ∷ bs ++ rest) (b ∷ bs) rest refl whole ends name.0 name.2

variable_at : (signs : Bool) (v rest : List ℕ) → IsRun begins_variable is_word v → Lacks is_word rest → Stands signs (record { kind = kind.Variable; bytes = v }) rest
variable_at signs [] rest run ends = absurd run
variable_at signs (b ∷ bs) rest run ends =
    let whole : list_all is_word (b ∷ bs) ≡ true = grind (arith, nat_tests, run.0, run.1) in
    variable_stands signs (b ∷ bs ++ rest) (b ∷ bs) rest refl whole ends run.0

integer_at : (k : ℤ) (rest : List ℕ) → FitsSigned w64 k → Lacks is_ascii_digit rest → Stands true (record { kind = kind.Integer; bytes = signed_decimal k }) rest
integer_at (pos n) rest fits ends =
    let k = decimal_is_IsNumeral n (omega (arith, fits.sfits)) in
    let run = run_of_digits (decimal n) k.0.0 k.0.1 in
    integer_stands true (decimal n ++ rest) (decimal n) rest refl (all_of_run (decimal n) run) ends (run_begins (decimal n) rest run)
integer_at (negsuc n) rest fits ends =
    let k = decimal_is_IsNumeral (suc n) (omega (arith, fits.sfits)) in
    let run = run_of_digits (decimal (suc n)) k.0.0 k.0.1 in
    run_stands true (record { kind = kind.Integer; bytes = signed_decimal (negsuc n) }) rest is_ascii_digit 45 (decimal (suc n)) refl (inr (refl, (refl, run))) ends (minus_leaves true 45 refl)

-- The pieces are cut, whatever stands in front of them; where free says so, a minus before a digit is a sign there.
abbrev pub CutBehind : Bool → List Piece → Type 0
CutBehind free ps = (signs : Bool) → (free ≡ true → signs ≡ true) → Cuts signs ps []

wide_cuts : (signs : Bool) (s : Symbol) (ps : List Piece) → IsTrue (is_wide s) → CutBehind true ps → Cuts signs (with_spaces s ps) []
wide_cuts signs s ps wide behind =
    let after = signs_behind signs (kind.Symbol s) in
    (space_stands signs (spelling s ++ (32 ∷ spelled ps [])), (wide_stands signs s (spelled ps []) wide, (space_stands after (spelled ps []), behind after (λ _. grind (arith, wide)))))

-- a piece that is not refused
abbrev pub IsKept : Reserved → Piece → Type 0
IsKept reserved p = ¬ (IsRefused reserved p)

-- ---- a text that may hold these variables, each a word of its form that is not refused

module _ (reserved : Reserved) (W : List ℕ → Type 0) (form : (v : List ℕ) → W v → IsRun begins_variable is_word v) (kept : (v : List ℕ) → W v → ¬ (IsRefusedToken reserved (Some (token.Variable v)))) where
  token_cuts : (free : Bool) (t : Token) (ps : List Piece) → MayStand W free t → EndsWord (frees t) (spelled ps []) → CutBehind (frees t) ps → CutBehind free (put t ps)
  token_cuts free (token.Name f) ps s ends behind signs may = (name_at signs f (spelled ps []) s.1 ends.0, behind true (λ e. refl))
  token_cuts free (token.Variable v) ps s ends behind signs may = (variable_at signs v (spelled ps []) (form v s.1) ends.0, behind false (λ e. e))
  token_cuts free (token.Integer k) ps s ends behind signs may =
      (subst (λ b. Stands b (record { kind = kind.Integer; bytes = signed_decimal k }) (spelled ps [])) (sym (may s.0)) (integer_at k (spelled ps []) s.1 ends.1), behind false (λ e. e))
  token_cuts free (token.Mark Define) ps s ends behind signs may = absurd s
  token_cuts free (token.Mark Stop) ps s ends behind signs may = absurd s
  token_cuts free (token.Mark Equals) ps s ends behind signs may = wide_cuts signs (symbol.Mark Equals) ps refl behind
  token_cuts free (token.Mark Assign) ps s ends behind signs may = wide_cuts signs (symbol.Mark Assign) ps refl behind
  token_cuts free (token.Mark Close) ps s ends behind signs may = (mark_stands signs Close (spelled ps []) refl, behind false (λ e. e))
  token_cuts free (token.Mark m) ps s ends behind signs may = (mark_stands signs m (spelled ps []) refl, behind true (λ e. refl))
  token_cuts free (token.Comparison c) ps s ends behind signs may = absurd s
  token_cuts free (token.Sum o) ps s ends behind signs may = wide_cuts signs (symbol.Sum o) ps refl behind
  token_cuts free (token.Product o) ps s ends behind signs may = wide_cuts signs (symbol.Product o) ps refl behind

  word_ends : (free : Bool) (ts : List Token) (ps : List Piece) → AreSpaced W free ts → EndsWord false (spelled ps []) → EndsWord free (text_of ts ps)
  word_ends true ts ps s ends = tt
  word_ends false [] ps s ends = ends
  word_ends false (token.Name f ∷ ts) ps s ends = absurd (false≢true s.0.0)
  word_ends false (token.Variable v ∷ ts) ps s ends = absurd (false≢true s.0.0)
  word_ends false (token.Integer k ∷ ts) ps s ends = absurd (false≢true s.0.0)
  word_ends false (token.Mark Define ∷ ts) ps s ends = absurd s.0
  word_ends false (token.Mark Stop ∷ ts) ps s ends = absurd s.0
  word_ends false (token.Comparison c ∷ ts) ps s ends = absurd s.0
  word_ends false (t ∷ ts) ps s ends = (refl, refl)

  pub cuts : (free : Bool) (ts : List Token) (ps : List Piece) → AreSpaced W free ts → EndsWord false (spelled ps []) → CutBehind false ps → CutBehind free (pieces_of ts ps)
  cuts free [] ps s ends behind = λ signs may. behind signs (λ e. absurd (false≢true e))
  cuts free (t ∷ ts) ps s ends behind = token_cuts free t (pieces_of ts ps) s.0 (word_ends (frees t) ts ps s.1 ends) (cuts (frees t) ts ps s.1 ends behind)

  -- ---- the tokens of the text

  wide_kept : (s : Symbol) (ps : List Piece) → IsKept reserved (symbol_piece s) → All (IsKept reserved) ps → All (IsKept reserved) (with_spaces s ps)
  wide_kept s ps symbol_kept others =
      All-cons (IsKept reserved) space (symbol_piece s ∷ space ∷ ps) (λ h. h) (All-cons (IsKept reserved) (symbol_piece s) (space ∷ ps) symbol_kept (All-cons (IsKept reserved) space ps (λ h. h) others))

  token_kept : (free : Bool) (t : Token) (ps : List Piece) → MayStand W free t → All (IsKept reserved) ps → All (IsKept reserved) (put t ps)
  token_kept free (token.Name f) ps s others = All-cons (IsKept reserved) (record { kind = kind.Name; bytes = f }) ps (λ h. h) others
  token_kept free (token.Variable v) ps s others = All-cons (IsKept reserved) (record { kind = kind.Variable; bytes = v }) ps (kept v s.1) others
  token_kept free (token.Integer k) ps s others =
      All-cons (IsKept reserved) (record { kind = kind.Integer; bytes = signed_decimal k }) ps (λ h. h (subst (FitsSigned w64) (sym (integer_back k s.1)) s.1)) others
  token_kept free (token.Mark Equals) ps s others = wide_kept (symbol.Mark Equals) ps (λ h. h) others
  token_kept free (token.Mark Assign) ps s others = wide_kept (symbol.Mark Assign) ps (λ h. h) others
  token_kept free (token.Mark m) ps s others = All-cons (IsKept reserved) (symbol_piece (symbol.Mark m)) ps (λ h. h) others
  token_kept free (token.Comparison c) ps s others = absurd s
  token_kept free (token.Sum o) ps s others = wide_kept (symbol.Sum o) ps (λ h. h) others
  token_kept free (token.Product o) ps s others = wide_kept (symbol.Product o) ps (λ h. h) others

  pub none_refused : (free : Bool) (ts : List Token) (ps : List Piece) → AreSpaced W free ts → All (IsKept reserved) ps → All (IsKept reserved) (pieces_of ts ps)
  none_refused free [] ps s others = others
  none_refused free (t ∷ ts) ps s others = token_kept free t (pieces_of ts ps) s.0 (none_refused (frees t) ts ps s.1 others)

  token_back : (free : Bool) (t : Token) (ps : List Piece) → MayStand W free t → filter_map token_of (put t ps) ≡ t ∷ filter_map token_of ps
  token_back free t ps s = grind (arith, integer_back)

  pub tokens_back : (free : Bool) (ts : List Token) (ps : List Piece) → AreSpaced W free ts → filter_map token_of (pieces_of ts ps) ≡ ts ++ filter_map token_of ps
  tokens_back free [] ps s = refl
  tokens_back free (t ∷ ts) ps s = token_back free t (pieces_of ts ps) s.0 ∙ ap (λ l. t ∷ l) (tokens_back (frees t) ts ps s.1)

  -- pieces that are cut, none of them refused, have their tokens
  pub pieces_lexed : (ps : List Piece) (ts : List Token) → CutBehind true ps → All (IsKept reserved) ps → filter_map token_of ps ≡ ts → IsLexed reserved (spelled ps []) ts (token_places start ps ++ place_behind start (spelled ps []) ∷ [])
  pieces_lexed ps ts cut kept_all back = record {
    pieces = ps;
    cut = record { whole = refl; each_stands = cut true (λ e. refl); none_refused = kept_all };
    tokens_are = sym back;
    places_are = refl;
  }

  -- the text of spaced tokens has these tokens
  pub spaced_lexed : (ts : List Token) → AreSpaced W true ts → IsLexed reserved (text_of ts []) ts (token_places start (pieces_of ts []) ++ place_behind start (text_of ts []) ∷ [])
  spaced_lexed ts s =
      pieces_lexed (pieces_of ts []) ts (cuts true ts [] s (tt, tt) (λ signs may. tt)) (none_refused true ts [] s (All-nil (IsKept reserved))) (tokens_back true ts [] s ∙ append-nil ts)
