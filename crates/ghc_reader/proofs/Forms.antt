-- What form the first byte of a piece leaves to the rest of it, and when a piece is the longest at its place.
use Rattle.ghc_reader.proofs.Words.{◌≡◌, ◌≢◌, ◌⊎◌, ℕ, ◌≤◌, Bool, true, false, List, [], ◌∷◌, ◌++◌, length, get_or, refl, sym, ap, subst, ◌∙◌, inl, inr, arith, IsTrue, ◌==◌, ◌||◌, or_parts, ◌+◌, take, drop, one-add, not, codes, nat_tests, is_ascii_digit, is_ascii_lowercase, list_all, is_blank, is_word, begins_variable, BeginsNegative, Lacks, IsRun, take-append_seam, drop-append_seam, spelling, IsLongest, Piece, IsNegative, HasForm, Stands, Modulo, Symbol, Kind}
use Rattle.ghc_reader.specs.Bytes.{Begins}
use Rattle.ghc_reader.specs.declared.lexer.symbol.Symbol.TheVariants as symbol
use Rattle.ghc_reader.specs.declared.lexer.front.Kind.TheVariants as kind

-- a run with nothing after it that goes on with it is as long as any run there
pub run_is_longest : (test : ℕ → Bool) (v less w rest : List ℕ) → list_all test v ≡ true → Lacks test rest → w ++ rest ≡ v ++ less → length v ≤ length w
run_is_longest test [] less w rest all stops e = omega arith
run_is_longest test (b ∷ v) less [] rest all stops e =
    let lacks = subst (Lacks test) e stops in
    absurd (grind (arith, lacks, all))
run_is_longest test (b ∷ v) less (c ∷ w) rest all stops e =
    let shorter = run_is_longest test v less w rest (grind (arith, all)) stops (cc) in omega arith

-- the bytes after the first byte of any piece that begins with b pass the test
abbrev pub LeavesOnly : Bool → ℕ → (ℕ → Bool) → Type 0
LeavesOnly signs b test = (k : Kind) (v : List ℕ) → HasForm signs k (b ∷ v) → list_all test v ≡ true

pub run_stands : (signs : Bool) (p : Piece) (rest : List ℕ) (test : ℕ → Bool) (b : ℕ) (w : List ℕ) → p.bytes ≡ b ∷ w → HasForm signs p.kind p.bytes → Lacks test rest → LeavesOnly signs b test → Stands signs p rest
run_stands signs p rest test b w begins form stops leaves = record {
  form = form;
  longest = λ q more other e. longer q.kind q.bytes more other e;
}
  where
    longer : (k : Kind) (bytes more : List ℕ) → HasForm signs k bytes → p.bytes ++ rest ≡ bytes ++ more → length bytes ≤ length p.bytes
    longer k [] more other e = omega arith
    longer k (c ∷ v) more other e =
        let same : b ∷ (w ++ rest) ≡ c ∷ (v ++ more) = sym (ap (λ l. l ++ rest) begins) ∙ e in
        let first : c ≡ b = cc in
        let tails : w ++ rest ≡ v ++ more = cc in
        let shorter = run_is_longest test v more w rest (leaves k v (subst (λ x. HasForm signs k (x ∷ v)) first other)) stops tails in
        omega (arith, ap length begins)

-- what the first byte of a symbol is not
pub record IsSymbolByte (b : ℕ) : Type 0 where
  pub no_digit : is_ascii_digit b ≡ false
  pub no_blank : is_blank b ≡ false
  pub no_percent : (b == 37) ≡ false

abbrev is_no_symbol_byte : ℕ → Bool
is_no_symbol_byte b = is_ascii_digit b || (is_blank b || b == 37)

pub symbol_byte : (s : Symbol) (b : ℕ) (v : List ℕ) → b ∷ v ≡ spelling s → IsSymbolByte b
symbol_byte s b v e =
    let none = or_parts (is_ascii_digit b) (is_blank b || b == 37) (ap (λ l. is_no_symbol_byte (get_or l 0 0)) e ∙ grind arith) in
    let others = or_parts (is_blank b) (b == 37) none.1 in
    record { no_digit = none.0; no_blank = others.0; no_percent = others.1 }

-- a letter or `_` begins only pieces of letters, digits and `_`
pub word_leaves : (signs : Bool) (b : ℕ) → is_word b ≡ true → is_ascii_digit b ≡ false → LeavesOnly signs b is_word
word_leaves signs b word no_digit k v form = grind (arith, nat_tests)

-- a digit begins only integers
pub digit_leaves : (signs : Bool) (b : ℕ) → is_ascii_digit b ≡ true → LeavesOnly signs b is_ascii_digit
digit_leaves signs b digit k v form = grind (arith, nat_tests, symbol_byte)

-- a percent sign begins only comments
pub percent_leaves : (signs : Bool) (b : ℕ) → b ≡ 37 → LeavesOnly signs b (λ c. not (c == 10))
percent_leaves signs b percent k v form = grind (arith, nat_tests, symbol_byte)

-- a blank is a piece alone
pub blank_leaves : (signs : Bool) (b : ℕ) → is_blank b ≡ true → LeavesOnly signs b (λ _. false)
blank_leaves signs b blank k v form = grind (arith, nat_tests, symbol_byte)

-- a minus begins only itself and integers
pub minus_leaves : (signs : Bool) (b : ℕ) → b ≡ 45 → LeavesOnly signs b is_ascii_digit
minus_leaves signs b minus k v form = grind (arith, nat_tests)

-- a byte that begins neither a blank, a comment, a word nor digits begins a symbol, or is the sign of an integer
pub record BeginsSymbol (b : ℕ) : Type 0 where
  pub no_word : is_word b ≡ false
  pub no_blank : is_blank b ≡ false
  pub no_percent : (b == 37) ≡ false

pub symbol_or_negative : (signs : Bool) (b : ℕ) → BeginsSymbol b → (k : Kind) (v : List ℕ) → HasForm signs k (b ∷ v) → ((s : Symbol) × (b ∷ v ≡ spelling s)) ⊎ (IsTrue signs × IsNegative (b ∷ v))
symbol_or_negative signs b starts kind.Blank v form = absurd (grind (arith, starts.no_blank))
symbol_or_negative signs b starts kind.Comment v form = absurd (grind (arith, nat_tests, starts.no_percent))
symbol_or_negative signs b starts kind.Integer v (inl digits) = absurd (grind (arith, nat_tests, starts.no_word))
symbol_or_negative signs b starts kind.Integer v (inr negative) = inr negative
symbol_or_negative signs b starts (kind.Symbol s) v form = inl (s, form)
symbol_or_negative signs b starts k v form = absurd (grind (arith, nat_tests, starts.no_word))

-- what is split off where a run begins is a run
run_of_split : (first each : ℕ → Bool) (text bytes rest : List ℕ) → text ≡ bytes ++ rest → list_all each bytes ≡ true → Lacks each rest → Begins first text → ((b : ℕ) → first b ≡ true → each b ≡ true) → IsRun first each bytes
run_of_split first each text [] rest split all stops begins goes = absurd (nowhere rest (subst (Begins first) split begins) stops)
  where
    nowhere : (text : List ℕ) → Begins first text → Lacks each text → ⊥
    nowhere [] begins stops = begins
    nowhere (b ∷ bs) begins stops = let passes = goes b begins in grind (arith, passes, stops)
run_of_split first each text (b ∷ w) rest split all stops begins goes =
    (subst (Begins first) split begins, grind (arith, all))

first_of_run : (first each : ℕ → Bool) (bytes : List ℕ) → IsRun first each bytes → (b : ℕ) × (w : List ℕ) × (bytes ≡ b ∷ w) × (first b ≡ true)
first_of_run first each [] run = absurd run
first_of_run first each (b ∷ w) run = (b, w, refl, run.0)

-- what is split off where a run begins stands there
pub split_stands : (signs : Bool) (k : Kind) (first each : ℕ → Bool) (text bytes rest : List ℕ) → text ≡ bytes ++ rest → list_all each bytes ≡ true → Lacks each rest → Begins first text → ((b : ℕ) → first b ≡ true → each b ≡ true) → ((b : ℕ) → first b ≡ true → LeavesOnly signs b each) → (IsRun first each bytes → HasForm signs k bytes) → Stands signs (record { kind = k; bytes = bytes }) rest
split_stands signs k first each text bytes rest split all stops begins goes leaves form =
    let run = run_of_split first each text bytes rest split all stops begins goes in
    let parts = first_of_run first each bytes run in
    run_stands signs (record { kind = k; bytes = bytes }) rest each parts.0 parts.1 parts.2 (form run) stops (leaves parts.0 parts.3)

pub comment_stands : (signs : Bool) (text bytes rest : List ℕ) → text ≡ bytes ++ rest → list_all (λ b. not (b == 10)) bytes ≡ true → Lacks (λ b. not (b == 10)) rest → Begins (λ b. b == 37) text → Stands signs (record { kind = kind.Comment; bytes = bytes }) rest
comment_stands signs text bytes rest split all stops begins =
    split_stands signs kind.Comment (λ b. b == 37) (λ b. not (b == 10)) text bytes rest split all stops begins (λ b h. grind (arith, nat_tests)) (λ b h. percent_leaves signs b (grind (arith, nat_tests))) (λ run. run)

pub name_stands : (signs : Bool) (text bytes rest : List ℕ) → text ≡ bytes ++ rest → list_all is_word bytes ≡ true → Lacks is_word rest → Begins is_ascii_lowercase text → bytes ≢ codes "mod" → Stands signs (record { kind = kind.Name; bytes = bytes }) rest
name_stands signs text bytes rest split all stops begins other =
    split_stands signs kind.Name is_ascii_lowercase is_word text bytes rest split all stops begins (λ b h. grind (arith, nat_tests)) (λ b h. word_leaves signs b (grind (arith, nat_tests)) (grind (arith, nat_tests))) (λ run. (run, other))

pub modulo_stands : (signs : Bool) (text bytes rest : List ℕ) → text ≡ bytes ++ rest → list_all is_word bytes ≡ true → Lacks is_word rest → Begins is_ascii_lowercase text → bytes ≡ codes "mod" → Stands signs (record { kind = kind.Symbol (symbol.Product Modulo); bytes = bytes }) rest
modulo_stands signs text bytes rest split all stops begins same =
    split_stands signs (kind.Symbol (symbol.Product Modulo)) is_ascii_lowercase is_word text bytes rest split all stops begins (λ b h. grind (arith, nat_tests)) (λ b h. word_leaves signs b (grind (arith, nat_tests)) (grind (arith, nat_tests))) (λ run. same)

pub variable_stands : (signs : Bool) (text bytes rest : List ℕ) → text ≡ bytes ++ rest → list_all is_word bytes ≡ true → Lacks is_word rest → Begins begins_variable text → Stands signs (record { kind = kind.Variable; bytes = bytes }) rest
variable_stands signs text bytes rest split all stops begins =
    split_stands signs kind.Variable begins_variable is_word text bytes rest split all stops begins (λ b h. grind (arith, nat_tests)) (λ b h. word_leaves signs b (grind (arith, nat_tests)) (grind (arith, nat_tests))) (λ run. run)

pub integer_stands : (signs : Bool) (text bytes rest : List ℕ) → text ≡ bytes ++ rest → list_all is_ascii_digit bytes ≡ true → Lacks is_ascii_digit rest → Begins is_ascii_digit text → Stands signs (record { kind = kind.Integer; bytes = bytes }) rest
integer_stands signs text bytes rest split all stops begins =
    split_stands signs kind.Integer is_ascii_digit is_ascii_digit text bytes rest split all stops begins (λ b h. h) (λ b h. digit_leaves signs b h) (λ run. inl run)

-- what a minus and the digits after it are cut into
pub record CutNegative (text bytes rest : List ℕ) : Type 0 where
  pub split : text ≡ bytes ++ rest
  pub stands : Stands true (record { kind = kind.Integer; bytes = bytes }) rest

pub negative_stands : (text digits more bytes rest : List ℕ) → BeginsNegative text → drop 1 text ≡ digits ++ more → list_all is_ascii_digit digits ≡ true → Lacks is_ascii_digit more → bytes ≡ take (1 + length digits) text → rest ≡ drop (1 + length digits) text → CutNegative text bytes rest
negative_stands [] digits more bytes rest begins split all stops front back = absurd begins
negative_stands (b ∷ bs) digits more bytes rest begins split all stops front back =
    let run = run_of_split is_ascii_digit is_ascii_digit bs digits more split all stops begins.1 (λ b h. h) in
    let bytes_are : bytes ≡ b ∷ digits = front ∙ rw (one-add, split) (ap (λ l. b ∷ l) (take-append_seam digits more)) in
    let rest_is : rest ≡ more = back ∙ rw (one-add, split) (drop-append_seam digits more) in
    let form : HasForm true kind.Integer bytes = subst (HasForm true kind.Integer) (sym bytes_are) (inr (refl, (begins.0, run))) in
    record {
      split = ap (λ l. b ∷ l) split ∙ sym (ap (λ l. l ++ rest) bytes_are ∙ ap (λ l. (b ∷ digits) ++ l) rest_is);
      stands = run_stands true (record { kind = kind.Integer; bytes = bytes }) rest is_ascii_digit b digits bytes_are form (subst (Lacks is_ascii_digit) (sym rest_is) stops) (minus_leaves true b begins.0);
    }

-- every piece has a byte
pub no_form_is_empty : (signs : Bool) (k : Kind) → HasForm signs k [] → ⊥
no_form_is_empty signs k form = grind arith

-- the front of a text that begins neither a blank, a comment nor a word, and where no sign stands
pub record BeginsNoRun (signs : Bool) (text : List ℕ) : Type 0 where
  pub no_word : Lacks is_word text
  pub no_blank : Lacks is_blank text
  pub no_percent : Lacks (λ b. b == 37) text
  pub no_sign : ¬ (IsTrue signs × BeginsNegative text)

-- a piece at the front of such a text is a symbol
pub only_symbols : (signs : Bool) (text : List ℕ) → BeginsNoRun signs text → (q : Piece) (more : List ℕ) → text ≡ q.bytes ++ more → HasForm signs q.kind q.bytes → (s : Symbol) × (q.bytes ≡ spelling s)
only_symbols signs text begins q more split form = by_bytes q.kind q.bytes split form
  where
    by_bytes : (k : Kind) (bytes : List ℕ) → text ≡ bytes ++ more → HasForm signs k bytes → (s : Symbol) × (bytes ≡ spelling s)
    by_bytes k [] split form = absurd (no_form_is_empty signs k form)
    by_bytes k (b ∷ v) split form =
        let starts : BeginsSymbol b = record {
          no_word = subst (Lacks is_word) split begins.no_word;
          no_blank = subst (Lacks is_blank) split begins.no_blank;
          no_percent = subst (Lacks (λ b. b == 37)) split begins.no_percent;
        } in
        elim (symbol_or_negative signs b starts k v form) [
          | inl found ↦ found
          | inr sign ↦ absurd (begins.no_sign (sign.0, subst BeginsNegative (sym split) (grind (arith, sign.1))))
        ]

pub symbol_stands : (signs : Bool) (text bytes rest : List ℕ) (s : Symbol) → BeginsNoRun signs text → text ≡ bytes ++ rest → bytes ≡ spelling s → IsLongest s rest → Stands signs (record { kind = kind.Symbol s; bytes = bytes }) rest
symbol_stands signs text bytes rest s begins split spelled longest = record {
  form = spelled;
  longest = λ q more form e.
      let found = only_symbols signs text begins q more (split ∙ e) form in
      let bound = longest found.0 more (ap (λ l. l ++ rest) (sym spelled) ∙ e ∙ ap (λ l. l ++ more) found.1) in
      omega (arith, ap length found.1, ap length spelled);
}
