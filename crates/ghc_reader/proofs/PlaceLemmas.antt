-- Where the text goes on after a piece.
use Rattle.ghc_reader.proofs.Words.{◌≡◌, ◌⊎◌, ℕ, ◌+◌, ◌≤◌, Bool, true, false, List, [], ◌∷◌, ◌++◌, length, refl, sym, ap, subst, ◌∙◌, inl, inr, arith, ◌==◌, not, add-zero, nat_tests, eqb_tells, is_ascii_digit, list_all, is_word, behind_byte, place_behind, HasForm, Place, Kind}
use Rattle.ghc_reader.specs.declared.lexer.front.Kind.TheVariants as kind

-- no line feed
abbrev no_feed : ℕ → Bool
no_feed b = not (b == 10)

all_weaker : (p q : ℕ → Bool) → ((b : ℕ) → p b ≡ true → q b ≡ true) → (bs : List ℕ) → list_all p bs ≡ true → list_all q bs ≡ true
all_weaker p q weaker [] all = refl
all_weaker p q weaker (b ∷ bs) all =
    let this = weaker b (grind (arith, all)) in
    let those = all_weaker p q weaker bs (grind (arith, all)) in
    grind (arith, this, those)

-- after bytes of one line
pub behind_line : (place : Place) (bs : List ℕ) → list_all no_feed bs ≡ true → place_behind place bs ≡ record { line = place.line; column = place.column + length bs }
behind_line place [] all = ap (λ c. record { line = place.line; column = c }) (sym (add-zero place.column))
behind_line place (b ∷ bs) all =
    let first : (b == 10) ≡ false = grind (arith, all) in
    let here : behind_byte place b ≡ record { line = place.line; column = place.column + 1 } = rw first refl in
    let next = behind_line (record { line = place.line; column = place.column + 1 }) bs (grind (arith, all)) in
    let sums : place.column + 1 + length bs ≡ place.column + length (b ∷ bs) = omega arith in
    ap (λ p. place_behind p bs) here ∙ next ∙ ap (λ c. record { line = place.line; column = c }) sums

-- a piece is a line feed or stands in one line
pub feed_or_line : (signs : Bool) (k : Kind) (bs : List ℕ) → HasForm signs k bs → (bs ≡ 10 ∷ []) ⊎ (list_all no_feed bs ≡ true)
feed_or_line signs kind.Blank [] form = absurd form
feed_or_line signs kind.Blank (b ∷ bs) form =
    let alone = form.1 in
    elim (eqb_tells b 10) [
      | inl (_, feed) ↦ inl (cc)
      | inr (other, _) ↦ inr (subst (λ l. list_all no_feed (b ∷ l) ≡ true) (sym alone) (grind (arith, other)))
    ]
feed_or_line signs k [] form = inr refl
feed_or_line signs kind.Comment (b ∷ bs) form = inr (let h = form.0 in let r = form.1 in grind (arith, nat_tests, h, r))
feed_or_line signs kind.Name (b ∷ bs) form =
    inr (let h = form.0.0 in let r = all_weaker is_word no_feed (λ c p. grind (arith, nat_tests)) bs form.0.1 in grind (arith, nat_tests, h, r))
feed_or_line signs kind.Variable (b ∷ bs) form =
    inr (let h = form.0 in let r = all_weaker is_word no_feed (λ c p. grind (arith, nat_tests)) bs form.1 in grind (arith, nat_tests, h, r))
feed_or_line signs kind.Integer (b ∷ bs) (inl run) =
    inr (let h = run.0 in let r = all_weaker is_ascii_digit no_feed (λ c p. grind (arith, nat_tests)) bs run.1 in grind (arith, nat_tests, h, r))
feed_or_line signs kind.Integer (b ∷ []) (inr negative) = absurd negative.1.1
feed_or_line signs kind.Integer (b ∷ d ∷ ds) (inr negative) =
    let h = negative.1.0 in
    let i = negative.1.1.0 in
    let r = all_weaker is_ascii_digit no_feed (λ c p. grind (arith, nat_tests)) ds negative.1.1.1 in
    inr (grind (arith, nat_tests, h, i, r))
feed_or_line signs (kind.Symbol s) (b ∷ bs) form = inr (subst (λ l. list_all no_feed l ≡ true) (sym form) (grind arith))

-- after a piece that is no line feed
pub behind_other : (place : Place) (signs : Bool) (k : Kind) (bs : List ℕ) → HasForm signs k bs → ¬ (bs ≡ 10 ∷ []) → place_behind place bs ≡ record { line = place.line; column = place.column + length bs }
behind_other place signs k bs form other =
    elim (feed_or_line signs k bs form) [ inl feed ↦ absurd (other feed) | inr line ↦ behind_line place bs line ]

-- a place is at most as many lines and columns on as there are bytes before it
pub record Within (place end : Place) (n : ℕ) : Type 0 where
  pub line : end.line ≤ place.line + n
  pub column : end.column ≤ place.column + n
  pub first_column : 1 ≤ place.column → 1 ≤ end.column

byte_within : (place : Place) (b : ℕ) → 1 ≤ place.column → Within place (behind_byte place b) 1
byte_within place b positive = grind (arith, nat_tests)

pub behind_within : (place : Place) (bs : List ℕ) → 1 ≤ place.column → Within place (place_behind place bs) (length bs)
behind_within place [] positive = record { line = omega arith; column = omega arith; first_column = λ h. h }
behind_within place (b ∷ bs) positive =
    let step = byte_within place b positive in
    let more = behind_within (behind_byte place b) bs (step.first_column positive) in
    record { line = omega arith; column = omega arith; first_column = λ h. more.first_column (step.first_column h) }

pub place_behind-append : (place : Place) (front bs : List ℕ) → place_behind place (front ++ bs) ≡ place_behind (place_behind place front) bs
place_behind-append place [] bs = refl
place_behind-append place (b ∷ front) bs = place_behind-append (behind_byte place b) front bs
