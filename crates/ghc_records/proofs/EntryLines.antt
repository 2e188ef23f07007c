-- Lemmas on lines that say entries.
use Rattle.ghc_records.proofs.Words.{◌≡◌, ◌≢◌, ◌≤◌, ◌<◌, ℕ, ◌⊎◌, inl, inr, All, List, [], ◌∷◌, ◌++◌, Bool, true, false, Option, Some, None, IfNone, get_or, length, refl, sym, ap, ◌∙◌, subst, arith, decimal, codes, and_parts, is_ascii_digit, list_all, append_cancel_left, append-nil, Step, Entry, took, undid, rolled, redid, reordered, IsLineOf, SaysStep, greatest_number, pieces_of, IsInTurn, IsNamed, SaysAsking, SaysEntry, entry_text, numbers_behind}
use Rattle.ghc_records.proofs.CutLemmas.{cut_once, line_is, no_cut, number_plain, one_number, said_digits, some_digit}

-- ---- lines begin with a digit where they say steps, and else with a letter

first_digit : (ds rest more : List ℕ) (b : ℕ) → list_all is_ascii_digit ds ≡ true → 0 < length ds → ds ++ rest ≡ b ∷ more → is_ascii_digit b ≡ true
first_digit [] rest more b digits some e = absurd (omega (arith, some))
first_digit (d ∷ ds) rest more b digits some e =
    let same : d ≡ b = cc in
    ap is_ascii_digit (sym same) ∙ (and_parts (is_ascii_digit d) (list_all is_ascii_digit ds) digits).0

-- a line that begins with a number begins with a digit
pub digit_first : (line rest more : List ℕ) (n b : ℕ) → n ≤ greatest_number → line ≡ decimal n ++ rest → line ≡ b ∷ more → is_ascii_digit b ≡ true
digit_first line rest more n b small is begins = first_digit (decimal n) rest more b (said_digits n small) (some_digit n small) (sym is ∙ begins)

-- a line that says a step begins with its number and a space
pub number_first : (line : List ℕ) (s : Step) → SaysEntry line (took s) → (rest : List ℕ) × (line ≡ decimal s.number ++ 32 ∷ rest) × (s.number ≤ greatest_number)
number_first line s (inl h) = (_, h.parts, h.number.1)
number_first line s (inr h) = (_, h.parts, h.number.1)

no_letter : (line more : List ℕ) (s : Step) (b : ℕ) → is_ascii_digit b ≡ false → SaysEntry line (took s) → line ≢ b ∷ more
no_letter line more s b letter says begins =
    let k = number_first line s says in
    let clash : true ≡ false = sym (digit_first line (32 ∷ k.0) more s.number b k.2 k.1 begins) ∙ letter in
    cc

-- a line that says a step says no other entry
pub step_alone : (line : List ℕ) (s : Step) (e : Entry) → SaysEntry line (took s) → SaysEntry line e → (t : Step) × (e ≡ took t) × (t.number ≡ s.number)
step_alone line s (took t) says other =
    let k = number_first line s says in
    let l = number_first line t other in
    let same = cut_once 32 (decimal t.number) l.0 (decimal s.number) k.0 (number_plain 32 t.number refl l.2) (number_plain 32 s.number refl k.2) (sym l.1 ∙ k.1) in
    (t, refl, one_number t.number s.number l.2 k.2 same.0)
step_alone line s e says other = absurd (no_letter line _ s (get_or (entry_text e) 0 0) refl says other.0)

-- where a line says an entry that can follow, each entry that it says can follow
pub one_turn : (line : List ℕ) (n : ℕ) (e f : Entry) → SaysEntry line e → SaysEntry line f → IsInTurn n f → IsInTurn n e
one_turn line n (took s) f says other turn =
    let k = step_alone line s f says other in
    let again : IsInTurn n (took k.0) = subst (IsInTurn n) k.1 turn in
    (sym k.2 ∙ again.0, again.1)
one_turn line n e f says other turn = tt

-- ---- numbers after spaces

-- the bytes are none, or begin with a space
abbrev pub IsCut : List ℕ → Type 0
IsCut bytes = (bytes ≡ []) ⊎ ((more : List ℕ) × (bytes ≡ 32 ∷ more))

pub cut_numbers : (ns : List ℕ) → IsCut (numbers_behind ns)
cut_numbers [] = inl refl
cut_numbers (n ∷ ns) = inr (_, refl)

-- words without a space are cut in one way
pub one_word : (a b x y : List ℕ) → All (λ c. c ≢ 32) a → All (λ c. c ≢ 32) b → IsCut x → IsCut y → a ++ x ≡ b ++ y → (a ≡ b) × (x ≡ y)
one_word a b x y p q (inl k) (inl l) e = (simp (k, l, append-nil) at e, k ∙ sym l)
one_word a b x y p q (inl k) (inr l) e = absurd (no_cut 32 b l.0 a q p (sym (append-nil a) ∙ ap (λ z. a ++ z) (sym k) ∙ e ∙ ap (λ z. b ++ z) l.1))
one_word a b x y p q (inr k) (inl l) e = absurd (no_cut 32 a k.0 b p q (sym (append-nil b) ∙ ap (λ z. b ++ z) (sym l) ∙ sym e ∙ ap (λ z. a ++ z) k.1))
one_word a b x y p q (inr k) (inr l) e =
    let same = cut_once 32 a k.0 b l.0 p q (ap (λ z. a ++ z) (sym k.1) ∙ e ∙ ap (λ z. b ++ z) l.1) in
    (same.0, k.1 ∙ ap (λ z. 32 ∷ z) same.1 ∙ sym l.1)

-- what follows the first number
pub further : (bytes front words word rest : List ℕ) → front ≡ codes " " → bytes ≡ front ++ words → words ≡ word ++ rest → All (λ c. c ≢ 32) word → IsCut rest
    → (n : ℕ) (ns : List ℕ) → IsNamed n → bytes ≡ numbers_behind (n ∷ ns) → (word ≡ decimal n) × (rest ≡ numbers_behind ns)
further bytes front words word rest at begins split plain cut n ns named e =
    let all : words ≡ decimal n ++ numbers_behind ns = append_cancel_left (codes " ") words (decimal n ++ numbers_behind ns) (ap (λ l. l ++ words) (sym at) ∙ sym begins ∙ e) in
    one_word word (decimal n) rest (numbers_behind ns) plain (number_plain 32 n refl named.1) cut (cut_numbers ns) (sym split ∙ all)

-- ---- what a line says, and whether it can follow

pub not_in_turn : (text line rest : List ℕ) (n : ℕ) (e : Entry) (b : Bool) → pieces_of text ≡ line ∷ pieces_of rest → SaysEntry line e → (IsInTurn n e → b ≡ true) → b ≡ false
    → (other : List ℕ) (f : Entry) → IsLineOf (pieces_of text) 0 other → SaysEntry other f → ¬ IsInTurn n f
not_in_turn text line rest n e b found says is never other f stands other_says turn =
    let same : other ≡ line = line_is (pieces_of text) 0 text line rest other refl found stands in
    let clash : true ≡ false = sym (is (one_turn line n e f says (subst (λ l. SaysEntry l f) same other_says) turn)) ∙ never in
    cc

-- ---- what a line does not say

pub no_number : (line front word : List ℕ) (r : Option ℕ) → line ≡ front ++ word → IfNone r ((n : ℕ) → 1 ≤ n → n ≤ greatest_number → word ≢ decimal n) → IfNone r ((n : ℕ) → IsNamed n → line ≢ front ++ decimal n)
no_number line front word (Some n) begins none = tt
no_number line front word None begins none = λ n named e. none n named.0 named.1 (append_cancel_left front word (decimal n) (sym begins ∙ e))

pub no_order : (line front bytes : List ℕ) → front ≡ codes "arrange" → line ≡ front ++ bytes → ((ns : List ℕ) → All IsNamed ns → bytes ≢ numbers_behind ns) → (ns : List ℕ) → ¬ SaysEntry line (reordered ns)
no_order line front bytes at begins none ns says =
    none ns says.1 (append_cancel_left (codes "arrange") bytes (numbers_behind ns) (ap (λ l. l ++ bytes) (sym at) ∙ sym begins ∙ says.0))

pub no_entry : (line : List ℕ) → ((n : ℕ) → ¬ SaysEntry line (undid n)) → ((n : ℕ) → ¬ SaysEntry line (rolled n)) → ((n : ℕ) → ¬ SaysEntry line (redid n)) → ((ns : List ℕ) → ¬ SaysEntry line (reordered ns))
    → ((s : Step) → ¬ SaysEntry line (took s)) → (e : Entry) → ¬ SaysEntry line e
no_entry line undo roll redo order step (took s) says = step s says
no_entry line undo roll redo order step (undid n) says = undo n says
no_entry line undo roll redo order step (rolled n) says = roll n says
no_entry line undo roll redo order step (redid n) says = redo n says
no_entry line undo roll redo order step (reordered ns) says = order ns says

pub no_step : (line : List ℕ) → ((s : Step) → ¬ SaysStep line s) → ((s : Step) → ¬ SaysAsking line s) → (s : Step) → ¬ SaysEntry line (took s)
no_step line plain asking s (inl h) = plain s h
no_step line plain asking s (inr h) = asking s h

-- where no space is first, no number follows one
pub no_space : (bytes front : List ℕ) → front ≡ codes " " → ((rest : List ℕ) → bytes ≢ front ++ rest) → (ns : List ℕ) → All IsNamed ns → bytes ≡ numbers_behind ns → ns ≡ []
no_space bytes front at none [] all e = refl
no_space bytes front at none (n ∷ ns) all e = absurd (none (decimal n ++ numbers_behind ns) (e ∙ ap (λ l. l ++ (decimal n ++ numbers_behind ns)) (sym at)))

-- nor where the word after it is no number
pub no_word : (bytes front words word rest : List ℕ) → front ≡ codes " " → bytes ≡ front ++ words → words ≡ word ++ rest → All (λ c. c ≢ 32) word → IsCut rest
    → ((n : ℕ) → 1 ≤ n → n ≤ greatest_number → word ≢ decimal n) → (ns : List ℕ) → All IsNamed ns → bytes ≡ numbers_behind ns → ns ≡ []
no_word bytes front words word rest at begins split plain cut none [] all e = refl
no_word bytes front words word rest at begins split plain cut none (n ∷ ns) all e =
    let named : IsNamed n = all 0 0 (omega arith) in
    absurd (none n named.0 named.1 (further bytes front words word rest at begins split plain cut n ns named e).0)
