-- The brackets of a tree are those of its text.
use Rattle.ghc_term.proofs.Words.{◌≡◌, ◌≢◌, ℕ, zero, suc, ◌+◌, ◌-◌, ◌≤◌, ◌<◌, ◌^◌, max, Bool, true, false, map, ℤ, pos, negsuc, FitsSigned, w64, List, [], ◌∷◌, ◌++◌, refl, sym, ap, ◌∙◌, subst, inl, inr, arith, append_assoc, append-nil, codes, if◌then◌else◌, IsTrue, ◌&&◌, decimal, signed_decimal, list_all, digits_of, AllBelowBase, all_below_base_digits_of, decimal_digit, decimal-digits_of, bytes_eq-Decides, is_ascii_lowercase, nat_tests, Tree, variable, integer, node, Trees, none, more, is_cell, is_nil, term_text, cell_text, rest_text, arguments_text, further_text, barred, is_name_byte, IsNameText, IsHead, IsInGrammar, AllInGrammar, nesting, cell_nesting, rest_nesting, arguments_nesting, deepest, open_behind, most_open}

-- xs opens n brackets at one place and closes them
abbrev pub Nests : List ℕ → ℕ → Type 0
Nests xs n = (k : ℕ) (rest : List ℕ) → most_open k (xs ++ rest) ≡ max (k + n) (most_open k rest)

-- .. and closes one more
abbrev pub Closes : List ℕ → ℕ → Type 0
Closes xs n = (k : ℕ) (rest : List ℕ) → most_open (k + 1) (xs ++ rest) ≡ max (k + 1 + n) (most_open k rest)

pub at_least : (k : ℕ) (xs : List ℕ) → k ≤ most_open k xs
at_least k [] = omega arith
at_least k (b ∷ bs) = omega arith

nothing : Nests [] 0
nothing k rest = omega (arith, at_least k rest)

both : (xs ys : List ℕ) (m n : ℕ) → Nests xs m → Nests ys n → Nests (xs ++ ys) (max m n)
both xs ys m n p q k rest = ap (most_open k) (append_assoc xs ys rest) ∙ omega (arith, p k (ys ++ rest), q k rest)

both_close : (xs ys : List ℕ) (m n : ℕ) → Nests xs m → Closes ys n → Closes (xs ++ ys) (max m n)
both_close xs ys m n p q k rest = ap (most_open (k + 1)) (append_assoc xs ys rest) ∙ omega (arith, p (k + 1) (ys ++ rest), q k rest)

plain : (b k : ℕ) → b ≢ 40 → b ≢ 91 → b ≢ 41 → b ≢ 93 → open_behind k b ≡ k
plain b k a c d e = grind (arith, nat_tests)

abbrev IsPlain : ℕ → Type 0
IsPlain b = (k : ℕ) → open_behind k b ≡ k

byte_first : (b : ℕ) (bs : List ℕ) (n : ℕ) → IsPlain b → Nests bs n → Nests (b ∷ bs) n
byte_first b bs n p q k rest = ap (λ j. max k (most_open j (bs ++ rest))) (p k) ∙ omega (arith, q k rest)

byte_first_close : (b : ℕ) (bs : List ℕ) (n : ℕ) → IsPlain b → Closes bs n → Closes (b ∷ bs) n
byte_first_close b bs n p q k rest = ap (λ j. max (k + 1) (most_open j (bs ++ rest))) (p (k + 1)) ∙ omega (arith, q k rest)

by_test : (p : ℕ → Bool) (b : ℕ) → IsTrue (p b) → p 40 ≡ false → p 91 ≡ false → p 41 ≡ false → p 93 ≡ false → IsPlain b
by_test p b h v w x y k =
    let apart : (c : ℕ) → p c ≡ false → b ≢ c = λ c n e. let clash : false ≡ true = sym n ∙ ap p (sym e) ∙ h in cc in
    plain b k (apart 40 v) (apart 91 w) (apart 41 x) (apart 93 y)

name_byte : (b : ℕ) → IsTrue (is_name_byte b) → IsPlain b
name_byte b h = by_test is_name_byte b h refl refl refl refl

small_letter : (b : ℕ) → IsTrue (is_ascii_lowercase b) → IsPlain b
small_letter b h = by_test is_ascii_lowercase b h refl refl refl refl

pub and_parts : (a b : Bool) → IsTrue (a && b) → IsTrue a × IsTrue b
and_parts true b h = (refl, h)
and_parts false b h = cc

name_bytes : (bs : List ℕ) → IsTrue (list_all is_name_byte bs) → Nests bs 0
name_bytes [] h = nothing
name_bytes (b ∷ bs) h = let p = and_parts (is_name_byte b) (list_all is_name_byte bs) h in byte_first b bs 0 (name_byte b p.0) (name_bytes bs p.1)

name_text : (f : List ℕ) → IsNameText f → Nests f 0
name_text [] h = absurd h
name_text (b ∷ bs) h = byte_first b bs 0 (small_letter b h.0) (name_bytes bs h.1)

digits_text : (ds : List ℕ) → AllBelowBase 10 ds → Nests (map (λ d. 48 + d) ds) 0
digits_text [] h = nothing
digits_text (d ∷ ds) h =
    byte_first (48 + d) (map (λ e. 48 + e) ds) 0 (λ k. plain (48 + d) k (λ e. absurd (omega (arith, h.0))) (λ e. absurd (omega (arith, h.0))) (λ e. absurd (omega (arith, h.0))) (λ e. absurd (omega (arith, h.0)))) (digits_text ds h.1)

decimal_text : (n : ℕ) → n < 2 ^ 64 → Nests (decimal n) 0
decimal_text zero h = subst (λ xs. Nests xs 0) (sym (decimal_digit 0 (omega arith))) (byte_first 48 [] 0 (λ k. refl) nothing)
decimal_text (suc n) h = subst (λ xs. Nests xs 0) (sym (decimal-digits_of (suc n) (omega arith) h)) (digits_text (digits_of 10 (suc n)) (all_below_base_digits_of 10 (suc n) (omega arith)))

integer_text : (z : ℤ) → FitsSigned w64 z → Nests (signed_decimal z) 0
integer_text (pos n) h = decimal_text n (omega (arith, h.sfits))
integer_text (negsuc n) h = byte_first 45 (decimal (suc n)) 0 (λ k. refl) (decimal_text (suc n) (omega (arith, h.sfits)))

opened : (xs : List ℕ) (n : ℕ) → Closes xs n → Nests (codes "[" ++ xs) (1 + n)
opened xs n p k rest = omega (arith, p k rest)

opened_round : (xs : List ℕ) (n : ℕ) → Closes xs n → Nests (codes "(" ++ xs) (1 + n)
opened_round xs n p k rest = omega (arith, p k rest)

back : (k : ℕ) → k + 1 - 1 ≡ k
back k = omega arith

closing : Closes (codes "]") 0
closing k rest = ap (λ j. max (k + 1) (most_open j rest)) (back k) ∙ omega arith

closing_round : Closes (codes ")") 0
closing_round k rest = ap (λ j. max (k + 1) (most_open j rest)) (back k) ∙ omega arith

closed_behind : (xs : List ℕ) (n : ℕ) → Nests xs n → Closes (xs ++ codes "]") n
closed_behind xs n p k rest = both_close xs (codes "]") n 0 p closing k rest ∙ omega arith

behind_name : (f xs : List ℕ) (n : ℕ) → Nests f 0 → Nests xs n → Nests (f ++ xs) n
behind_name f xs n p q k rest = both f xs 0 n p q k rest ∙ omega arith

after_bar : (xs : List ℕ) (n : ℕ) → Nests xs n → Closes (barred xs) n
after_bar xs n p = byte_first_close 124 (xs ++ codes "]") n (λ k. refl) (closed_behind xs n p)

pub choose : (P : List ℕ → ℕ → Type 0) (b : Bool) (xs ys : List ℕ) (m n : ℕ) → (b ≡ true → P xs m) → (b ≡ false → P ys n)
    → P (if b then xs else ys) (if b then m else n)
choose P true xs ys m n p q = p refl
choose P false xs ys m n p q = q refl

-- the empty list by itself is a pair of brackets
nil_text : (f : List ℕ) (ts : Trees) → is_nil f ts ≡ true → Nests (f ++ arguments_text ts) 1
nil_text f none e = subst (λ g. Nests (g ++ []) 1) (sym ((bytes_eq-Decides f (codes "[]")).0 e)) (opened (codes "]") 0 closing)
nil_text f (more t ts) e = cc

head_text : (f : List ℕ) (ts : Trees) → is_nil f ts ≡ false → is_cell f ts ≡ false → IsHead f ts → Nests f 0
head_text f ts n e (inl z) = let clash : true ≡ false = sym z ∙ n in cc
head_text f ts n e (inr (inl z)) = let clash : true ≡ false = sym z ∙ e in cc
head_text f ts n e (inr (inr p)) = name_text f p.0

mutual
  pub text_nests : (t : Tree) → IsInGrammar t → Nests (term_text t) (nesting t)
  text_nests (variable x) g = absurd g
  text_nests (integer k) g = integer_text k g
  text_nests (node f ts) g =
      choose Nests (is_cell f ts) (codes "[" ++ cell_text ts) (f ++ arguments_text ts) (1 + cell_nesting ts) (if is_nil f ts then 1 else arguments_nesting ts)
      (λ e. opened (cell_text ts) (cell_nesting ts) (cell_closes f ts e g.1))
      (λ e. choose (λ _. Nests (f ++ arguments_text ts)) (is_nil f ts) [] [] 1 (arguments_nesting ts)
      (nil_text f ts) (λ n. behind_name f (arguments_text ts) (arguments_nesting ts) (head_text f ts n e g.0) (arguments_nest ts g.1)))

  cell_closes : (f : List ℕ) (ts : Trees) → is_cell f ts ≡ true → AllInGrammar ts → Closes (cell_text ts) (cell_nesting ts)
  cell_closes f (more t (more u none)) e g = both_close (term_text t) (rest_text u) (nesting t) (rest_nesting u) (text_nests t g.0) (rest_closes u g.1.0)
  cell_closes f ts e g = cc

  rest_closes : (t : Tree) → IsInGrammar t → Closes (rest_text t) (rest_nesting t)
  rest_closes (variable x) g = absurd g
  rest_closes (integer k) g = after_bar (signed_decimal k) 0 (integer_text k g)
  rest_closes (node f ts) g =
      choose Closes (is_nil f ts) (codes "]") (if is_cell f ts then codes "," ++ cell_text ts else barred (f ++ arguments_text ts)) 0
      (if is_cell f ts then cell_nesting ts else arguments_nesting ts)
      (λ n. closing)
      (λ n. choose Closes (is_cell f ts) (codes "," ++ cell_text ts) (barred (f ++ arguments_text ts)) (cell_nesting ts) (arguments_nesting ts)
      (λ e. byte_first_close 44 (cell_text ts) (cell_nesting ts) (λ k. refl) (cell_closes f ts e g.1))
      (λ e. after_bar (f ++ arguments_text ts) (arguments_nesting ts) (behind_name f (arguments_text ts) (arguments_nesting ts) (head_text f ts n e g.0) (arguments_nest ts g.1))))

  arguments_nest : (ts : Trees) → AllInGrammar ts → Nests (arguments_text ts) (arguments_nesting ts)
  arguments_nest none g = nothing
  arguments_nest (more t ts) g =
      opened_round (term_text t ++ further_text ts) (max (nesting t) (deepest ts)) (both_close (term_text t) (further_text ts) (nesting t) (deepest ts) (text_nests t g.0) (further_closes ts g.1))

  further_closes : (ts : Trees) → AllInGrammar ts → Closes (further_text ts) (deepest ts)
  further_closes none g = closing_round
  further_closes (more t ts) g =
      byte_first_close 44 (term_text t ++ further_text ts) (max (nesting t) (deepest ts)) (λ k. refl)
      (both_close (term_text t) (further_text ts) (nesting t) (deepest ts) (text_nests t g.0) (further_closes ts g.1))

-- no more brackets stand open in the text than the tree is nested
pub most_open-term : (t : Tree) → IsInGrammar t → most_open 0 (term_text t) ≡ nesting t
most_open-term t g = ap (most_open 0) (sym (append-nil (term_text t))) ∙ (text_nests t g 0 [] ∙ omega arith)
