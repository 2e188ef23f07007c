-- No line feed stands in the text of an input term, nor in that of a step or in another line of a history.
use Rattle.ghc_records.proofs.Words.{◌≡◌, ◌≢◌, ℕ, suc, nat_eq, ◌<◌, ◌^◌, inl, inr, Bool, true, false, All, List, [], ◌∷◌, ◌++◌, refl, sym, ◌∙◌, subst, arith, decimal, ℤ, pos, negsuc, FitsSigned, w64, codes, if◌then◌else◌, IsTrue, ◌&&◌, not, signed_decimal, is_ascii_lowercase, list_all, eq-eqb, All-nil, All-cons, All-append, decimal_is_IsNumeral, bytes_eq-Decides, and_parts, not_both, VarName, Tree, variable, integer, node, Trees, none, more, is_cell, is_nil, variable_text, term_text, cell_text, rest_text, arguments_text, further_text, barred, is_name_byte, IsNameText, IsHead, IsInGrammar, AllInGrammar, IsWritable, AreWritable}
use Rattle.ghc_records.proofs.CutLemmas.{digits_plain}

-- no byte is a line feed
abbrev pub HasNoFeed : List ℕ → Type 0
HasNoFeed bytes = All (λ b. b ≢ 10) bytes

pub nothing : HasNoFeed []
nothing = All-nil (λ b. b ≢ 10)

pub byte_first : (b : ℕ) (bs : List ℕ) → b ≢ 10 → HasNoFeed bs → HasNoFeed (b ∷ bs)
byte_first b bs other h = All-cons (λ b. b ≢ 10) b bs other h

pub both : (xs ys : List ℕ) → HasNoFeed xs → HasNoFeed ys → HasNoFeed (xs ++ ys)
both xs ys p q = All-append (λ b. b ≢ 10) xs ys p q

-- what is written out has none, by the test
pub plain_codes : (bytes : List ℕ) → list_all (λ b. not (nat_eq b 10)) bytes ≡ true → HasNoFeed bytes
plain_codes [] e = nothing
plain_codes (b ∷ bytes) e = elim (nat_eq b 10) as (λ t. nat_eq b 10 ≡ t → (not t && list_all (λ b. not (nat_eq b 10)) bytes) ≡ true → HasNoFeed (b ∷ bytes)) [
  | true ↦ λ is none. cc
  | false ↦ λ is rest. byte_first b bytes (λ same. let clash : true ≡ false = sym (eq-eqb b 10 same) ∙ is in cc) (plain_codes bytes rest)
] refl e

-- nor a mark that is none of its bytes in a name
name_bytes : (mark : ℕ) → is_name_byte mark ≡ false → (bs : List ℕ) → IsTrue (list_all is_name_byte bs) → All (λ b. b ≢ mark) bs
name_bytes mark other [] h = All-nil (λ b. b ≢ mark)
name_bytes mark other (b ∷ bs) h =
    let p = and_parts (is_name_byte b) (list_all is_name_byte bs) h in
    All-cons (λ c. c ≢ mark) b bs (λ e. not_both (is_name_byte mark) other (subst (λ c. IsTrue (is_name_byte c)) e p.0)) (name_bytes mark other bs p.1)

pub name_without : (mark : ℕ) → is_name_byte mark ≡ false → is_ascii_lowercase mark ≡ false → (f : List ℕ) → IsNameText f → All (λ b. b ≢ mark) f
name_without mark other small [] h = absurd h
name_without mark other small (b ∷ bs) h = All-cons (λ c. c ≢ mark) b bs
    (λ e. not_both (is_ascii_lowercase mark) small (subst (λ c. IsTrue (is_ascii_lowercase c)) e h.0)) (name_bytes mark other bs h.1)

pub name_text : (f : List ℕ) → IsNameText f → HasNoFeed f
name_text = name_without 10 refl refl

pub decimal_text : (n : ℕ) → n < 2 ^ 64 → HasNoFeed (decimal n)
decimal_text n h = digits_plain 10 refl (decimal n) (decimal_is_IsNumeral n h).0.1

pub integer_text : (z : ℤ) → FitsSigned w64 z → HasNoFeed (signed_decimal z)
integer_text (pos n) h = decimal_text n (omega (arith, h.sfits))
integer_text (negsuc n) h = byte_first 45 (decimal (suc n)) (λ e. omega (arith, e)) (decimal_text (suc n) (omega (arith, h.sfits)))

closed : (xs : List ℕ) → HasNoFeed xs → HasNoFeed (barred xs)
closed xs p = byte_first 124 (xs ++ codes "]") (λ e. omega (arith, e)) (both xs (codes "]") p (byte_first 93 [] (λ e. omega (arith, e)) nothing))

choose : (b : Bool) (xs ys : List ℕ) → (b ≡ true → HasNoFeed xs) → (b ≡ false → HasNoFeed ys) → HasNoFeed (if b then xs else ys)
choose true xs ys p q = p refl
choose false xs ys p q = q refl

nil_head : (f : List ℕ) (ts : Trees) → is_nil f ts ≡ true → HasNoFeed f
nil_head f none e = subst HasNoFeed (sym ((bytes_eq-Decides f (codes "[]")).0 e)) (byte_first 91 (codes "]") (λ e. omega (arith, e)) (byte_first 93 [] (λ e. omega (arith, e)) nothing))
nil_head f (more t ts) e = cc

head_text : (f : List ℕ) (ts : Trees) → is_cell f ts ≡ false → IsHead f ts → HasNoFeed f
head_text f ts e (inl z) = nil_head f ts z
head_text f ts e (inr (inl z)) = let clash : true ≡ false = sym z ∙ e in cc
head_text f ts e (inr (inr p)) = name_text f p.0

-- .. and of any term that the grammar has a text for, where none stands in those of its variables
module _ (V : VarName → Type 0) (variable_plain : (x : VarName) → V x → HasNoFeed (variable_text x)) where
  mutual
    pub tree_plain : (t : Tree) → IsWritable V t → HasNoFeed (term_text t)
    tree_plain (variable x) g = variable_plain x g
    tree_plain (integer k) g = integer_text k g
    tree_plain (node f ts) g =
        choose (is_cell f ts) (codes "[" ++ cell_text ts) (f ++ arguments_text ts)
        (λ e. byte_first 91 (cell_text ts) (λ e. omega (arith, e)) (cell_plain ts g.1))
        (λ e. both f (arguments_text ts) (head_text f ts e g.0) (arguments_plain ts g.1))

    cell_plain : (ts : Trees) → AreWritable V ts → HasNoFeed (cell_text ts)
    cell_plain none g = nothing
    cell_plain (more t none) g = nothing
    cell_plain (more t (more u none)) g = both (term_text t) (rest_text u) (tree_plain t g.0) (rest_plain u g.1.0)
    cell_plain (more t (more u (more v vs))) g = nothing

    rest_plain : (t : Tree) → IsWritable V t → HasNoFeed (rest_text t)
    rest_plain (variable x) g = closed (variable_text x) (variable_plain x g)
    rest_plain (integer k) g = closed (signed_decimal k) (integer_text k g)
    rest_plain (node f ts) g =
        choose (is_nil f ts) (codes "]") (if is_cell f ts then codes "," ++ cell_text ts else barred (f ++ arguments_text ts))
        (λ n. byte_first 93 [] (λ e. omega (arith, e)) nothing)
        (λ n. choose (is_cell f ts) (codes "," ++ cell_text ts) (barred (f ++ arguments_text ts))
        (λ e. byte_first 44 (cell_text ts) (λ e. omega (arith, e)) (cell_plain ts g.1))
        (λ e. closed (f ++ arguments_text ts) (both f (arguments_text ts) (head_text f ts e g.0) (arguments_plain ts g.1))))

    pub arguments_plain : (ts : Trees) → AreWritable V ts → HasNoFeed (arguments_text ts)
    arguments_plain none g = nothing
    arguments_plain (more t ts) g = byte_first 40 (term_text t ++ further_text ts) (λ e. omega (arith, e)) (both (term_text t) (further_text ts) (tree_plain t g.0) (further_plain ts g.1))

    further_plain : (ts : Trees) → AreWritable V ts → HasNoFeed (further_text ts)
    further_plain none g = byte_first 41 [] (λ e. omega (arith, e)) nothing
    further_plain (more t ts) g = byte_first 44 (term_text t ++ further_text ts) (λ e. omega (arith, e)) (both (term_text t) (further_text ts) (tree_plain t g.0) (further_plain ts g.1))

mutual
  closed_writable : (t : Tree) → IsInGrammar t → IsWritable (λ x. ⊥) t
  closed_writable (variable x) g = g
  closed_writable (integer k) g = g
  closed_writable (node f ts) g = (g.0, all_writable ts g.1)

  all_writable : (ts : Trees) → AllInGrammar ts → AreWritable (λ x. ⊥) ts
  all_writable none g = g
  all_writable (more t ts) g = (closed_writable t g.0, all_writable ts g.1)

pub term_plain : (t : Tree) → IsInGrammar t → HasNoFeed (term_text t)
term_plain t g = tree_plain (λ x. ⊥) (λ x none. absurd none) t (closed_writable t g)
