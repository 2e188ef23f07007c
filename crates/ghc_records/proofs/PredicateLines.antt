-- Lemmas on lines that say predicates.
use Rattle.ghc_records.proofs.Words.{◌≡◌, ◌≢◌, ℕ, zero, suc, All, List, [], ◌∷◌, ◌++◌, Bool, true, false, refl, sym, ◌∙◌, subst, arith, decimal, IsTrue, list_all, IsAscii, and_parts, is_name_byte, IsNameText, Predicate, SaysPredicate}
use Rattle.ghc_records.proofs.CutLemmas.{cut_once, no_cut}
use Rattle.ghc_records.proofs.PlainTexts.{name_without}

-- no stroke stands in a name
pub name_plain : (f : List ℕ) → IsNameText f → All (λ b. b ≢ 47) f
name_plain = name_without 47 refl refl

ascii_bytes : (bs : List ℕ) → IsTrue (list_all is_name_byte bs) → IsAscii bs
ascii_bytes [] e i = omega arith
ascii_bytes (b ∷ bs) e zero = let p = and_parts (is_name_byte b) (list_all is_name_byte bs) e in grind (arith, p.0)
ascii_bytes (b ∷ bs) e (suc i) = ascii_bytes bs (and_parts (is_name_byte b) (list_all is_name_byte bs) e).1 i

-- the bytes of a name are ASCII
pub ascii_name : (f : List ℕ) → IsNameText f → IsAscii f
ascii_name [] h i = absurd h
ascii_name (b ∷ bs) h zero = grind (arith, h.0)
ascii_name (b ∷ bs) h (suc i) = ascii_bytes bs h.1 i

-- a line is cut at its first stroke in one way
pub predicate_apart : (line a b : List ℕ) (p : Predicate) → line ≡ a ++ 47 ∷ b → All (λ c. c ≢ 47) a → SaysPredicate line p → (a ≡ p.name) × (b ≡ decimal p.arity)
predicate_apart line a b p cut plain says = cut_once 47 a b p.name (decimal p.arity) plain (name_plain p.name says.1) (sym cut ∙ says.0)

-- without a stroke no predicate is said
pub no_predicate : (line : List ℕ) → All (λ c. c ≢ 47) line → (p : Predicate) → ¬ SaysPredicate line p
no_predicate line plain p says = no_cut 47 p.name (decimal p.arity) line (name_plain p.name says.1) plain says.0

-- nor is one where the name is none
pub unnamed : (line a b : List ℕ) (named : Bool) → line ≡ a ++ 47 ∷ b → All (λ c. c ≢ 47) a → (IsNameText a → IsTrue named) → named ≡ false → (p : Predicate) → ¬ SaysPredicate line p
unnamed line a b named cut plain is none p says =
    let same = predicate_apart line a b p cut plain says in
    let clash : true ≡ false = sym (is (subst IsNameText (sym same.0) says.1)) ∙ none in
    cc
