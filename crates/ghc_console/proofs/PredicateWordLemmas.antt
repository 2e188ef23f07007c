-- Lemmas on words that name predicates.
use Rattle.ghc_console.proofs.CitedWords.{◌≡◌, ◌≢◌, ℕ, ◌+◌, true, false, cond, eqb, zero, suc, All, Option, Some, None, inl, inr, List, [], ◌∷◌, ◌++◌, take, drop, refl, sym, ap, ◌∙◌, arith, false≢true, slice_split, IsAscii, is_name, predicate_named, predicate_of, predicate_of_parts, number_of}
use Rattle.ghc_console.proofs.WordLemmas.{IsOnePartOrNone, ascii_names, split-first, only_piece, one_part_or_none, no_number}

-- the part before the first stroke, and all after it
pub at_stroke : (word : List ℕ) (i : ℕ) → word ≡ take i word ++ 47 ∷ drop (i + 1) word → All (λ b. b ≢ 47) (take i word)
    → predicate_of word ≡ predicate_named (take i word) (number_of (drop (i + 1) word))
at_stroke word i e plain =
    ap predicate_of e ∙ ap predicate_of_parts (split-first 47 (take i word) (drop (i + 1) word) plain)
    ∙ behind (drop (i + 1) word) (one_part_or_none 47 refl (drop (i + 1) word))
  where
    behind : (arity : List ℕ) → IsOnePartOrNone 47 arity → predicate_of_parts (take i word ∷ slice_split (λ b. eqb b 47) arity) ≡ predicate_named (take i word) (number_of arity)
    behind arity (inl h) = ap (λ l. predicate_of_parts (take i word ∷ l)) h
    behind arity (inr h) = ap (λ l. predicate_of_parts (take i word ∷ l)) h.3 ∙ ap (predicate_named (take i word)) (sym (no_number arity h.4))

-- without a stroke there is no predicate
pub no_stroke : (word : List ℕ) → All (λ b. b ≢ 47) word → predicate_of word ≡ None
no_stroke word plain = ap predicate_of_parts (only_piece 47 word plain)

-- a word that is no name names none
pub no_name : (word : List ℕ) (arity : Option ℕ) → is_name word ≡ false → predicate_named word arity ≡ None
no_name word None e = refl
no_name word (Some arity) e = ap (λ b. cond b (Some (word, arity)) None) e

-- a name with an arity is a predicate
pub with_arity : (word : List ℕ) (arity : ℕ) → is_name word ≡ true → predicate_named word (Some arity) ≡ Some (word, arity)
with_arity word arity e = ap (λ b. cond b (Some (word, arity)) None) e

-- the bytes of a name are ASCII
pub ascii_name_word : (word : List ℕ) → is_name word ≡ true → IsAscii word
ascii_name_word [] e i = absurd (false≢true e)
ascii_name_word (b ∷ bytes) e zero = grind (arith, e)
ascii_name_word (b ∷ bytes) e (suc i) = ascii_names bytes (grind (arith, e)) i
