-- Lemmas on numbers after spaces, as they are read one by one.
use Rattle.ghc_records.proofs.Words.{◌≡◌, ℕ, suc, All, List, [], ◌∷◌, ◌++◌, refl, sym, ap, ◌∙◌, subst, arith, append_assoc, decimal, append-nil, All-nil, All-cons, All-append, IsNamed, numbers_behind}

numbers_more : (ns : List ℕ) (n : ℕ) (rest : List ℕ) → numbers_behind (ns ++ n ∷ []) ++ rest ≡ numbers_behind ns ++ (32 ∷ (decimal n ++ rest))
numbers_more [] n rest = ap (λ l. 32 ∷ (l ++ rest)) (append-nil (decimal n))
numbers_more (m ∷ ns) n rest =
    ap (λ l. 32 ∷ l) (append_assoc (decimal m) (numbers_behind (ns ++ n ∷ [])) rest ∙ ap (λ l. decimal m ++ l) (numbers_more ns n rest) ∙ sym (append_assoc (decimal m) (numbers_behind ns) (32 ∷ (decimal n ++ rest))))

-- The bytes are the numbers, each after a space, and then the rest; and whatever numbers they say, the rest says the others.
pub record HasNumbers (bytes numbers rest : List ℕ) : Type 0 where
  pub said : bytes ≡ numbers_behind numbers ++ rest
  pub named : All IsNamed numbers
  pub others : (ns : List ℕ) → All IsNamed ns → bytes ≡ numbers_behind ns → (ms : List ℕ) × All IsNamed ms × (rest ≡ numbers_behind ms)

pub none_yet : (bytes numbers : List ℕ) → numbers ≡ [] → HasNumbers bytes numbers bytes
none_yet bytes numbers none = subst (λ l. HasNumbers bytes l bytes) (sym none) (record { said = refl; named = All-nil IsNamed; others = λ ns all e. (ns, all, e) })

module _ (bytes numbers rest : List ℕ) (has : HasNumbers bytes numbers rest) where
  pub one_number_more : (n : ℕ) (further : List ℕ) → rest ≡ 32 ∷ (decimal n ++ further) → IsNamed n → ((m : ℕ) (ms : List ℕ) → IsNamed m → rest ≡ numbers_behind (m ∷ ms) → further ≡ numbers_behind ms) → HasNumbers bytes (numbers ++ n ∷ []) further
  one_number_more n further begins named next = record {
    said = has.said ∙ ap (λ l. numbers_behind numbers ++ l) begins ∙ sym (numbers_more numbers n further);
    named = All-append IsNamed numbers (n ∷ []) has.named (All-cons IsNamed n [] named (All-nil IsNamed));
    others = λ ns all e. let k = has.others ns all e in behind k.0 k.1 k.2;
  }
    where
      behind : (ms : List ℕ) → All IsNamed ms → rest ≡ numbers_behind ms → (ks : List ℕ) × All IsNamed ks × (further ≡ numbers_behind ks)
      behind [] all e = let clash : 32 ∷ (decimal n ++ further) ≡ [] = sym begins ∙ e in cc
      behind (m ∷ ms) all e = (ms, (λ k d low. all (suc k) d (omega (arith, low))), next m ms (all 0 0 (omega arith)) e)
