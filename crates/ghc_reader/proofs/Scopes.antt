-- How the names that are known grow where variables are met.
use Rattle.ghc_reader.proofs.Words.{◌≡◌, ℕ, List, [], ◌∷◌, ◌++◌, sym, ap, ◌∙◌, subst, inl, inr, append_assoc, slice_get, Some, append-nil, VarName, Names, IsCalled, Meets, MeetsAll}
use Rattle.ghc_reader.proofs.Names.{get_left}

-- the later names are the ones before and then some
abbrev pub Grows : Names → Names → Type 0
Grows names later = (more : Names) × (later ≡ names ++ more)

pub grows_not : (a b : Names) → b ≡ a → Grows a b
grows_not a b e = ([], e ∙ sym (append-nil a))

pub grows_twice : (a b c : Names) → Grows a b → Grows b c → Grows a c
grows_twice a b c g h = (g.0 ++ h.0, h.1 ∙ ap (λ l. l ++ h.0) g.1 ∙ append_assoc a g.0 h.0)

pub grows_met : (a b : Names) (x : VarName) → Meets a x b → Grows a b
grows_met a b x (inl known) = grows_not a b known.1
grows_met a b x (inr next) = (next.0 ∷ [], next.3)

pub grows : (xs : List VarName) (a b : Names) → MeetsAll a xs b → Grows a b
grows [] a b m = grows_not a b m
grows (x ∷ xs) a b m = grows_twice a m.0 b (grows_met a m.0 x m.1) (grows xs m.0 b m.2)

pub met_also : (xs ys : List VarName) (a b c : Names) → MeetsAll a xs b → MeetsAll b ys c → MeetsAll a (xs ++ ys) c
met_also [] ys a b c m n = subst (λ names. MeetsAll names ys c) m n
met_also (x ∷ xs) ys a b c m n = (m.0, m.1, met_also xs ys m.0 b c m.2 n)

-- a variable is called what it was
pub called_still : (a b : Names) (v : List ℕ) (x : VarName) → Grows a b → IsCalled a v x → IsCalled b v x
called_still a b v x g h = (h.0, subst (λ names. slice_get names h.0 ≡ Some v) (sym g.1) (get_left a g.0 h.0 v h.1), h.2)
