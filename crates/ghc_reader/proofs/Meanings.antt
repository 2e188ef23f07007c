-- The one term that a parse tree without variables says.
use Rattle.ghc_reader.proofs.Words.{◌≡◌, ℕ, ◌≤◌, List, [], ◌∷◌, length, false, refl, ap, ◌∙◌, inl, inr, arith, FitsSigned, w64, bytes_eq, is_ascii_lowercase, node, trees, nil, cons, list_of, is_cell, is_nil, IsNameText, IsInGrammar, AllInGrammar, Tree, Trees, structure, empty, cell, none, some, count, widest, widest_of, nodes, nodes_of, Says, SaysAll, nat_tests}
use Rattle.ghc_term.specs.Tree as term
use Rattle.ghc_term.specs.InputTerm as input
use Rattle.ghc_reader.specs.Source.{variable, integer}

abbrev mutual
  -- the term; a variable has none, and stands for any
  pub meaning : Tree → term.Tree
  meaning (variable v) = nil
  meaning (integer n) = term.integer n
  meaning (structure f ts) = node f (meanings ts)
  meaning empty = nil
  meaning (cell t rest) = cons (meaning t) (meaning rest)

  pub meanings : Trees → term.Trees
  meanings none = term.none
  meanings (some t ts) = term.more (meaning t) (meanings ts)

mutual
  pub said : (t : Tree) (u : term.Tree) → Says [] t u → u ≡ meaning t
  said (variable v) u s = let clash = s.2.1 in cc
  said (structure f ts) u s = s.1 ∙ ap (node f) (all_said ts s.0 s.2)
  said (cell t rest) u s = s.2 ∙ (λ i. cons (said t s.0 s.3 i) (said rest s.1 s.4 i))
  said t u s = s

  all_said : (ts : Trees) (us : List term.Tree) → SaysAll [] ts us → trees us ≡ meanings ts
  all_said none us s = ap trees s
  all_said (some t ts) us s = ap trees s.2 ∙ (λ i. term.more (said t s.0 s.3 i) (all_said ts s.1 s.4 i))

mutual
  pub nodes_of_meaning : (t : Tree) → input.nodes (meaning t) ≡ nodes t
  nodes_of_meaning (structure f ts) = omega (arith, nodes_of_meanings ts)
  nodes_of_meaning (cell t rest) = omega (arith, nodes_of_meaning t, nodes_of_meaning rest)
  nodes_of_meaning t = refl

  nodes_of_meanings : (ts : Trees) → input.nodes_of_all (meanings ts) ≡ nodes_of ts
  nodes_of_meanings none = refl
  nodes_of_meanings (some t ts) = omega (arith, nodes_of_meaning t, nodes_of_meanings ts)

pub count_meanings : (ts : Trees) → length (list_of (meanings ts)) ≡ count ts
count_meanings none = refl
count_meanings (some t ts) = omega (arith, count_meanings ts)

module _ (W : List ℕ → Type 0) where
  abbrev mutual
    -- W holds of the variables of the tree, its names are those of the grammar, and its integers have 64 bits
    pub IsSoundBy : Tree → Type 0
    IsSoundBy (variable v) = W v
    IsSoundBy (integer n) = FitsSigned w64 n
    IsSoundBy (structure f ts) = IsNameText f × AreSoundBy ts
    IsSoundBy empty = Unit {0}
    IsSoundBy (cell t rest) = IsSoundBy t × IsSoundBy rest

    pub AreSoundBy : Trees → Type 0
    AreSoundBy none = Unit {0}
    AreSoundBy (some t ts) = IsSoundBy t × AreSoundBy ts

-- it holds of every variable
abbrev pub AnyVariable : List ℕ → Type 0
AnyVariable v = Unit {0}

-- it holds of no variable
abbrev pub NoVariable : List ℕ → Type 0
NoVariable v = ⊥

-- no variable stands in the tree, its names are those of the grammar, and its integers have 64 bits
abbrev pub IsSound : Tree → Type 0
IsSound t = IsSoundBy NoVariable t

abbrev pub AreSound : Trees → Type 0
AreSound ts = AreSoundBy NoVariable ts

mutual
  pub meaning_in_grammar : (t : Tree) → IsSound t → widest t ≤ 255 → IsInGrammar (meaning t)
  meaning_in_grammar (variable v) s w = absurd s
  meaning_in_grammar (integer n) s w = s
  meaning_in_grammar (structure f ts) s w =
      (inr (inr (s.0, omega (arith, w, count_meanings ts))), meanings_in_grammar ts s.1 (omega (arith, w)))
  meaning_in_grammar empty s w = (inl refl, tt)
  meaning_in_grammar (cell t rest) s w =
      (inr (inl refl), (meaning_in_grammar t s.0 (omega (arith, w)), (meaning_in_grammar rest s.1 (omega (arith, w)), tt)))

  meanings_in_grammar : (ts : Trees) → AreSound ts → widest_of ts ≤ 255 → AllInGrammar (meanings ts)
  meanings_in_grammar none s w = tt
  meanings_in_grammar (some t ts) s w = (meaning_in_grammar t s.0 (omega (arith, w)), meanings_in_grammar ts s.1 (omega (arith, w)))

-- ---- a name of the grammar is neither that of a list cell nor that of the empty list

no_text : (f : List ℕ) (b : ℕ) (bs : List ℕ) → is_ascii_lowercase b ≡ false → IsNameText f → bytes_eq f (b ∷ bs) ≡ false
no_text [] b bs other name = absurd name
no_text (c ∷ cs) b bs other name = grind (arith, nat_tests, name.0)

pub name_no_cell : (f : List ℕ) (ts : term.Trees) → IsNameText f → is_cell f ts ≡ false
name_no_cell f (term.more t (term.more u term.none)) n = no_text f 46 [] refl n
name_no_cell f ts n = refl

pub name_no_nil : (f : List ℕ) (ts : term.Trees) → IsNameText f → is_nil f ts ≡ false
name_no_nil f ts n = grind (arith, no_text)
