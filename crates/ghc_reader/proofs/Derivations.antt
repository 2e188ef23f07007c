-- The derivation of a tree in its shortest form, with lists in brackets, and that its tree is this one.
use Rattle.ghc_reader.proofs.Words.{◌≡◌, ℕ, true, false, List, ◌∷◌, refl, ap, ◌∙◌, Close, CloseList, Comma, Bar, Token, Term, variable, integer, call, list, Arguments, without, within, Rest, closed, whole, partial, Terms, one, more, terms, Tree, Trees, tree_of, arguments_of, trees_of, arith}
use Rattle.ghc_reader.specs.declared.token.Token.TheVariants as token
use Rattle.ghc_reader.specs.Grammar.{IsClosed, AreClosed}
use Rattle.ghc_reader.specs.Grammar as grammar
use Rattle.ghc_reader.specs.Source as tree
use Rattle.ghc_reader.specs.Derived.{list_of}
use Rattle.ghc_reader.proofs.Meanings.{IsSoundBy, AreSoundBy, NoVariable, IsSound, AreSound}
use Rattle.ghc_reader.proofs.InputSizes.{cells_sound}
use Rattle.ghc_reader.proofs.TokenTexts.{AreSpaced}

-- ---- the derivation

-- an element in front of those of a list
abbrev pub put : Term → Rest → Rest
put d closed = whole (one d)
put d (whole a) = whole (more d a)
put d (partial a t) = partial (more d a) t

abbrev mutual
  -- the derivation of a tree
  pub derive : Tree → Term
  derive (tree.variable v) = variable v
  derive (tree.integer k) = integer k
  derive (tree.structure f ts) = call f (derive_arguments ts)
  derive tree.empty = list closed
  derive (tree.cell t u) = list (derive_list (derive t) u)

  -- the arguments of a structure
  pub derive_arguments : Trees → Arguments
  derive_arguments tree.none = without
  derive_arguments (tree.some t ts) = within (derive_terms (derive t) ts)

  -- d, and then terms with these trees
  pub derive_terms : Term → Trees → Terms
  derive_terms d tree.none = one d
  derive_terms d (tree.some t ts) = more d (derive_terms (derive t) ts)

  -- the list of which d is the first element, with the tree after it
  pub derive_list : Term → Tree → Rest
  derive_list d (tree.variable v) = partial (one d) (variable v)
  derive_list d (tree.integer k) = partial (one d) (integer k)
  derive_list d (tree.structure f ts) = partial (one d) (call f (derive_arguments ts))
  derive_list d tree.empty = whole (one d)
  derive_list d (tree.cell t u) = put d (derive_list (derive t) u)

-- ---- its tree

put_back : (d : Term) (r : Rest) → list_of (put d r) ≡ tree.cell (tree_of d) (list_of r)
put_back d r = grind arith

mutual
  pub derive_back : (s : Tree) → tree_of (derive s) ≡ s
  derive_back (tree.structure f ts) = ap (tree.structure f) (arguments_back ts)
  derive_back (tree.cell t u) = list_back (derive t) u ∙ ap (λ x. tree.cell x u) (derive_back t)
  derive_back s = refl

  pub arguments_back : (ts : Trees) → arguments_of (derive_arguments ts) ≡ ts
  arguments_back tree.none = refl
  arguments_back (tree.some t ts) = terms_back (derive t) ts ∙ ap (λ x. tree.some x ts) (derive_back t)

  terms_back : (d : Term) (ts : Trees) → trees_of (derive_terms d ts) ≡ tree.some (tree_of d) ts
  terms_back d tree.none = refl
  terms_back d (tree.some t ts) = ap (tree.some (tree_of d)) (terms_back (derive t) ts ∙ ap (λ x. tree.some x ts) (derive_back t))

  list_back : (d : Term) (u : Tree) → list_of (derive_list d u) ≡ tree.cell (tree_of d) u
  list_back d (tree.structure f ts) = ap (λ x. tree.cell (tree_of d) (tree.structure f x)) (arguments_back ts)
  list_back d (tree.cell t u) =
      put_back d (derive_list (derive t) u) ∙ ap (tree.cell (tree_of d)) (list_back (derive t) u ∙ ap (λ x. tree.cell x u) (derive_back t))
  list_back d u = refl

-- ---- the tokens of a list

-- the list has an element
abbrev pub HasElement : Rest → Type 0
HasElement closed = ⊥
HasElement (whole a) = Unit {0}
HasElement (partial a t) = Unit {0}

pub derive_has : (d : Term) (u : Tree) → HasElement (derive_list d u)
derive_has d (tree.cell t u) = grind arith
derive_has d u = tt

pub put_tokens : (d : Term) (r : Rest) (ts : List Token) → HasElement r → grammar.rest (put d r) ts ≡ grammar.term d (token.Mark Comma ∷ grammar.rest r ts)
put_tokens d r ts has = grind arith

-- ---- any derivation of a sound tree has no variable

mutual
  pub closed_term : (c : Term) → IsSound (tree_of c) → IsClosed c
  closed_term (variable v) s = s
  closed_term (call f (within a)) s = closed_terms a s.1
  closed_term (list (whole a)) s = closed_terms a (cells_sound NoVariable a tree.empty s).0
  closed_term (list (partial a t)) s = let parts = cells_sound NoVariable a (tree_of t) s in (closed_terms a parts.0, closed_term t parts.1)
  closed_term c s = tt

  closed_terms : (a : Terms) → AreSound (trees_of a) → AreClosed a
  closed_terms (one t) s = closed_term t s.0
  closed_terms (more t a) s = (closed_term t s.0, closed_terms a s.1)

-- ---- the tokens of any derivation are spaced, where its tree is sound but for the variables that may stand there

module _ (W : List ℕ → Type 0) where
  mutual
    pub spaced_term : (c : Term) (ts : List Token) → IsSoundBy W (tree_of c) → AreSpaced W false ts → AreSpaced W true (grammar.term c ts)
    spaced_term (variable v) ts s behind = ((refl, s), behind)
    spaced_term (integer k) ts s behind = ((refl, s), behind)
    spaced_term (call f without) ts s behind = ((refl, s.0), behind)
    spaced_term (call f (within a)) ts s behind = ((refl, s.0), (tt, spaced_terms a (token.Mark Close ∷ ts) s.1 (tt, behind)))
    spaced_term (list closed) ts s behind = (tt, (tt, behind))
    spaced_term (list (whole a)) ts s behind = (tt, spaced_terms a (token.Mark CloseList ∷ ts) (cells_sound W a tree.empty s).0 (tt, behind))
    spaced_term (list (partial a t)) ts s behind =
        let parts = cells_sound W a (tree_of t) s in
        let ended = spaced_term t (token.Mark CloseList ∷ ts) parts.1 (tt, behind) in
        (tt, spaced_terms a (token.Mark Bar ∷ grammar.term t (token.Mark CloseList ∷ ts)) parts.0 (tt, ended))

    spaced_terms : (a : Terms) (ts : List Token) → AreSoundBy W (trees_of a) → AreSpaced W false ts → AreSpaced W true (terms a ts)
    spaced_terms (one t) ts s behind = spaced_term t ts s.0 behind
    spaced_terms (more t a) ts s behind = spaced_term t (token.Mark Comma ∷ terms a ts) s.0 (tt, spaced_terms a ts s.1 behind)
