-- What a structure takes of the room: what it takes itself, what its first arguments take, and what the last one takes.
use Rattle.ghc_term.proofs.Words.{◌≡◌, ℕ, ◌+◌, max, true, false, List, [], ◌∷◌, ◌++◌, length, refl, sym, ap, ◌∙◌, subst, arith, length-append, codes, if◌then◌else◌, Tree, node, Trees, none, more, trees, is_cell, term_text, rest_text, cell_text, arguments_text, further_text, barred, AllInGrammar, nodes_of_all, nesting, rest_nesting, cell_nesting, arguments_nesting, deepest, bytes_at, nesting_at, bytes_of_all, marks_at, opened_at, own_bytes, own_nesting, last_place, Place, Alone, Rest}

pub nodes-append : (ts us : List Tree) → nodes_of_all (trees (ts ++ us)) ≡ nodes_of_all (trees ts) + nodes_of_all (trees us)
nodes-append [] us = omega arith
nodes-append (t ∷ ts) us = omega (arith, nodes-append ts us)

pub bytes-append : (ts us : List Tree) → bytes_of_all (trees (ts ++ us)) ≡ bytes_of_all (trees ts) + bytes_of_all (trees us)
bytes-append [] us = omega arith
bytes-append (t ∷ ts) us = omega (arith, bytes-append ts us)

pub deepest-append : (ts us : List Tree) → deepest (trees (ts ++ us)) ≡ max (deepest (trees ts)) (deepest (trees us))
deepest-append [] us = omega arith
deepest-append (t ∷ ts) us = omega (arith, deepest-append ts us)

pub grammar_parts : (ts us : List Tree) → AllInGrammar (trees (ts ++ us)) → AllInGrammar (trees ts) × AllInGrammar (trees us)
grammar_parts [] us h = (tt, h)
grammar_parts (t ∷ ts) us h = let rest = grammar_parts ts us h.1 in ((h.0, rest.0), rest.1)

pub grammar_whole : (ts us : List Tree) → AllInGrammar (trees ts) → AllInGrammar (trees us) → AllInGrammar (trees (ts ++ us))
grammar_whole [] us h g = g
grammar_whole (t ∷ ts) us h g = (h.0, grammar_whole ts us h.1 g)

length-further : (ts : List Tree) → length (further_text (trees ts)) ≡ bytes_of_all (trees ts) + 1
length-further [] = refl
length-further (t ∷ ts) = omega (arith, length-append (term_text t) (further_text (trees ts)), length-further ts)

length-arguments : (t : Tree) (ts : List Tree) → length (arguments_text (trees (t ∷ ts))) ≡ bytes_of_all (trees (t ∷ ts)) + 1
length-arguments t ts = omega (arith, length-append (term_text t) (further_text (trees ts)), length-further ts)

-- a list cell has one argument before its last
cell_parts : (f : List ℕ) (ts : List Tree) (t : Tree) → is_cell f (trees (ts ++ t ∷ [])) ≡ true → (h : Tree) × (ts ≡ h ∷ [])
cell_parts f (h ∷ []) t e = (h, refl)
cell_parts f (h ∷ (u ∷ [])) t e = cc
cell_parts f ts t e = cc

module _ (f : List ℕ) (h t : Tree) where
  abbrev pair : Trees
  pair = more h (more t none)

  cell_bytes : (p : Place) → is_cell f pair ≡ true → bytes_at p (node f pair) ≡ 1 + length (term_text h) + length (rest_text t)
  cell_bytes Alone e = ap (λ b. length (if b then codes "[" ++ cell_text pair else f ++ arguments_text pair)) e ∙ omega (arith, length-append (term_text h) (rest_text t))
  cell_bytes Rest e = ap (λ b. length (if b then codes "," ++ cell_text pair else barred (f ++ arguments_text pair))) e ∙ omega (arith, length-append (term_text h) (rest_text t))

  cell_depth : (p : Place) → is_cell f pair ≡ true → nesting_at p (node f pair) ≡ opened_at p + max (nesting h) (rest_nesting t)
  cell_depth Alone e = ap (λ b. if b then 1 + cell_nesting pair else arguments_nesting pair) e
  cell_depth Rest e = ap (λ b. if b then cell_nesting pair else arguments_nesting pair) e ∙ omega arith

module _ (f : List ℕ) (t : Tree) (ts : List Tree) where
  abbrev several : Trees
  several = trees (t ∷ ts)

  plain_bytes : (p : Place) → is_cell f several ≡ false → bytes_at p (node f several) ≡ length f + marks_at p + (bytes_of_all several + 1)
  plain_bytes Alone e =
      ap (λ b. length (if b then codes "[" ++ cell_text several else f ++ arguments_text several)) e ∙ omega (arith, length-append f (arguments_text several), length-arguments t ts)
  plain_bytes Rest e =
      ap (λ b. length (if b then codes "," ++ cell_text several else barred (f ++ arguments_text several))) e
      ∙ omega (arith, length-append (f ++ arguments_text several) (codes "]"), length-append f (arguments_text several), length-arguments t ts)

  plain_depth : (p : Place) → is_cell f several ≡ false → nesting_at p (node f several) ≡ 1 + deepest several
  plain_depth Alone e = ap (λ b. if b then 1 + cell_nesting several else arguments_nesting several) e
  plain_depth Rest e = ap (λ b. if b then cell_nesting several else arguments_nesting several) e

-- a list cell
module _ (p : Place) (f : List ℕ) (h t : Tree) (e : is_cell f (more h (more t none)) ≡ true) where
  abbrev two : Trees
  two = more h (more t none)

  two_last : last_place f two ≡ Rest
  two_last = ap (λ b. if b then Rest else Alone) e

  two_bytes : bytes_at p (node f two) ≡ own_bytes p f two + bytes_of_all (more h none) + bytes_at (last_place f two) t
  two_bytes = omega (arith, cell_bytes f h t p e, ap (λ b. if b then 0 else length f + 2 + marks_at p) e, ap (λ q. bytes_at q t) two_last)

  two_nesting : nesting_at p (node f two) ≡ own_nesting p f two + max (deepest (more h none)) (nesting_at (last_place f two) t)
  two_nesting = omega (arith, cell_depth f h t p e, ap (λ b. if b then opened_at p else 1) e, ap (λ q. nesting_at q t) two_last)

-- any other structure
module _ (p : Place) (f : List ℕ) (ts : List Tree) (t : Tree) (e : is_cell f (trees (ts ++ t ∷ [])) ≡ false) where
  abbrev whole : Trees
  whole = trees (ts ++ t ∷ [])

  plain_at : (us : List Tree) → us ≡ ts ++ t ∷ [] → (nesting_at p (node f (trees us)) ≡ 1 + deepest (trees us)) × (bytes_at p (node f (trees us)) ≡ length f + marks_at p + (bytes_of_all (trees us) + 1))
  plain_at [] i = absurd (omega (arith, ap length i, length-append ts (t ∷ [])))
  plain_at (u ∷ us) i =
      let d : is_cell f (trees (u ∷ us)) ≡ false = ap (λ l. is_cell f (trees l)) i ∙ e in
      (plain_depth f u us p d, plain_bytes f u us p d)

  other_bytes : bytes_at p (node f whole) ≡ own_bytes p f whole + bytes_of_all (trees ts) + bytes_at (last_place f whole) t
  other_bytes =
      let last : last_place f whole ≡ Alone = ap (λ b. if b then Rest else Alone) e in
      let own : own_bytes p f whole ≡ length f + 2 + marks_at p = ap (λ b. if b then 0 else length f + 2 + marks_at p) e in
      omega (arith, (plain_at (ts ++ t ∷ []) refl).1, own, ap (λ q. bytes_at q t) last, bytes-append ts (t ∷ []))

  other_nesting : nesting_at p (node f whole) ≡ own_nesting p f whole + max (deepest (trees ts)) (nesting_at (last_place f whole) t)
  other_nesting =
      let last : last_place f whole ≡ Alone = ap (λ b. if b then Rest else Alone) e in
      let own : own_nesting p f whole ≡ 1 = ap (λ b. if b then opened_at p else 1) e in
      omega (arith, (plain_at (ts ++ t ∷ []) refl).0, own, ap (λ q. nesting_at q t) last, deepest-append ts (t ∷ []))

-- a list cell, or any other structure
by_cell : (f : List ℕ) (ts : List Tree) (t : Tree) (P : List Tree → Type 0) → ((h : Tree) → is_cell f (trees (h ∷ t ∷ [])) ≡ true → P (h ∷ []))
    → (is_cell f (trees (ts ++ t ∷ [])) ≡ false → P ts) → P ts
by_cell f ts t P cell other = elim (is_cell f (trees (ts ++ t ∷ []))) as (λ b. is_cell f (trees (ts ++ t ∷ [])) ≡ b → P ts) [
  | true ↦ λ e. let q = cell_parts f ts t e in subst P (sym q.1) (cell q.0 (subst (λ l. is_cell f (trees (l ++ t ∷ [])) ≡ true) q.1 e))
  | false ↦ other
] refl

-- a structure's text is its own, its first arguments' and its last argument's
pub node_bytes : (p : Place) (f : List ℕ) (ts : List Tree) (t : Tree)
    → bytes_at p (node f (trees (ts ++ t ∷ []))) ≡ own_bytes p f (trees (ts ++ t ∷ [])) + bytes_of_all (trees ts) + bytes_at (last_place f (trees (ts ++ t ∷ []))) t
node_bytes p f ts t = by_cell f ts t
    (λ l. bytes_at p (node f (trees (l ++ t ∷ [])))
    ≡ own_bytes p f (trees (l ++ t ∷ [])) + bytes_of_all (trees l) + bytes_at (last_place f (trees (l ++ t ∷ []))) t)
    (λ h e. two_bytes p f h t e) (other_bytes p f ts t)

-- .. and so are its brackets
pub node_nesting : (p : Place) (f : List ℕ) (ts : List Tree) (t : Tree)
    → nesting_at p (node f (trees (ts ++ t ∷ []))) ≡ own_nesting p f (trees (ts ++ t ∷ [])) + max (deepest (trees ts)) (nesting_at (last_place f (trees (ts ++ t ∷ []))) t)
node_nesting p f ts t = by_cell f ts t
    (λ l. nesting_at p (node f (trees (l ++ t ∷ [])))
    ≡ own_nesting p f (trees (l ++ t ∷ [])) + max (deepest (trees l)) (nesting_at (last_place f (trees (l ++ t ∷ []))) t))
    (λ h e. two_nesting p f h t e) (other_nesting p f ts t)
