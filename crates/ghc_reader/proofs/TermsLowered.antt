-- What terms say, and which variables they meet.
use Rattle.ghc_reader.proofs.Words.{◌≡◌, ℕ, ◌+◌, ◌<◌, List, [], ◌∷◌, ◌++◌, length, map, take, get_or, refl, sym, ap, ◌∙◌, subst, append_assoc, Box, Global, Vec, append-nil, node, trees, variables_of_all, variables_of_list, SourceTerm, Tree, Trees, structure, empty, cell, cells, none, some, view, views, Names, Says, SaysAll, MeetsAll, conses}
use Rattle.ghc_term.specs.Tree as term
use Rattle.ghc_term.specs.Variables.{variables}
use Rattle.ghc_reader.specs.declared.source.SourceTerm.TheViews as w
use Rattle.ghc_reader.proofs.Views.{view_list}
use Rattle.ghc_reader.specs.Source.{variable, integer, trees_of}
use Rattle.ghc_reader.proofs.ExpressionsLowered.{mapped_more}
use Rattle.ghc_reader.proofs.Scopes.{Grows, grows, met_also, called_still}

pub variables_of_trees : (us : List term.Tree) → variables_of_all (trees us) ≡ variables_of_list us
variables_of_trees [] = refl
variables_of_trees (u ∷ us) = ap (λ xs. variables u ++ xs) (variables_of_trees us)

pub variables_push : (us : List term.Tree) (u : term.Tree) → variables_of_list (us ++ u ∷ []) ≡ variables_of_list us ++ variables u
variables_push [] u = append-nil (variables u)
variables_push (w ∷ us) u = ap (λ xs. variables w ++ xs) (variables_push us u) ∙ sym (append_assoc (variables w) (variables_of_list us) (variables u))

pub variables_conses : (us : List term.Tree) (e : term.Tree) → variables (conses us e) ≡ variables_of_list us ++ variables e
variables_conses [] e = refl
variables_conses (u ∷ us) e =
    ap (λ xs. variables u ++ xs) (append-nil (variables (conses us e)) ∙ variables_conses us e) ∙ sym (append_assoc (variables u) (variables_of_list us) (variables e))

mutual
  pub says_still : (t : Tree) (a b : Names) (u : term.Tree) → Grows a b → Says a t u → Says b t u
  says_still (variable v) a b u g h = (h.0, h.1, called_still a b v h.0 g h.2)
  says_still (integer n) a b u g h = h
  says_still (structure f ts) a b u g h = (h.0, h.1, says_all_still ts a b h.0 g h.2)
  says_still empty a b u g h = h
  says_still (cell t rest) a b u g h = (h.0, h.1, h.2, says_still t a b h.0 g h.3, says_still rest a b h.1 g h.4)

  pub says_all_still : (ts : Trees) (a b : Names) (us : List term.Tree) → Grows a b → SaysAll a ts us → SaysAll b ts us
  says_all_still none a b us g h = h
  says_all_still (some t ts) a b us g h = (h.0, h.1, h.2, says_still t a b h.0 g h.3, says_all_still ts a b h.1 g h.4)

-- cells say what the cells in the parse tree say
pub says_cells : (ts : Trees) (t : Tree) (names : Names) (us : List term.Tree) (e : term.Tree) → SaysAll names ts us → Says names t e → Says names (cells ts t) (conses us e)
says_cells none t names us e h k = subst (λ l. Says names t (conses l e)) (sym h) k
says_cells (some s ts) t names us e h k = (h.0, conses h.1 e, ap (λ l. conses l e) h.2, h.3, says_cells ts t names h.1 e h.4 k)

says_push : (ts : List Tree) (t : Tree) (names : Names) (us : List term.Tree) (u : term.Tree) → SaysAll names (trees_of ts) us → Says names t u → SaysAll names (trees_of (ts ++ t ∷ [])) (us ++ u ∷ [])
says_push [] t names us u h k = (u, [], ap (λ l. l ++ u ∷ []) h, k, refl)
says_push (s ∷ ts) t names us u h k = (h.0, h.1 ++ u ∷ [], ap (λ l. l ++ u ∷ []) h.2, h.3, says_push ts t names h.1 u h.4 k)

-- one term more
pub says_more : (terms : List SourceTerm) (i : ℕ) (t : SourceTerm) (a b : Names) (us new : List term.Tree) (u : term.Tree) → i < length terms → t ≡ get_or terms i t → new ≡ us ++ u ∷ [] → SaysAll a (views (take i terms)) us → Says b (view t) u → MeetsAll a (variables u) b → SaysAll b (views (take (i + 1) terms)) new
says_more terms i t a b us new u less is grown all one met =
    rw (grown, mapped_more view terms i t less is)
    (says_push (map view (take i terms)) (view t) b us u (says_all_still (views (take i terms)) a b us (grows (variables u) a b met) all) one)

pub meets_more : (first a b : Names) (us new : List term.Tree) (u : term.Tree) → new ≡ us ++ u ∷ [] → MeetsAll first (variables_of_list us) a → MeetsAll a (variables u) b → MeetsAll first (variables_of_list new) b
meets_more first a b us new u grown m n =
    subst (λ xs. MeetsAll first xs b) (sym (ap variables_of_list grown ∙ variables_push us u)) (met_also (variables_of_list us) (variables u) first a b m n)

-- a structure meets what its arguments meet
pub structure_meets : (a b : Names) (f : List ℕ) (us : List term.Tree) (u : term.Tree) → u ≡ node f (trees us) → MeetsAll a (variables_of_list us) b → MeetsAll a (variables u) b
structure_meets a b f us u e m = subst (λ xs. MeetsAll a xs b) (sym (ap variables e ∙ variables_of_trees us)) m

-- a list says what its elements and its tail say
pub list_says : (t : SourceTerm) (elements : Vec SourceTerm Global) (tail : Box SourceTerm Global) (items : List SourceTerm) (last : SourceTerm) (b c : Names) (us : List term.Tree) (end u : term.Tree) → t ≡ w.List elements tail → items ≡ elements.items → last ≡ tail.value → u ≡ conses us end → SaysAll b (views items) us → MeetsAll b (variables end) c → Says c (view last) end → Says c (view t) u
list_says t elements tail items last b c us end u is is_items is_last made all met one =
    rw (is, view_list elements tail, ← is_items, ← is_last, made)
    (says_cells (views items) (view last) c us end (says_all_still (views items) b c us (grows (variables end) b c met) all) one)

-- a list meets what its elements meet, and then what its tail meets
pub list_meets : (a b c : Names) (us : List term.Tree) (end u : term.Tree) → u ≡ conses us end → MeetsAll a (variables_of_list us) b → MeetsAll b (variables end) c → MeetsAll a (variables u) c
list_meets a b c us end u made m n =
    subst (λ xs. MeetsAll a xs c) (sym (ap variables made ∙ variables_conses us end)) (met_also (variables_of_list us) (variables end) a b c m n)
