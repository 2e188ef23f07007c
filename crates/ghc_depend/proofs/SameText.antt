-- What a variable reaches decides its text.
use Rattle.ghc_depend.proofs.Words.{◌≡◌, ℕ, List, refl, sym, ◌∙◌, inl, inr, Some, Option, VarName, Tree}
use Rattle.ghc_term.specs.Tree.{variable, node, Trees, more}
use Rattle.ghc_term.specs.Bindings.{Reaches, here, through}
use Rattle.ghc_term.specs.Resolved.{Resolves, ResolvesAll, an_integer, unbound, bound, a_node, no_more, one_more}
use Rattle.ghc_depend.specs.Slices.{SameFromHasTheSameText}

module _ (S U : VarName → Option Tree) where
  in_first : (f : List ℕ) (t : Tree) (ts : Trees) (y : VarName) → Reaches S t y → Reaches S (node f (more t ts)) y
  in_first f t ts y (here o) = here (inl o)
  in_first f t ts y (through o e r) = through (inl o) e r

  in_others : (f : List ℕ) (t : Tree) (ts : Trees) (y : VarName) → Reaches S (node f ts) y → Reaches S (node f (more t ts)) y
  in_others f t ts y (here o) = here (inr o)
  in_others f t ts y (through o e r) = through (inr o) e r

  -- whatever t reaches in S has the same value in U
  abbrev Agrees : Tree → Type 0
  Agrees t = (y : VarName) → Reaches S t y → U y ≡ S y

  further : (x : VarName) (t : Tree) → S x ≡ Some t → Agrees (variable x) → Agrees t
  further x t e h y r = h y (through refl e r)

  mutual
    there : (t u : Tree) → Agrees t → Resolves S t u → Resolves U t u
    there t u h an_integer = an_integer
    there t u h (unbound {x = x} e) = unbound (h x (here refl) ∙ e)
    there t u h (bound {x = x} {t = v} e r) = bound (h x (here refl) ∙ e) (there v u (further x v e h) r)
    there t u h (a_node {f = f} {ts = ts} {us = us} rs) = a_node (all_there f ts us h rs)

    all_there : (f : List ℕ) (ts us : Trees) → Agrees (node f ts) → ResolvesAll S ts us → ResolvesAll U ts us
    all_there f ts us h no_more = no_more
    all_there f ts us h (one_more {t = t} {u = u} {ts = vs} {us = ws} r rs) = one_more (there t u (λ y k. h y (in_first f t vs y k)) r) (all_there f vs ws (λ y k. h y (in_others f t vs y k)) rs)

  mutual
    back : (t u : Tree) → Agrees t → Resolves U t u → Resolves S t u
    back t u h an_integer = an_integer
    back t u h (unbound {x = x} e) = unbound (sym (h x (here refl)) ∙ e)
    back t u h (bound {x = x} {t = v} e r) = let old = sym (h x (here refl)) ∙ e in bound old (back v u (further x v old h) r)
    back t u h (a_node {f = f} {ts = ts} {us = us} rs) = a_node (all_back f ts us h rs)

    all_back : (f : List ℕ) (ts us : Trees) → Agrees (node f ts) → ResolvesAll U ts us → ResolvesAll S ts us
    all_back f ts us h no_more = no_more
    all_back f ts us h (one_more {t = t} {u = u} {ts = vs} {us = ws} r rs) = one_more (back t u (λ y k. h y (in_first f t vs y k)) r) (all_back f vs ws (λ y k. h y (in_others f t vs y k)) rs)

pub same_text : SameFromHasTheSameText
same_text x S U text h told = record {
  resolved = told.resolved;
  resolves = there S U (variable x) told.resolved h told.resolves;
  only = λ u r. told.only u (back S U (variable x) u h r);
  written = told.written;
}
