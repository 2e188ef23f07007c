-- A call looks at nothing but what its arguments reach.
use Rattle.ghc_match.proofs.Words.{◌≡◌, ◌⊎◌, ℕ, List, [], ◌∷◌, inl, inr, refl, subst, Option, Some, slice_get, VarName, Tree, variable, node, Trees, none, more, list_of, In, in_at, Leads, at_integer, at_node, at_free, along, Reaches, through, At, here, down, Clause, LooksAt}
use Rattle.ghc_term.specs.Tree.{Occurs, OccursIn}
use Rattle.ghc_term.specs.Bindings.{here as at_once}
use Rattle.ghc_term.specs.Goal.{call}
use Rattle.ghc_flat.specs.Clause.{Program}
use Rattle.ghc_match.specs.Looked.{GoalLooksAt}
use Rattle.ghc_match.proofs.Values.{passes_reaches}

-- a variable of an argument stands among the arguments
occurs_in : (x : VarName) (t : Tree) (us : Trees) → In t (list_of us) → Occurs x t → OccursIn x us
occurs_in x t none i o = absurd i
occurs_in x t (more u us) (inl e) o = inl (subst (Occurs x) e o)
occurs_in x t (more u us) (inr i) o = inr (occurs_in x t us i o)

module _ {S : VarName → Option Tree} where
  part_reaches : {x : VarName} {f : List ℕ} {t : Tree} (us : Trees) → In t (list_of us) → Reaches S t x → Reaches S (node f us) x
  part_reaches {x = x} {t = t} us i (at_once o) = at_once (occurs_in x t us i o)
  part_reaches {t = t} us i (through {y = y} o e r) = through (occurs_in y t us i o) e r

  end_reaches : {x : VarName} {t e : Tree} {xs : List VarName} → Leads S t xs e → Reaches S e x → Reaches S t x
  end_reaches at_integer r = r
  end_reaches at_node r = r
  end_reaches (at_free p) r = r
  end_reaches (along p l) r = through refl p (end_reaches l r)

  at_reaches : {x : VarName} {ts : List Tree} {p : List ℕ} {t : Tree} → At S ts p t → Reaches S t x → (u : Tree) × In u ts × Reaches S u x
  at_reaches {ts = ts} {t = t} (here {i = i} e) r = (t, in_at ts i t e, r)
  at_reaches {ts = ts} (down {i = i} {us = us} {t = t} e l a) r =
      let inner = at_reaches a r in
      (t, in_at ts i t e, end_reaches l (part_reaches us inner.1 inner.2))

  looks_reaches : (c : Clause) (ts : List Tree) (x : VarName) → LooksAt c ts S x → (u : Tree) × In u ts × Reaches S u x
  looks_reaches c ts x (inl (p, h, t, v, at, ps)) = at_reaches at (passes_reaches ps.1)
  looks_reaches c ts x (inr (g, y, t, i, j, s, ps)) = at_reaches s.2 (passes_reaches ps.1)

  -- a call looks at what its arguments reach
  pub call_looks : (P : Program) (f : List ℕ) (ts : List Tree) (x : VarName) → GoalLooksAt P S (call f ts) x → (u : Tree) × In u ts × Reaches S u x
  call_looks P f ts x (k, c, ic, is, l) = looks_reaches c ts x l
