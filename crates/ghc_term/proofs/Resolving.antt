-- In an acyclic store each tree resolves to exactly one tree.
use Rattle.ghc_term.proofs.Words.{◌≡◌, ℕ, zero, suc, ◌+◌, ◌-◌, ◌≤◌, List, [], ◌∷◌, refl, sym, ap, ◌∙◌, subst, arith, Option, Some, None, codes, VarName, Tree, variable, integer, node, Trees, none, more, trees, cons, StoreValue, value_at, Leads, at_free, along, IsAcyclic, name_cmp, term_text, IsTextOf, IsResolution, all_resolved, Resolves, an_integer, unbound, bound, a_node, ResolvesAll, no_more, one_more, Goal, goal_text_by, IsGoalTextOf, IsLeaf, IsMeasure, total}
use Rattle.std.specs.FinMap as finite
use Rattle.ghc_term.proofs.Searching.{size_positive}
use Rattle.ghc_term.proofs.Weights.{size, size_all, size_variable, size_end}

module _ {S : VarName → Option Tree} where
  mutual
    pub resolves_once : {t u v : Tree} → Resolves S t u → Resolves S t v → u ≡ v
    resolves_once an_integer an_integer = refl
    resolves_once (unbound p) (unbound q) = refl
    resolves_once (unbound p) (bound q b) = cc
    resolves_once (bound p a) (unbound q) = cc
    resolves_once (bound {t = t} p a) (bound {t = t'} {u = v} q b) = let e : t' ≡ t = cc in resolves_once a (subst (λ z. Resolves S z v) e b)
    resolves_once (a_node {f = f} a) (a_node b) = ap (node f) (all_once a b)

    pub all_once : {ts us vs : Trees} → ResolvesAll S ts us → ResolvesAll S ts vs → us ≡ vs
    all_once no_more no_more = refl
    all_once (one_more a m) (one_more b n) = let p = resolves_once a b in let q = all_once m n in cc

  -- a term resolves as the end of its chain does
  pub resolves_end : {t e u : Tree} {xs : List VarName} → Leads S t xs e → Resolves S e u → Resolves S t u
  resolves_end (along p a) h = bound p (resolves_end a h)
  resolves_end l h = h

  pub end_free : {t e : Tree} {xs : List VarName} → Leads S t xs e → (x : VarName) → e ≡ variable x → S x ≡ None
  end_free (along p a) x e = end_free a x e
  end_free (at_free p) x e = cc
  end_free l x e = cc

  module _ (r : Tree → Tree) (g : IsResolution S r) where
    pub same_end : {t e : Tree} {xs : List VarName} → Leads S t xs e → r t ≡ r e
    same_end {t = t} {e = e} l = resolves_once (g t) (resolves_end l (g e))

    all_resolve : (ts : List Tree) → ResolvesAll S (trees ts) (all_resolved r ts)
    all_resolve [] = no_more
    all_resolve (t ∷ ts) = one_more (g t) (all_resolve ts)

    pub same_node : (f : List ℕ) (ts : List Tree) → r (node f (trees ts)) ≡ node f (all_resolved r ts)
    same_node f ts = resolves_once (g (node f (trees ts))) (a_node (all_resolve ts))

    pub same_integer : {k : _} → r (integer k) ≡ integer k
    same_integer {k = k} = resolves_once (g (integer k)) an_integer

    pub same_bound : (x : VarName) (t : Tree) → S x ≡ Some t → r (variable x) ≡ r t
    same_bound x t e = resolves_once (g (variable x)) (bound e (g t))

    pub same_free : (x : VarName) → S x ≡ None → r (variable x) ≡ variable x
    same_free x e = resolves_once (g (variable x)) (unbound e)

  -- what ends in a leaf resolves to that
  pub same_leaf : (r : Tree → Tree) → IsResolution S r → {t e : Tree} {xs : List VarName} → Leads S t xs e → IsLeaf e → r t ≡ e
  same_leaf r g {e = variable x} l h = same_end r g l ∙ same_free r g x (end_free l x refl)
  same_leaf r g {e = integer k} l h = same_end r g l ∙ same_integer r g
  same_leaf r g {e = node f none} l h = same_end r g l ∙ same_node r g f []
  same_leaf r g {e = node f (more t ts)} l h = absurd h

  -- the text of what a tree resolves to
  pub is_text : (r : Tree → Tree) → IsResolution S r → (t : Tree) (text : List ℕ) → text ≡ term_text (r t) → IsTextOf S t text
  is_text r g t text e = record { resolved = r t; resolves = g t; only = λ u d. resolves_once d (g t); written = e }

  -- the text of a goal whose trees are resolved
  pub is_goal_text : (r : Tree → Tree) → IsResolution S r → (goal : Goal) (text : List ℕ) → text ≡ goal_text_by r goal → IsGoalTextOf S goal text
  is_goal_text r g goal text e = record {
    resolved = r;
    resolves = g;
    written = e;
    only = λ q h. let same : q ≡ r = λ i t. resolves_once (h t) (g t) i in ap (λ f. goal_text_by f goal) same ∙ sym e;
  }

  -- a cell resolves part by part
  pub same_cell : (r : Tree → Tree) → IsResolution S r → {t e : Tree} {xs : List VarName} → Leads S t xs e → (h u : Tree) → e ≡ cons h u → r t ≡ cons (r h) (r u)
  same_cell r g l h u is = same_end r g l ∙ ap r is ∙ same_node r g (codes ".") (h ∷ u ∷ [])

  pub cell_room : (w : Tree → ℕ) → IsMeasure S w → {t e : Tree} {xs : List VarName} → Leads S t xs e → (h u : Tree) → e ≡ cons h u → w h + w u + 2 ≤ w t
  cell_room w m l h u is = omega (arith, m.along l, m.below (codes ".") (h ∷ u ∷ []), ap w is)

  -- where nothing is bound each tree resolves to itself
  mutual
    pub resolves_itself : ((x : VarName) → S x ≡ None) → (t : Tree) → Resolves S t t
    resolves_itself free (variable x) = unbound (free x)
    resolves_itself free (integer k) = an_integer
    resolves_itself free (node f ts) = a_node (all_resolve_themselves free ts)

    all_resolve_themselves : ((x : VarName) → S x ≡ None) → (ts : Trees) → ResolvesAll S ts ts
    all_resolve_themselves free none = no_more
    all_resolve_themselves free (more t ts) = one_more (resolves_itself free t) (all_resolve_themselves free ts)

pub each_itself : (S : StoreValue) → S ≡ finite.empty → IsResolution (value_at S) (λ t. t)
each_itself S e = resolves_itself (λ x. ap (λ s. value_at s x) e ∙ finite.get-empty name_cmp x)

all_exist : (S : StoreValue) (n : ℕ) → ((t : Tree) → size S t ≤ n → (u : Tree) × Resolves (value_at S) t u) → (ts : Trees) → size_all S ts ≤ n → (us : Trees) × ResolvesAll (value_at S) ts us
all_exist S n each none h = (none, no_more)
all_exist S n each (more t ts) h =
    let first = each t (omega arith) in
    let rest = all_exist S n each ts (omega arith) in
    (more first.0 rest.0, one_more first.1 rest.1)

pub exists : (n : ℕ) (S : StoreValue) → IsAcyclic (value_at S) → (t : Tree) → size S t ≤ n → (u : Tree) × Resolves (value_at S) t u
exists zero S h t le = absurd (omega (arith, size_positive S t))
exists (suc n) S h (integer k) le = (integer k, an_integer)
exists (suc n) S h (node f ts) le = let all = all_exist S n (exists n S h) ts (omega arith) in (node f all.0, a_node all.1)
exists (suc n) S h (variable x) le =
    elim (value_at S x) as (λ o. value_at S x ≡ o → (u : Tree) × Resolves (value_at S) (variable x) u) [
      | None ↦ λ e. (variable x, unbound e)
      | Some t ↦ λ e. let rest = exists n S h t (omega (arith, size_variable S h x t e)) in (rest.0, bound e rest.1)
    ] refl

-- what each tree resolves to
pub resolution : (S : StoreValue) → IsAcyclic (value_at S) → (r : Tree → Tree) × IsResolution (value_at S) r
resolution S h = (λ t. (exists (size S t) S h t (omega arith)).0, λ t. (exists (size S t) S h t (omega arith)).1)

-- what is left to do for a tree
abbrev pub measure : StoreValue → Tree → ℕ
measure S t = size S t - 1

total_size : (S : StoreValue) (ts : List Tree) → total (measure S) ts ≡ size_all S (trees ts)
total_size S [] = refl
total_size S (t ∷ ts) = omega (arith, size_positive S t, total_size S ts)

pub is_measure : (S : StoreValue) → IsAcyclic (value_at S) → IsMeasure (value_at S) (measure S)
is_measure S h = record {
  along = λ l. omega (arith, size_end S h l);
  below = λ f ts. omega (arith, total_size S ts);
}
