-- What a head and a goal have at each position, and which heads fit.
use Rattle.ghc_match.proofs.Words.{◌≡◌, ℕ, List, [], ◌∷◌, length, refl, sym, ap, ◌∙◌, subst, inl, inr, ◌⊎◌, Option, Some, None, slice_get, ℤ_discrete, ℕ_discrete, coded_list, coded_ℕ, VarName, Tree, variable, integer, node, Trees, list_of, IsValue, Leads, at_integer, at_node, at_free, Passes, IsAcyclic, StoreValue, value_at, leads_once, Decided, some_decided, same_decided, Clause, At, here, down, unbound, AreAlike, HeadHas, StandsFor, Mismatch, HeadWants, MismatchIn}
use Rattle.ghc_match.proofs.Chains.{leads_passes, passes_in, chains}
use Rattle.ghc_match.proofs.Listings.{Listing, none, one, restated, itself, over, the_variable}
use Rattle.ghc_match.proofs.Positions.{places, all_places, at_once, same_variable}

-- where each tree has a chain, it is decided whether there is something at a position
module _ (S : VarName → Option Tree) (chains : (t : Tree) → (xs : List VarName) × (e : Tree) × Leads S t xs e) where
  at_number : {ts : List Tree} {i : ℕ} {t : Tree} → At S ts (i ∷ []) t → slice_get ts i ≡ Some t
  at_number (here e) = e
  at_number (down e l a) = elim a [ ]

  below_number : {ts : List Tree} {i j : ℕ} {p : List ℕ} {u : Tree} → At S ts (i ∷ j ∷ p) u
      → (t : Tree) × (xs : List VarName) × (f : List ℕ) × (us : Trees) × (slice_get ts i ≡ Some t) × Leads S t xs (node f us) × At S (list_of us) (j ∷ p) u
  below_number (down {xs = xs} {f = f} {us = us} {t = t} e l a) = (t, xs, f, us, e, l, a)

  -- the node in which the argument of this number ends
  abbrev Opens : List Tree → ℕ → Type 0
  Opens ts i = (t : Tree) × (xs : List VarName) × (f : List ℕ) × (us : Trees) × (slice_get ts i ≡ Some t) × Leads S t xs (node f us)

  opens : (ts : List Tree) (i : ℕ) → Decided (Opens ts i)
  opens ts i = elim (slice_get ts i) as (λ o. slice_get ts i ≡ o → Decided (Opens ts i)) [
    | None ↦ λ e. inr (λ n. let no : None ≡ Some n.0 = sym e ∙ n.4 in cc)
    | Some t ↦ λ e. let c = chains t in at t e c.0 c.1 c.2
  ] refl where
    other : (t : Tree) (e : slice_get ts i ≡ Some t) (xs : List VarName) (end : Tree) → Leads S t xs end → ((f : List ℕ) (us : Trees) → ¬ (end ≡ node f us)) → ¬ Opens ts i
    other t e xs end l n o =
        let both : Some o.0 ≡ Some t = sym o.4 ∙ e in
        let same : o.0 ≡ t = cc in
        n o.2 o.3 (leads_once l (subst (λ w. Leads S w o.1 (node o.2 o.3)) same o.5)).1

    at : (t : Tree) → slice_get ts i ≡ Some t → (xs : List VarName) (end : Tree) → Leads S t xs end → Decided (Opens ts i)
    at t e xs (node f us) l = inl (t, xs, f, us, e, l)
    at t e xs end l = inr (other t e xs end l (λ f us q. cc))

  at_decided : (p : List ℕ) (ts : List Tree) → Decided ((t : Tree) × At S ts p t)
  at_decided [] ts = inr (λ a. elim a.1 [ ])
  at_decided (i ∷ []) ts = elim (slice_get ts i) as (λ o. slice_get ts i ≡ o → Decided ((t : Tree) × At S ts (i ∷ []) t)) [
    | None ↦ λ e. inr (λ a. let no : None ≡ Some a.0 = sym e ∙ at_number a.1 in cc)
    | Some t ↦ λ e. inl (t, here e)
  ] refl
  at_decided (i ∷ j ∷ p) ts = elim (opens ts i) [
    | inr n ↦ inr (λ a. let b = below_number a.1 in n (b.0, b.1, b.2, b.3, b.4, b.5))
    | inl o ↦ elim (at_decided (j ∷ p) (list_of o.3)) [
      | inl a ↦ inl (a.0, down o.4 o.5 a.1)
      | inr n ↦ inr (λ a.
          let b = below_number a.1 in
          let both : Some b.0 ≡ Some o.0 = sym b.4 ∙ o.4 in
          let same : b.0 ≡ o.0 = cc in
          let ends : node b.2 b.3 ≡ node o.2 o.3 = (leads_once (subst (λ w. Leads S w b.1 (node b.2 b.3)) same b.5) o.5).1 in
          let arguments : b.3 ≡ o.3 = cc in
          n (a.0, subst (λ w. At S (list_of w) (j ∷ p) a.0) arguments b.6))
    ]
  ]

-- in a store without bindings each tree is its own end
own_chain : (t : Tree) → (xs : List VarName) × (e : Tree) × Leads unbound t xs e
own_chain (variable x) = (x ∷ [], variable x, at_free refl)
own_chain (integer k) = ([], integer k, at_integer)
own_chain (node f us) = ([], node f us, at_node)

alike_decided : (h e : Tree) → Decided (AreAlike h e)
alike_decided (integer j) (integer k) = elim (ℤ_discrete j k) [ yes e ↦ inl e | no n ↦ inr n ]
alike_decided (node f ts) (node g us) = elim (same_decided (coded_list coded_ℕ) f g) [
  | inr n ↦ inr (λ a. n a.0)
  | inl e ↦ elim (ℕ_discrete (length (list_of ts)) (length (list_of us))) [ yes l ↦ inl (e, l) | no n ↦ inr (λ a. n a.1) ]
]
alike_decided _ _ = inr (λ a. a)

pub value_decided : (e : Tree) → Decided (IsValue e)
value_decided (variable x) = inr (λ v. v)
value_decided _ = inl tt

module _ (c : Clause) (ts : List Tree) (s : StoreValue) (acyclic : IsAcyclic (value_at s)) where
  abbrev S : VarName → Option Tree
  S = value_at s

  -- at this position the head has the value h, and the goal t, which ends in e
  record Spot (p : List ℕ) : Type 0 where
    head : Tree
    has : HeadHas c ts S p head
    tree : Tree
    there : At S ts p tree
    passed : List VarName
    «end» : Tree
    leads : Leads S tree passed «end»

  -- the head has a value there, and the goal something
  abbrev IsSpot : List ℕ → Type 0
  IsSpot p = (h t : Tree) × HeadHas c ts S p h × At S ts p t

  spot : (p : List ℕ) → Spot p ⊎ (¬ IsSpot p)
  spot p = elim (at_decided unbound own_chain p c.head) [
    | inr n ↦ inr (λ i. n (i.0, i.2.0))
    | inl h ↦ elim (value_decided h.0) [
      | inr n ↦ inr (λ i. n (subst IsValue (at_once i.2.0 h.1) i.2.1))
      | inl v ↦ elim (at_decided S (chains s acyclic) p ts) [
        | inr n ↦ inr (λ i. n (i.1, i.3))
        | inl t ↦ let k = chains s acyclic t.0 in inl (record { head = h.0; has = (h.1, v); tree = t.0; there = t.1; passed = k.0; «end» = k.1; leads = k.2 })
      ]
    ]
  ]

  -- at this position the goal has another value than the head
  abbrev Misses : List ℕ → Type 0
  Misses p = (h t e : Tree) × (xs : List VarName) × HeadHas c ts S p h × At S ts p t × Leads S t xs e × IsValue e × (¬ AreAlike h e)

  misses : (p : List ℕ) → Decided (Misses p)
  misses p = elim (spot p) [
    | inr n ↦ inr (λ m. n (m.0, m.1, m.4, m.5))
    | inl k ↦ elim (value_decided k.«end») [
      | inr n ↦ inr (λ m. n (subst IsValue (leads_once (subst (λ w. Leads S w m.3 m.2) (at_once m.5 k.there) m.6) k.leads).1 m.7))
      | inl v ↦ elim (alike_decided k.head k.«end») [
        | inr n ↦ inl (k.head, k.tree, k.«end», k.passed, k.has, k.there, k.leads, v, n)
        | inl a ↦ inr (λ m.
            let e = (leads_once (subst (λ w. Leads S w m.3 m.2) (at_once m.5 k.there) m.6) k.leads).1 in
            let h = at_once m.4.0 k.has.0 in
            m.8 (subst (λ w. AreAlike w m.2) (sym h) (subst (AreAlike k.head) (sym e) a)))
      ]
    ]
  ]

  pub mismatch_decided : Decided (Mismatch c ts S)
  mismatch_decided = elim (some_decided (places c.head) (λ e. Misses e.0) (λ e i. misses e.0)) [
    | inl m ↦ let k = m.2 in inl (m.0.0, k.0, k.1, k.2, k.3, k.4, k.5, k.6, k.7, k.8)
    | inr n ↦ inr (λ m. n ((m.0, m.1), all_places c.head m.5.0, (m.1, m.2, m.3, m.4, m.5, m.6, m.7, m.8, m.9)))
  ]

  -- .. and this position begins with i
  abbrev MissesIn : ℕ → List ℕ → Type 0
  MissesIn i q = (p : List ℕ) × (q ≡ i ∷ p) × Misses q

  misses_in : (i : ℕ) (q : List ℕ) → Decided (MissesIn i q)
  misses_in i [] = inr (λ m. let p = m.0 in let no : [] ≡ i ∷ p = m.1 in cc)
  misses_in i (j ∷ q) = elim (ℕ_discrete j i) [
    | no n ↦ inr (λ m. n (let p = m.0 in let both : j ∷ q ≡ i ∷ p = m.1 in cc))
    | yes e ↦ elim (misses (j ∷ q)) [ inl m ↦ inl (q, ap (λ k. k ∷ q) e, m) | inr n ↦ inr (λ m. n m.2) ]
  ]

  pub mismatch_in_decided : (i : ℕ) → Decided (MismatchIn c ts S i)
  mismatch_in_decided i = elim (some_decided (places c.head) (λ e. MissesIn i e.0) (λ e at. misses_in i e.0)) [
    | inl m ↦ let w = m.2 in let k = subst Misses w.1 w.2 in inl (w.0, k.0, k.1, k.2, k.3, k.4, k.5, k.6, k.7, k.8)
    | inr n ↦ inr (λ m. n ((i ∷ m.0, m.1), all_places c.head m.5.0, (m.0, refl, (m.1, m.2, m.3, m.4, m.5, m.6, m.7, m.8, m.9))))
  ]

  -- at this position the goal has the unbound variable x
  abbrev WantsAt : List ℕ → VarName → Type 0
  WantsAt p x = (h t : Tree) × (xs : List VarName) × HeadHas c ts S p h × At S ts p t × Leads S t xs (variable x)

  wants_at : (p : List ℕ) → Listing (WantsAt p)
  wants_at p = elim (spot p) [
    | inr n ↦ none (λ x w. n (w.0, w.1, w.3, w.4))
    | inl k ↦ restated
        (λ x e. (k.head, k.tree, k.passed, k.has, k.there, subst (Leads S k.tree k.passed) e k.leads))
        (λ x w. (leads_once k.leads (subst (λ u. Leads S u w.2 (variable x)) (at_once w.4 k.there) w.5)).1)
        (the_variable k.«end»)
  ]

  pub head_wants : Listing (HeadWants c ts S)
  head_wants = restated
      (λ x w. let k = w.2 in (w.0.0, k.0, k.1, k.2, k.3, k.4, k.5))
      (λ x w. ((w.0, w.1), all_places c.head w.4.0, (w.1, w.2, w.3, w.4, w.5, w.6)))
      (over (places c.head) (λ e. WantsAt e.0) (λ e i. wants_at e.0))

  -- the variable x is on the chain of the goal at this position, where the head has a value
  abbrev LooksThere : List ℕ → VarName → Type 0
  LooksThere p x = (h t : Tree) × HeadHas c ts S p h × At S ts p t × Passes S t x

  looks_there : (p : List ℕ) → Listing (LooksThere p)
  looks_there p = elim (spot p) [
    | inr n ↦ none (λ x w. n (w.0, w.1, w.2, w.3))
    | inl k ↦ restated
        (λ x i. (k.head, k.tree, k.has, k.there, leads_passes k.leads i))
        (λ x w. passes_in k.leads (subst (λ u. Passes S u x) (at_once w.3 k.there) w.4).1)
        (itself k.passed)
  ]

  pub head_looks : Listing (λ x. (p : List ℕ) × (h t : Tree) × HeadHas c ts S p h × At S ts p t × Passes S t x)
  head_looks = restated
      (λ x w. let k = w.2 in (w.0.0, k.0, k.1, k.2, k.3, k.4))
      (λ x w. ((w.0, w.1), all_places c.head w.3.0, (w.1, w.2, w.3, w.4, w.5)))
      (over (places c.head) (λ e. LooksThere e.0) (λ e i. looks_there e.0))

  -- at this position the head has a variable, and the goal what it stands for
  abbrev StandsThere : List ℕ → VarName × Tree → Type 0
  StandsThere p b = At unbound c.head p (variable b.0) × At S ts p b.1

  stands_there : (p : List ℕ) → Listing (StandsThere p)
  stands_there p = elim (at_decided unbound own_chain p c.head) [
    | inr n ↦ none (λ b w. n (variable b.0, w.0))
    | inl h ↦ elim (at_decided S (chains s acyclic) p ts) [
      | inr n ↦ none (λ b w. n (b.1, w.1))
      | inl t ↦ head h.0 h.1 t.0 t.1
    ]
  ] where
    head : (h : Tree) → At unbound c.head p h → (t : Tree) → At S ts p t → Listing (StandsThere p)
    head (variable y) a t b = one (y, t) (a, b) (λ d w.
        let name : d.0 ≡ y = same_variable (at_once w.0 a) in
        let tree : d.1 ≡ t = at_once w.1 b in
        λ i. (name i, tree i))
    head h a t b = none (λ d w. let no : h ≡ variable d.0 = at_once a w.0 in cc)

  -- what each variable of the head stands for
  pub standing : Listing (λ (b : VarName × Tree). StandsFor c ts S b.0 b.1)
  standing = restated
      (λ b w. let k = w.2 in (w.0.0, k.0, k.1))
      (λ b w. ((w.0, variable b.0), all_places c.head w.1, (w.1, w.2)))
      (over (places c.head) (λ e. StandsThere e.0) (λ e i. stands_there e.0))
