-- How far a search for a variable has come: which variables were seen, and which trees are still open.
use Rattle.ghc_term.proofs.Words.{◌≡◌, ℕ, ◌+◌, ◌<◌, List, [], ◌∷◌, ◌++◌, length, refl, sym, ap, ◌∙◌, subst, inl, inr, ◌⊎◌, arith, append-nil, Option, Some, None, map, Bor, map-append, VarName, Tree, variable, integer, node, trees, Occurs, OccursIn, StoreValue, value_at, In, Reaches, here, through, IsAcyclic, Sees, value_list}
use Rattle.ghc_term.specs.inner.Walking.{StandsIn}
use Rattle.ghc_term.proofs.ListsLemmas.{in_left, in_right, in_either, in_last, in_more}
use Rattle.ghc_term.proofs.Weights.{size, size_all, size_variable}

pub stands_left : (ts us : List Tree) (y : VarName) → StandsIn y ts → StandsIn y (ts ++ us)
stands_left ts us y s = (s.0, in_left ts us s.0 s.1, s.2)

pub stands_right : (ts us : List Tree) (y : VarName) → StandsIn y us → StandsIn y (ts ++ us)
stands_right ts us y s = (s.0, in_right ts us s.0 s.1, s.2)

pub stands_last : (ts : List Tree) (t : Tree) (y : VarName) → StandsIn y (ts ++ t ∷ []) → StandsIn y ts ⊎ Occurs y t
stands_last ts t y s = elim (in_either ts (t ∷ []) s.0 s.1) [
  | inl i ↦ inl (s.0, i, s.2)
  | inr j ↦ elim j [ inl e ↦ inr (subst (Occurs y) e s.2) | inr n ↦ absurd n ]
]

-- where another tree is open in place of the last, or others are
pub give_way : {A B : VarName → Type 0} (rest new : List Tree) (t : Tree) → ((y : VarName) → A y → B y) → ((y : VarName) → Occurs y t → B y ⊎ StandsIn y new)
    → (y : VarName) → A y ⊎ StandsIn y (rest ++ t ∷ []) → B y ⊎ StandsIn y (rest ++ new)
give_way rest new t wider all y (inl a) = inl (wider y a)
give_way rest new t wider all y (inr s) = elim (stands_last rest t y s) [
  | inl a ↦ inr (stands_left rest new y a)
  | inr o ↦ elim (all y o) [ inl b ↦ inl b | inr c ↦ inr (stands_right rest new y c) ]
]

-- an argument of a structure
pub occurs_among : (ts : List Tree) (y : VarName) → OccursIn y (trees ts) → StandsIn y ts
occurs_among [] y o = absurd o
occurs_among (t ∷ ts) y (inl o) = (t, inl refl, o)
occurs_among (t ∷ ts) y (inr o) = let r = occurs_among ts y o in (r.0, inr r.1, r.2)

pub among_occurs : (ts : List Tree) (t : Tree) (y : VarName) → In t ts → Occurs y t → OccursIn y (trees ts)
among_occurs [] t y i o = absurd i
among_occurs (u ∷ ts) t y (inl e) o = inl (subst (Occurs y) e o)
among_occurs (u ∷ ts) t y (inr i) o = inr (among_occurs ts t y i o)

pub argument_reaches : {T : VarName → Option Tree} {t : Tree} {z : VarName} (f : List ℕ) (ts : List Tree) → In t ts → Reaches T t z → Reaches T (node f (trees ts)) z
argument_reaches f ts i (here o) = here (among_occurs ts _ _ i o)
argument_reaches f ts i (through o e r) = through (among_occurs ts _ _ i o) e r

-- the value of a variable, if there is one, alone in a list
pub value_in_list : (o : Option Tree) (t : Tree) → o ≡ Some t → In t (value_list o)
value_in_list None t e = cc
value_in_list (Some u) t e = inl (cc)

pub list_is_value : (o : Option Tree) (t : Tree) → In t (value_list o) → o ≡ Some t
list_is_value None t i = absurd i
list_is_value (Some u) t (inl e) = ap Some (sym e)
list_is_value (Some u) t (inr i) = absurd i

-- the variable was seen, or does not reach `to`
abbrev pub Settled : (VarName → Option Tree) → VarName → List VarName → VarName → Type 0
Settled T to seen y = In y seen ⊎ (¬ Reaches T (variable y) to)

-- the search from a tree for `to`
pub record Searching (T : VarName → Option Tree) (to : VarName) (from : Tree) (seen : List VarName) (open_ones : List Tree) : Type 0 where
  pub first : (y : VarName) → Occurs y from → Settled T to seen y ⊎ StandsIn y open_ones
  pub next : (x : VarName) → In x seen → (u : Tree) → T x ≡ Some u → (y : VarName) → Occurs y u → Settled T to seen y ⊎ StandsIn y open_ones
  pub absent : (x : VarName) → In x seen → ¬ (x ≡ to)
  pub reached : (t : Tree) → In t open_ones → (z : VarName) → Reaches T t z → Reaches T from z

module _ {T : VarName → Option Tree} {to : VarName} {from : Tree} where
  pub started : (ts : List Tree) → ts ≡ from ∷ [] → Searching T to from [] ts
  started ts e = subst (Searching T to from []) (sym e) (record {
    first = λ y o. inr (from, inl refl, o);
    next = λ x i. absurd i;
    absent = λ x i. absurd i;
    reached = λ t i z r. elim i [ inl same ↦ subst (λ u. Reaches T u z) same r | inr n ↦ absurd n ];
  })

  -- a variable that was found
  pub found : (seen : List VarName) (rest : List Tree) → Searching T to from seen (rest ++ variable to ∷ []) → Reaches T from to
  found seen rest s = s.reached (variable to) (in_last rest (variable to)) to (here refl)

  -- a tree is taken from the end of the open ones, and others come in its place
  replaced : (seen : List VarName) (rest new : List Tree) (t : Tree) → Searching T to from seen (rest ++ t ∷ [])
      → ((y : VarName) → Occurs y t → Settled T to seen y ⊎ StandsIn y new) → ((u : Tree) → In u new → (z : VarName) → Reaches T u z → Reaches T t z)
      → Searching T to from seen (rest ++ new)
  replaced seen rest new t s all back =
      let on_ = give_way {A = Settled T to seen} rest new t (λ y a. a) all in
      record {
        first = λ y o. on_ y (s.first y o);
        next = λ x i u e y o. on_ y (s.next x i u e y o);
        absent = s.absent;
        reached = λ u i z r. elim (in_either rest new u i) [
          | inl a ↦ s.reached u (in_left rest (t ∷ []) u a) z r
          | inr b ↦ s.reached t (in_last rest t) z (back u b z r)
        ];
      }

  -- nothing stands in the tree but what is seen, or does not reach `to`
  pub passed : (seen : List VarName) (rest : List Tree) (t : Tree) → Searching T to from seen (rest ++ t ∷ []) → ((y : VarName) → Occurs y t → Settled T to seen y) → Searching T to from seen rest
  passed seen rest t s all = subst (Searching T to from seen) (append-nil rest) (replaced seen rest [] t s (λ y o. inl (all y o)) (λ u i. absurd i))

  -- a structure gives way to its arguments
  pub unfolded : (seen : List VarName) (rest ts : List Tree) (f : List ℕ) → Searching T to from seen (rest ++ node f (trees ts) ∷ []) → Searching T to from seen (rest ++ ts)
  unfolded seen rest ts f s = replaced seen rest ts (node f (trees ts)) s (λ y o. inr (occurs_among ts y o)) (λ u i z r. argument_reaches f ts i r)

  -- a variable is seen, and its value, if there is one, comes in its place
  met : (seen : List VarName) (rest : List Tree) (x : VarName) → ¬ (x ≡ to) → Searching T to from seen (rest ++ variable x ∷ []) → Searching T to from (seen ++ x ∷ []) (rest ++ value_list (T x))
  met seen rest x n s =
      let on_ = give_way {A = Settled T to seen} {B = Settled T to (seen ++ x ∷ [])} rest (value_list (T x)) (variable x)
      (λ y i. elim i [ inl j ↦ inl (in_left seen (x ∷ []) y j) | inr m ↦ inr m ]) (λ y o. inl (inl (in_right seen (x ∷ []) y (inl o)))) in
      record {
        first = λ y o. on_ y (s.first y o);
        next = λ z i v b y o. elim (in_more seen x z i) [
          | inl j ↦ on_ y (s.next z j v b y o)
          | inr same ↦ inr (stands_right rest (value_list (T x)) y (v, value_in_list (T x) v (ap T (sym same) ∙ b), o))
        ];
        absent = λ z i. elim (in_more seen x z i) [ inl j ↦ s.absent z j | inr same ↦ λ q. n (sym same ∙ q) ];
        reached = λ t i z r. elim (in_either rest (value_list (T x)) t i) [
          | inl a ↦ s.reached t (in_left rest (variable x ∷ []) t a) z r
          | inr b ↦ s.reached (variable x) (in_last rest (variable x)) z (through refl (list_is_value (T x) t b) r)
        ];
      }

  closed_under : (seen : List VarName) → Searching T to from seen [] → {t : Tree} → ((y : VarName) → Occurs y t → Settled T to seen y) → ¬ Reaches T t to
  closed_under seen s all (here o) = elim (all to o) [ inl i ↦ s.absent to i refl | inr n ↦ n (here refl) ]
  closed_under seen s all (through {u = u} {y = y} o e r) = elim (all y o) [
    | inl i ↦ closed_under seen s (λ z q. elim (s.next y i u e z q) [ inl k ↦ k | inr b ↦ absurd b.1 ]) r
    | inr n ↦ n (through refl e r)
  ]

  -- nothing is open any more
  pub finished : (seen : List VarName) → Searching T to from seen [] → ¬ Reaches T from to
  finished seen s = closed_under seen s (λ y o. elim (s.first y o) [ inl i ↦ i | inr b ↦ absurd b.1 ])

-- how large the open trees are
abbrev pub sizes : StoreValue → List Tree → ℕ
sizes s ts = size_all s (trees ts)

sizes_append : (s : StoreValue) (ts us : List Tree) → sizes s (ts ++ us) ≡ sizes s ts + sizes s us
sizes_append s [] us = omega arith
sizes_append s (t ∷ ts) us = let r = sizes_append s ts us in omega (arith, r)

pub size_positive : (s : StoreValue) (t : Tree) → 0 < size s t
size_positive s (integer k) = omega arith
size_positive s t = omega arith

-- a tree is taken from the end
pub popped : (items rest : List (Bor Tree)) (t : Bor Tree) → items ≡ rest ++ t ∷ [] → map (λ (b : Bor Tree). b.now) items ≡ map (λ (b : Bor Tree). b.now) rest ++ t.now ∷ []
popped items rest t e = ap (map (λ (b : Bor Tree). b.now)) e ∙ map-append (λ (b : Bor Tree). b.now) rest (t ∷ [])

-- others come in its place that are smaller
falls : (s : StoreValue) (all rest new after : List Tree) (t : Tree) → all ≡ rest ++ t ∷ [] → after ≡ rest ++ new → sizes s new < size s t → sizes s after < sizes s all
falls s all rest new after t e f h =
    let a = ap (sizes s) e ∙ sizes_append s rest (t ∷ []) in
    let b = ap (sizes s) f ∙ sizes_append s rest new in
    omega (arith, a, b, h)

pub falls_away : (s : StoreValue) (all rest : List Tree) (t : Tree) → all ≡ rest ++ t ∷ [] → sizes s rest < sizes s all
falls_away s all rest t e = falls s all rest [] rest t e (sym (append-nil rest)) (size_positive s t)

-- a variable is seen
pub sees : {T : VarName → Option Tree} {to : VarName} {from : Tree} (seen seen' : List VarName) (all rest after : List Tree) (x : VarName) (t : Tree) → variable x ≡ t → all ≡ rest ++ t ∷ [] → ¬ (x ≡ to)
    → Searching T to from seen all → Sees T x seen seen' rest after → Searching T to from seen' after
sees {T = T} {to = to} {from = from} seen seen' all rest after x t is e n s d =
    let s' = subst (λ z. Searching T to from seen (rest ++ z ∷ [])) (sym is) (subst (Searching T to from seen) e s) in
    elim d [
      | inl p ↦ subst (λ z. Searching T to from z after) (sym p.1) (subst (Searching T to from seen) (sym p.2) (passed seen rest (variable x) s' (λ y o. inl (subst (λ z. In z seen) (sym o) p.0))))
      | inr p ↦ subst (λ z. Searching T to from z after) (sym p.0) (subst (Searching T to from (seen ++ x ∷ [])) (sym p.1) (met seen rest x n s'))
    ]

pub sees_falls : (s : StoreValue) (T : VarName → Option Tree) → IsAcyclic (value_at s) → value_at s ≡ T → (seen seen' : List VarName) (all rest after : List Tree) (x : VarName) (t : Tree) → variable x ≡ t → all ≡ rest ++ t ∷ []
    → Sees T x seen seen' rest after → sizes s after < sizes s all
sees_falls s T acyclic same seen seen' all rest after x t is e d =
    elim d [
      | inl p ↦ subst (λ z. sizes s z < sizes s all) (sym p.2) (falls_away s all rest t e)
      | inr p ↦ falls s all rest (value_list (T x)) after t e p.1 (subst (λ z. sizes s (value_list (T x)) < size s z) is
          (elim (T x) as (λ o. T x ≡ o → sizes s (value_list o) < size s (variable x)) [
            | Some u ↦ λ b. let z = size_variable s acyclic x u (ap (λ V. V x) same ∙ b) in omega (arith, z)
            | None ↦ λ b. size_positive s (variable x)
          ] refl))
    ]

-- a structure gives way to its arguments
pub unfolds : {T : VarName → Option Tree} {to : VarName} {from : Tree} (seen : List VarName) (all rest after ts : List Tree) (f : List ℕ) (t : Tree) → node f (trees ts) ≡ t → all ≡ rest ++ t ∷ [] → after ≡ rest ++ ts
    → Searching T to from seen all → Searching T to from seen after
unfolds {T = T} {to = to} {from = from} seen all rest after ts f t is e g s =
    subst (Searching T to from seen) (sym g) (unfolded seen rest ts f (subst (λ z. Searching T to from seen (rest ++ z ∷ [])) (sym is) (subst (Searching T to from seen) e s)))

pub unfold_falls : (s : StoreValue) (all rest after ts : List Tree) (f : List ℕ) (t : Tree) → node f (trees ts) ≡ t → all ≡ rest ++ t ∷ [] → after ≡ rest ++ ts → sizes s after < sizes s all
unfold_falls s all rest after ts f t is e g = falls s all rest ts after t e g (subst (λ z. sizes s ts < size s z) is (omega arith))

pub nothing_open : (items : List (Bor Tree)) (n : ℕ) → n ≡ length items → n ≡ 0 → map (λ (b : Bor Tree). b.now) items ≡ []
nothing_open [] n e z = refl
nothing_open (b ∷ items) n e z = absurd (omega (arith, e, z))
