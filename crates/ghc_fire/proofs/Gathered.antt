-- The variables on the chains of some variables, added to a set.
use Rattle.ghc_fire.proofs.Words.{◌≡◌, List, [], ◌∷◌, ◌++◌, refl, sym, subst, inl, inr, ◌⊎◌, Option, IsTrue, ◌↔◌, VarName, Tree, variable, integer, node, leaf, In, Leads, at_integer, at_node, Variables, leads_once, in_left, in_right, in_either, one_inserted, Gains, IsOnChainsOf}
use Rattle.std.specs.FinSet as set

-- the variable x is on the chain of one of the variables ys
abbrev pub OnChains : (VarName → Option Tree) → List VarName → VarName → Type 0
OnChains S ys x = (y : VarName) × (e : Tree) × (xs : List VarName) × In y ys × Leads S (variable y) xs e × In x xs

-- the set has x, or will have it once the chains of the variables ys are added
abbrev pub Gathers : (VarName → Option Tree) → Variables → List VarName → VarName → Type 0
Gathers S s ys x = IsTrue (set.contains s x) ⊎ OnChains S ys x

module _ (S : VarName → Option Tree) where
  -- the chains of the first variables are added
  pub gathers_first : (old new : Variables) (ys zs : List VarName) → Gains old new (OnChains S ys) → (x : VarName) → Gathers S new zs x ↔ Gathers S old (ys ++ zs) x
  gathers_first old new ys zs g x = (
    λ h. elim h [
      | inl c ↦ elim ((g x).0 c) [
        | inl d ↦ inl d
        | inr w ↦ inr (w.0, w.1, w.2, in_left ys zs w.0 w.3, w.4, w.5)
      ]
      | inr w ↦ inr (w.0, w.1, w.2, in_right ys zs w.0 w.3, w.4, w.5)
    ],
    λ h. elim h [
      | inl c ↦ inl ((g x).1 (inl c))
      | inr w ↦ elim (in_either ys zs w.0 w.3) [
        | inl i ↦ inl ((g x).1 (inr (w.0, w.1, w.2, i, w.4, w.5)))
        | inr i ↦ inr (w.0, w.1, w.2, i, w.4, w.5)
      ]
    ],
  )

  -- the chain of a leaf is that of its variable
  leaf_chain : (t e : Tree) (xs : List VarName) → Leads S t xs e → (x : VarName) → In x xs ↔ IsOnChainsOf S (leaf t) x
  leaf_chain (variable y) e xs l x = (
    λ i. (y, e, xs, inl refl, l, i),
    λ w. elim w.3 [
      | inl same ↦ subst (λ zs. In x zs) (leads_once (subst (λ z. Leads S (variable z) w.2 w.1) same w.4) l).0 w.5
      | inr n ↦ absurd n
    ],
  )
  leaf_chain (integer k) e xs l x = (λ i. absurd (subst (λ zs. In x zs) (leads_once l at_integer).0 i), λ w. absurd w.3)
  leaf_chain (node f ts) e xs l x = (λ i. absurd (subst (λ zs. In x zs) (leads_once l at_node).0 i), λ w. absurd w.3)

  -- and it is added
  pub gains_leaf : (old new : Variables) (t e : Tree) (xs : List VarName) → Leads S t xs e → Gains old new (λ x. In x xs) → Gains old new (IsOnChainsOf S (leaf t))
  gains_leaf old new t e xs l g x =
      let same = leaf_chain t e xs l x in
      (λ c. elim ((g x).0 c) [ inl a ↦ inl a | inr i ↦ inr (same.0 i) ], λ h. (g x).1 (elim h [ inl a ↦ inl a | inr w ↦ inr (same.1 w) ]))

-- one variable more is added
pub gains_one : (old mid : Variables) (ys : List VarName) (y : VarName) (new : Variables) → Gains old mid (λ x. In x ys) → new ≡ set.insert mid y → Gains old new (λ x. In x (ys ++ y ∷ []))
gains_one old mid ys y new g e x = (
  λ c. elim ((one_inserted mid y x).0 (subst (λ s. IsTrue (set.contains s x)) e c)) [
    | inl d ↦ elim ((g x).0 d) [ inl a ↦ inl a | inr i ↦ inr (in_left ys (y ∷ []) x i) ]
    | inr same ↦ inr (in_right ys (y ∷ []) x (inl same))
  ],
  λ h. subst (λ s. IsTrue (set.contains s x)) (sym e) ((one_inserted mid y x).1 (elim h [
    | inl a ↦ inl ((g x).1 (inl a))
    | inr i ↦ elim (in_either ys (y ∷ []) x i) [
      | inl j ↦ inl ((g x).1 (inr j))
      | inr j ↦ elim j [ inl same ↦ inr same | inr n ↦ absurd n ]
    ]
  ])),
)
