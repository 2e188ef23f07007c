-- Sets that gain what the elements of a list have.
use Rattle.ghc_match.proofs.Words.{Bool, true, List, [], ◌∷◌, ◌++◌, refl, subst, inl, inr, ◌⊎◌, IsTrue, ◌↔◌, VarName, In, Variables, IsSetOf, in_left, in_more, in_last, Gains}

-- the set of what the elements of a list have, after one element more
module _ {X : Type 0} (R : X → VarName → Type 0) where
  -- an element of the list has x
  abbrev pub OneHas : List X → VarName → Type 0
  OneHas ys x = (y : X) × In y ys × R y x

  one_more : (ys : List X) (y : X) (x : VarName) → OneHas (ys ++ y ∷ []) x ↔ (OneHas ys x ⊎ R y x)
  one_more ys y x = (
    λ w. elim (in_more ys y w.0 w.1) [ inl i ↦ inl (w.0, i, w.2) | inr e ↦ inr (subst (λ z. R z x) e w.2) ],
    λ c. elim c [ inl w ↦ (w.0, in_left ys (y ∷ []) w.0 w.1, w.2) | inr r ↦ (y, in_last ys y, r) ],
  )

  pub has_more : (s new : Variables) (ys : List X) (y : X) → IsSetOf s (OneHas ys) → Gains s new (R y) → IsSetOf new (OneHas (ys ++ y ∷ []))
  has_more s new ys y p g x = (
    λ h. (one_more ys y x).1 (elim ((g x).0 h) [ inl c ↦ inl ((p x).0 c) | inr r ↦ inr r ]),
    λ w. (g x).1 (elim ((one_more ys y x).0 w) [ inl o ↦ inl ((p x).1 o) | inr r ↦ inr r ]),
  )

  -- a set that gains what the elements have, one after another
  pub gains_nothing : (s : Variables) → Gains s s (OneHas [])
  gains_nothing s x = (λ c. inl c, λ c. elim c [ inl a ↦ a | inr w ↦ absurd w.1 ])

  pub gains_more : (old mid new : Variables) (ys : List X) (y : X) → Gains old mid (OneHas ys) → Gains mid new (R y) → Gains old new (OneHas (ys ++ y ∷ []))
  gains_more old mid new ys y f g x = (
    λ c. elim ((g x).0 c) [
      | inl d ↦ elim ((f x).0 d) [ inl a ↦ inl a | inr w ↦ inr ((one_more ys y x).1 (inl w)) ]
      | inr r ↦ inr ((one_more ys y x).1 (inr r))
    ],
    λ c. (g x).1 (elim c [
      | inl a ↦ inl ((f x).1 (inl a))
      | inr w ↦ elim ((one_more ys y x).0 w) [ inl o ↦ inl ((f x).1 (inr o)) | inr r ↦ inr r ]
    ]),
  )

  -- whether one of the elements has a variable
  abbrev pub Tells : Bool → List X → Type 0
  Tells b ys = IsTrue b ↔ ((x : VarName) × OneHas ys x)

  -- an element more that has one
  pub tells_one : (ys : List X) (y : X) → ((x : VarName) × R y x) → Tells true (ys ++ y ∷ [])
  tells_one ys y r = (λ _. (r.0, (one_more ys y r.0).1 (inr r.1)), λ _. refl)

  -- and one that has none
  pub tells_same : (b : Bool) (ys : List X) (y : X) → Tells b ys → ((x : VarName) → ¬ R y x) → Tells b (ys ++ y ∷ [])
  tells_same b ys y h n = (
    λ i. let w = h.0 i in (w.0, (one_more ys y w.0).1 (inl w.1)),
    λ w. elim ((one_more ys y w.0).0 w.1) [ inl o ↦ h.1 (w.0, o) | inr r ↦ absurd (n w.0 r) ],
  )
