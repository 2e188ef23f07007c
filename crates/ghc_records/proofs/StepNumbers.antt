-- Numbers that rise, and others that each stand below one of them.
use Rattle.ghc_records.proofs.Words.{◌≡◌, ℕ, ◌<◌, ◌≤◌, List, [], ◌∷◌, ◌++◌, sym, subst, inl, inr, ◌⊎◌, ◌↔◌, arith, refl, cases_lt, In, in_left, in_right, in_either}
use Rattle.ghc_records.specs.inner.StepNumbers.{ArePassed}
use Rattle.ghc_records.proofs.NumberSets.{in_pushed}

-- all numbers are below this one, or one is not
pub above_or_not : (xs : List ℕ) (k : ℕ) → ((n : ℕ) → In n xs → n < k) ⊎ ((m : ℕ) × In m xs × (k ≤ m))
above_or_not [] k = inl (λ n i. absurd i)
above_or_not (x ∷ xs) k = elim (cases_lt x k) [
  | inl less ↦ elim (above_or_not xs k) [
    | inl all ↦ inl (λ n i. elim i [ inl e ↦ subst (λ z. z < k) (sym e) less | inr j ↦ all n j ])
    | inr (m, i, most) ↦ inr (m, inr i, most)
  ]
  | inr most ↦ inr (x, inl refl, most)
]

module _ (xs os : List ℕ) (k : ℕ) (passed : ArePassed xs os) where
  -- one above all that rise is none of them all, and may come after them
  pub above_is_new : ((n : ℕ) → In n xs → n < k) → ¬ In k (xs ++ os)
  above_is_new above i = elim (in_either xs os k i) [
    | inl j ↦ let less = above k j in omega (arith, less)
    | inr j ↦ let p = passed k j in let less = above p.0 p.1 in let more = p.2 in omega (arith, less, more)
  ]

  pub passed_pushed : ArePassed (xs ++ k ∷ []) os
  passed_pushed n i = let p = passed n i in (p.0, in_left xs (k ∷ []) p.0 p.1, p.2)

  pub in_front : (n : ℕ) → In n ((xs ++ k ∷ []) ++ os) ↔ (In n (xs ++ os) ⊎ (n ≡ k))
  in_front n = (
    λ i. elim (in_either (xs ++ k ∷ []) os n i) [
      | inl j ↦ elim ((in_pushed xs k n).0 j) [ inl a ↦ inl (in_left xs os n a) | inr e ↦ inr e ]
      | inr j ↦ inl (in_right xs os n j)
    ],
    λ d. elim d [
      | inl i ↦ elim (in_either xs os n i) [
        | inl j ↦ in_left (xs ++ k ∷ []) os n ((in_pushed xs k n).1 (inl j))
        | inr j ↦ in_right (xs ++ k ∷ []) os n j
      ]
      | inr e ↦ in_left (xs ++ k ∷ []) os n ((in_pushed xs k n).1 (inr e))
    ],
  )

  -- one that is none of those that rise, and not above all of them, goes to the others
  module _ (absent : ¬ In k xs) (new : List ℕ) where
    pub passed_put : ¬ ((n : ℕ) → In n xs → n < k) → ((n : ℕ) → In n new → In n os ⊎ (n ≡ k)) → ArePassed xs new
    passed_put low put n i = elim (put n i) [
      | inl j ↦ passed n j
      | inr e ↦ elim (above_or_not xs k) [
        | inl all ↦ absurd (low all)
        | inr (m, j, most) ↦ (
          m,
          j,
          subst (λ z. z < m) (sym e) (elim (cases_lt k m) [
            | inl less ↦ less
            | inr least ↦ let same : m ≡ k = omega (arith, most, least) in absurd (absent (subst (λ z. In z xs) same j))
          ]),
        )
      ]
    ]

    pub new_behind : ¬ In k os → ¬ In k (xs ++ os)
    new_behind none i = elim (in_either xs os k i) [ inl j ↦ absent j | inr j ↦ none j ]

    pub in_behind : (n : ℕ) → (In n new ↔ (In n os ⊎ (n ≡ k))) → In n (xs ++ new) ↔ (In n (xs ++ os) ⊎ (n ≡ k))
    in_behind n put = (
      λ i. elim (in_either xs new n i) [
        | inl j ↦ inl (in_left xs os n j)
        | inr j ↦ elim (put.0 j) [ inl a ↦ inl (in_right xs os n a) | inr e ↦ inr e ]
      ],
      λ d. elim d [
        | inl i ↦ elim (in_either xs os n i) [ inl j ↦ in_left xs new n j | inr j ↦ in_right xs new n (put.1 (inl j)) ]
        | inr e ↦ in_right xs new n (put.1 (inr e))
      ],
    )
