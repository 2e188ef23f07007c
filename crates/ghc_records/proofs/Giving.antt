-- The steps that gave what is used, over which one goes one after another.
use Rattle.ghc_records.proofs.Words.{◌≡◌, ◌≢◌, ℕ, ◌+◌, ◌<◌, List, [], ◌∷◌, get_or, take, length, sym, ap, ◌∙◌, subst, inl, inr, ◌⊎◌, ◌↔◌, Option, Some, Variables, is_member, has_member, take_more, VarName, In, in_more, in_left, in_last, in_get, UsersByStep, BindersByVariable, IsUser, CanTake, BoundOneOf, Gave}
use Rattle.std.specs.FinMap as finite
use Rattle.std.specs.FinSet as set

-- the one that is named
module _ (old new : UsersByStep) (o : Option ℕ) (k u : ℕ) (is : o ≡ Some k) where
  named : (m : ℕ) → o ≡ Some m → m ≡ k
  named m e = cc

  naming : (m : ℕ) → m ≡ k → o ≡ Some m
  naming m e = is ∙ ap Some (sym e)

  pub put_named : ((m n : ℕ) → IsUser new m n ↔ (IsUser old m n ⊎ ((m ≡ k) × (n ≡ u)))) → (m n : ℕ) → IsUser new m n ↔ (IsUser old m n ⊎ ((o ≡ Some m) × (n ≡ u)))
  put_named h m n = (
    λ i. elim ((h m n).0 i) [ inl j ↦ inl j | inr e ↦ inr (naming m e.0, e.1) ],
    λ c. (h m n).1 (elim c [ inl j ↦ inl j | inr e ↦ inr (named m e.0, e.1) ]),
  )

  pub taken_named : ((m n : ℕ) → IsUser new m n ↔ (IsUser old m n × ¬ ((m ≡ k) × (n ≡ u)))) → (m n : ℕ) → IsUser new m n ↔ (IsUser old m n × ¬ ((o ≡ Some m) × (n ≡ u)))
  taken_named h m n = (
    λ i. let j = (h m n).0 i in (j.0, λ e. j.1 (named m e.0, e.1)),
    λ c. (h m n).1 (c.0, λ e. c.1 (naming m e.0, e.1)),
  )

  pub can_named : ((n : ℕ) → CanTake new k n) → (m n : ℕ) → o ≡ Some m → CanTake new m n
  can_named h m n e = subst (λ z. CanTake new z n) (sym (named m e)) (h n)

-- m gave one of the variables of the list, where G says what gave which
abbrev pub GaveOneOf : (VarName → ℕ → Type 0) → List VarName → ℕ → Type 0
GaveOneOf G xs m = (x : VarName) × In x xs × G x m

-- the step that bound a variable gave it
abbrev pub IsBinderOf : BindersByVariable → VarName → ℕ → Type 0
IsBinderOf binders x m = finite.get binders x ≡ Some m

pub found_so : {o p : Option ℕ} → o ≡ p → (m : ℕ) → (o ≡ Some m) ↔ (p ≡ Some m)
found_so e m = (λ f. sym e ∙ f, λ f. e ∙ f)

-- under each step that gave one of these stands the number besides, or no longer
module _ (G : VarName → ℕ → Type 0) (old : UsersByStep) where
  abbrev pub HasUnder : List VarName → ℕ → UsersByStep → Type 0
  HasUnder xs u new = (m n : ℕ) → IsUser new m n ↔ (IsUser old m n ⊎ (GaveOneOf G xs m × (n ≡ u)))

  abbrev pub HasNotUnder : List VarName → ℕ → UsersByStep → Type 0
  HasNotUnder xs u new = (m n : ℕ) → IsUser new m n ↔ (IsUser old m n × ¬ (GaveOneOf G xs m × (n ≡ u)))

  pub under_none : (u : ℕ) → HasUnder [] u old
  under_none u m n = (λ i. inl i, λ c. elim c [ inl i ↦ i | inr b ↦ absurd b.0.1 ])

  pub not_under_none : (u : ℕ) → HasNotUnder [] u old
  not_under_none u m n = (λ i. (i, λ b. b.0.1), λ c. c.0)

-- one variable more, which o gave
module _ (G : VarName → ℕ → Type 0) (xs : List VarName) (i : ℕ) (d : VarName) (within : i < length xs)
    (o : Option ℕ) (is : (m : ℕ) → (o ≡ Some m) ↔ G (get_or xs i d) m) where
  more : (m : ℕ) → GaveOneOf G (take (i + 1) xs) m → GaveOneOf G (take i xs) m ⊎ (o ≡ Some m)
  more m b = elim (in_more (take i xs) (get_or xs i d) b.0 (subst (In b.0) (take_more xs i d within) b.1)) [
    | inl k ↦ inl (b.0, k, b.2)
    | inr e ↦ inr ((is m).1 (subst (λ y. G y m) e b.2))
  ]

  earlier : (m : ℕ) → GaveOneOf G (take i xs) m → GaveOneOf G (take (i + 1) xs) m
  earlier m b = (b.0, subst (In b.0) (sym (take_more xs i d within)) (in_left (take i xs) (get_or xs i d ∷ []) b.0 b.1), b.2)

  latest : (m : ℕ) → o ≡ Some m → GaveOneOf G (take (i + 1) xs) m
  latest m e = (get_or xs i d, subst (In (get_or xs i d)) (sym (take_more xs i d within)) (in_last (take i xs) (get_or xs i d)), (is m).0 e)

  pub this_one : (m : ℕ) → o ≡ Some m → GaveOneOf G xs m
  this_one m e = (get_or xs i d, in_get xs i d within, (is m).0 e)

  module _ (old now new : UsersByStep) (u : ℕ) where
    pub under_next : HasUnder G old (take i xs) u now → ((m n : ℕ) → IsUser new m n ↔ (IsUser now m n ⊎ ((o ≡ Some m) × (n ≡ u))))
        → HasUnder G old (take (i + 1) xs) u new
    under_next before step m n = (
      λ k. elim ((step m n).0 k) [
        | inl j ↦ elim ((before m n).0 j) [ inl p ↦ inl p | inr b ↦ inr (earlier m b.0, b.1) ]
        | inr e ↦ inr (latest m e.0, e.1)
      ],
      λ k. (step m n).1 (elim k [
        | inl p ↦ inl ((before m n).1 (inl p))
        | inr b ↦ elim (more m b.0) [ inl a ↦ inl ((before m n).1 (inr (a, b.1))) | inr e ↦ inr (e, b.1) ]
      ]),
    )

    pub not_under_next : HasNotUnder G old (take i xs) u now → ((m n : ℕ) → IsUser new m n ↔ (IsUser now m n × ¬ ((o ≡ Some m) × (n ≡ u))))
        → HasNotUnder G old (take (i + 1) xs) u new
    not_under_next before step m n = (
      λ k.
          let s = (step m n).0 k in
          let b = (before m n).0 s.0 in
          (b.0, λ p. elim (more m p.0) [ inl a ↦ b.1 (a, p.1) | inr e ↦ s.1 (e, p.1) ]),
      λ k. (step m n).1 ((before m n).1 (k.0, λ p. k.1 (earlier m p.0, p.1)), λ p. k.1 (latest m p.0, p.1)),
    )

  pub can_next : (now new : UsersByStep) → ((m n : ℕ) → GaveOneOf G (take i xs) m → CanTake now m n) → ((m n : ℕ) → CanTake now m n → CanTake new m n)
      → ((m n : ℕ) → o ≡ Some m → CanTake new m n) → (m n : ℕ) → GaveOneOf G (take (i + 1) xs) m → CanTake new m n
  can_next now new before kept here m n b = elim (more m b) [ inl a ↦ kept m n (before m n a) | inr e ↦ here m n e ]

-- the list of what is read, and the set
module _ (binders : BindersByVariable) (maker : Option ℕ) (reads : Variables) (xs : List VarName) (all : set.from_list xs ≡ reads) where
  pub gave : (m : ℕ) → Gave binders maker reads m ↔ ((maker ≡ Some m) ⊎ BoundOneOf binders xs m)
  gave m = (
    λ g. elim g [ inl e ↦ inl e | inr b ↦ inr (b.0, is_member reads xs all b.0 b.1, b.2) ],
    λ g. elim g [ inl e ↦ inl e | inr b ↦ inr (b.0, has_member reads xs all b.0 b.1, b.2) ],
  )

  module _ (old mid new : UsersByStep) (u v : ℕ) (same : u ≡ v) where
    pub put_both : ((m n : ℕ) → IsUser mid m n ↔ (IsUser old m n ⊎ ((maker ≡ Some m) × (n ≡ u)))) → HasUnder (IsBinderOf binders) mid xs u new
        → (m n : ℕ) → IsUser new m n ↔ (IsUser old m n ⊎ (Gave binders maker reads m × (n ≡ v)))
    put_both first then m n = (
      λ k. elim ((then m n).0 k) [
        | inl j ↦ elim ((first m n).0 j) [ inl o ↦ inl o | inr e ↦ inr (inl e.0, e.1 ∙ same) ]
        | inr b ↦ inr ((gave m).1 (inr b.0), b.1 ∙ same)
      ],
      λ k. (then m n).1 (elim k [
        | inl o ↦ inl ((first m n).1 (inl o))
        | inr g ↦ elim ((gave m).0 g.0) [ inl e ↦ inl ((first m n).1 (inr (e, g.1 ∙ sym same))) | inr b ↦ inr (b, g.1 ∙ sym same) ]
      ]),
    )

    pub taken_both : ((m n : ℕ) → IsUser mid m n ↔ (IsUser old m n × ¬ ((maker ≡ Some m) × (n ≡ u)))) → HasNotUnder (IsBinderOf binders) mid xs u new
        → (m n : ℕ) → IsUser new m n ↔ (IsUser old m n × ¬ (Gave binders maker reads m × (n ≡ v)))
    taken_both first then m n = (
      λ k.
          let j = (then m n).0 k in
          let i = (first m n).0 j.0 in
          (i.0, λ g. elim ((gave m).0 g.0) [ inl e ↦ i.1 (e, g.1 ∙ sym same) | inr b ↦ j.1 (b, g.1 ∙ sym same) ]),
      λ k. (then m n).1 ((first m n).1 (k.0, λ e. k.1 (inl e.0, e.1 ∙ same)), λ b. k.1 ((gave m).1 (inr b.0), b.1 ∙ same)),
    )

  pub can_both : (new : UsersByStep) → ((m n : ℕ) → maker ≡ Some m → CanTake new m n) → ((m n : ℕ) → BoundOneOf binders xs m → CanTake new m n)
      → (m n : ℕ) → Gave binders maker reads m → CanTake new m n
  can_both new first then m n g = elim ((gave m).0 g) [ inl e ↦ first m n e | inr b ↦ then m n b ]

-- of the users none is the step itself any more
pub forgotten_too : (mid new : UsersByStep) (P : ℕ → ℕ → Type 0) (u v : ℕ) → u ≡ v → ((m n : ℕ) → IsUser mid m n ↔ P m n) → ((m n : ℕ) → IsUser new m n ↔ (IsUser mid m n × (m ≢ u))) → (m n : ℕ) → IsUser new m n ↔ (P m n × (m ≢ v))
forgotten_too mid new P u v same first then m n = (
  λ k. let j = (then m n).0 k in ((first m n).0 j.0, λ e. j.1 (e ∙ sym same)),
  λ k. (then m n).1 ((first m n).1 k.0, λ e. k.1 (e ∙ same)),
)
