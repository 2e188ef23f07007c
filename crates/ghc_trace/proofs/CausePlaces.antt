-- The places of the steps on which a step depends directly are found one after another.
use Rattle.ghc_trace.proofs.Words.{◌≡◌, ℕ, ◌<◌, ◌⊎◌, Result, Ok, Err, OnOk, List, [], ◌∷◌, ◌++◌, refl, sym, ap, ◌∙◌, subst, inl, inr, arith, ◌↔◌, Option, Some, None, nat_cmp, insert_key, VarName, GoalName, In, in_left, in_last, in_more, has_member, is_member, AreDistinct, Record, numbers, SlotList, held_in, StandsIn, HasNumberIn, variables_asked, Uses, once_of, stands_held, in_inserted}
use Rattle.std.specs.FinSet as set
use Rattle.ghc_records.specs.Uses.{Binds, MakesGoal, MakesVariable}
use Rattle.ghc_depend.specs.inner.Sources.{IsPlaceOfOne}
use Rattle.ghc_trace.specs.Causes.{IsInFront, HasInFront, HasNumbered}

-- a place more, if it is in front of the other
abbrev pub HasFound : ℕ → Option ℕ → List ℕ → List ℕ → Type 0
HasFound place found old new = (p : ℕ) → In p new ↔ (In p old ⊎ ((p < place) × (found ≡ Some p)))

pub none_found : (place : ℕ) (old : List ℕ) → HasFound place None old old
none_found place old p = (λ i. inl i, λ c. elim c [ inl i ↦ i | inr f ↦ let never : None ≡ Some p = f.1 in cc ])

pub found_behind : (place one : ℕ) (old : List ℕ) → ¬ (one < place) → HasFound place (Some one) old old
found_behind place one old high p = (λ i. inl i, λ c. elim c [ inl i ↦ i | inr f ↦ let same : one ≡ p = (let e : Some one ≡ Some p = f.1 in cc) in absurd (high (subst (λ k. k < place) (sym same) f.0)) ])

pub found_in_front : (place one : ℕ) (old : List ℕ) → one < place → HasFound place (Some one) old (insert_key nat_cmp old one)
found_in_front place one old low p = (
  λ i. elim ((in_inserted old one p).0 i) [ inl j ↦ inl j | inr e ↦ inr (subst (λ k. k < place) (sym e) low, ap Some (sym e)) ],
  λ c. (in_inserted old one p).1 (elim c [ inl j ↦ inl j | inr f ↦ inr (let e : Some one ≡ Some p = f.1 in let same : one ≡ p = cc in sym same) ]),
)

module _ (ss : SlotList) (place : ℕ) where
  -- what was found is where Q holds
  pub found_is : (Q : Record → Type 0) (found : Option ℕ) → IsPlaceOfOne ss Q found → (p : ℕ) → ((p < place) × (found ≡ Some p)) ↔ IsInFront ss place Q p
  found_is Q (Some one) h p = (
    λ f. let e : Some one ≡ Some p = f.1 in let same : one ≡ p = cc in (f.0, h.0.0, subst (λ k. StandsIn ss k h.0.0) same h.0.1, h.0.2),
    λ f. (f.0, ap Some (sym (h.1 p f.1 f.2 f.3))),
  )
  found_is Q None h p = (
    λ f. let never : None ≡ Some p = f.1 in cc,
    λ f. absurd (h p f.1 f.2 f.3),
  )

  pub has_found : (Q : Record → Type 0) (found : Option ℕ) (old new : List ℕ) → IsPlaceOfOne ss Q found → HasFound place found old new → HasInFront ss place Q old new
  has_found Q found old new h added p = (
    λ i. elim ((added p).0 i) [ inl j ↦ inl j | inr f ↦ inr ((found_is Q found h p).0 f) ],
    λ c. (added p).1 (elim c [ inl j ↦ inl j | inr f ↦ inr ((found_is Q found h p).1 f) ]),
  )

  -- of one name more
  abbrev pub OfOne : (Record → VarName → Type 0) → List VarName → Record → Type 0
  OfOne Q xs a = (x : VarName) × In x xs × Q a x

  pub of_none : (Q : Record → VarName → Type 0) (old : List ℕ) → HasInFront ss place (OfOne Q []) old old
  of_none Q old p = (λ i. inl i, λ c. elim c [ inl i ↦ i | inr f ↦ absurd f.3.1 ])

  pub of_one_more : (Q : Record → VarName → Type 0) (xs : List VarName) (x : VarName) (old ks new : List ℕ) → HasInFront ss place (OfOne Q xs) old ks
      → HasInFront ss place (λ a. Q a x) ks new → HasInFront ss place (OfOne Q (xs ++ x ∷ [])) old new
  of_one_more Q xs x old ks new has added p = (
    λ i. elim ((added p).0 i) [
      | inl j ↦ elim ((has p).0 j) [ inl k ↦ inl k | inr f ↦ inr (f.0, f.1, f.2, (f.3.0, in_left xs (x ∷ []) f.3.0 f.3.1, f.3.2)) ]
      | inr f ↦ inr (f.0, f.1, f.2, (x, in_last xs x, f.3))
    ],
    λ c. (added p).1 (elim c [
      | inl j ↦ inl ((has p).1 (inl j))
      | inr f ↦ elim (in_more xs x f.3.0 f.3.1) [
        | inl i ↦ inl ((has p).1 (inr (f.0, f.1, f.2, (f.3.0, i, f.3.2))))
        | inr e ↦ inr (f.0, f.1, f.2, subst (Q f.1) e f.3.2)
      ]
    ]),
  )

  -- the maker of the goal
  abbrev pub OfGoal : Option GoalName → Record → Type 0
  OfGoal goal a = (g : GoalName) × (goal ≡ Some g) × MakesGoal a g

  pub of_no_goal : (old : List ℕ) → HasInFront ss place (OfGoal None) old old
  of_no_goal old p = (λ i. inl i, λ c. elim c [ inl i ↦ i | inr f ↦ let never : None ≡ Some f.3.0 = f.3.1 in cc ])

  pub of_goal : (g : GoalName) (old new : List ℕ) → HasInFront ss place (λ a. MakesGoal a g) old new → HasInFront ss place (OfGoal (Some g)) old new
  of_goal g old new added p = (
    λ i. elim ((added p).0 i) [ inl j ↦ inl j | inr f ↦ inr (f.0, f.1, f.2, (g, refl, f.3)) ],
    λ c. (added p).1 (elim c [
      | inl j ↦ inl j
      | inr f ↦ inr (f.0, f.1, f.2, (let e : Some g ≡ Some f.3.0 = f.3.1 in let same : g ≡ f.3.0 = cc in subst (MakesGoal f.1) (sym same) f.3.2))
    ]),
  )

  -- all on which the step there depends directly
  module _ (distinct : AreDistinct (numbers (held_in ss))) (b : Record) (there : StandsIn ss place b) where
    names_other : (a : Record) (p : ℕ) (x : VarName) → p < place → StandsIn ss p a → MakesVariable a x → ¬ (x.step ≡ b.number)
    names_other a p x low at made e = let same : p ≡ place = once_of ss distinct p place a b at there (sym made.0 ∙ e) in omega (arith, low, same)

    pub all_causes : (xs : List VarName) (old first second new : List ℕ) → set.from_list xs ≡ b.effect.reads → HasInFront ss place (OfGoal b.goal) old first
        → HasInFront ss place (OfOne Binds xs) first second → HasInFront ss place (OfOne MakesVariable (variables_asked b.act)) second new → HasInFront ss place (Uses b) old new
    all_causes xs old first second new all goals reads names p = (
      λ i. elim ((names p).0 i) [
        | inl j ↦ elim ((reads p).0 j) [
          | inl k ↦ elim ((goals p).0 k) [ inl l ↦ inl l | inr f ↦ inr (f.0, f.1, f.2, inl f.3) ]
          | inr f ↦ inr (f.0, f.1, f.2, inr (inl (f.3.0, (has_member b.effect.reads xs all f.3.0 f.3.1, f.3.2))))
        ]
        | inr f ↦ inr (f.0, f.1, f.2, inr (inr (f.3.0, ((f.3.1, names_other f.1 p f.3.0 f.0 f.2 f.3.2), f.3.2))))
      ],
      λ c. (names p).1 (elim c [
        | inl j ↦ inl ((reads p).1 (inl ((goals p).1 (inl j))))
        | inr f ↦ elim f.3 [
          | inl g ↦ inl ((reads p).1 (inl ((goals p).1 (inr (f.0, f.1, f.2, g)))))
          | inr (inl r) ↦ inl ((reads p).1 (inr (f.0, f.1, f.2, (r.0, is_member b.effect.reads xs all r.0 r.1.0, r.1.1))))
          | inr (inr n) ↦ inr (f.0, f.1, f.2, (n.0, n.1.0.0, n.1.1))
        ]
      ]),
    )

-- the places of the steps of these numbers
pub numbered_none : (ss : SlotList) (old : List ℕ) → HasNumbered ss [] old old
numbered_none ss old p = (λ i. inl i, λ c. elim c [ inl i ↦ i | inr a ↦ absurd a.2 ])

module _ (ss : SlotList) (ns : List ℕ) (n : ℕ) (old ks : List ℕ) (has : HasNumbered ss ns old ks) where
  pub numbered_still : ((r : Record) → In r (held_in ss) → ¬ (r.number ≡ n)) → HasNumbered ss (ns ++ n ∷ []) old ks
  numbered_still none p = (
    λ i. elim ((has p).0 i) [ inl j ↦ inl j | inr a ↦ inr (a.0, a.1, in_left ns (n ∷ []) a.0.number a.2) ],
    λ c. (has p).1 (elim c [
      | inl j ↦ inl j
      | inr a ↦ elim (in_more ns n a.0.number a.2) [ inl i ↦ inr (a.0, a.1, i) | inr e ↦ absurd (none a.0 (stands_held ss p a.0 a.1) e) ]
    ]),
  )

  pub numbered_more : AreDistinct (numbers (held_in ss)) → (place : ℕ) → HasNumberIn ss place n → HasNumbered ss (ns ++ n ∷ []) old (insert_key nat_cmp ks place)
  numbered_more distinct place has_it p = (
    λ i. elim ((in_inserted ks place p).0 i) [
      | inl j ↦ elim ((has p).0 j) [ inl k ↦ inl k | inr a ↦ inr (a.0, a.1, in_left ns (n ∷ []) a.0.number a.2) ]
      | inr e ↦ inr (has_it.0, subst (λ k. StandsIn ss k has_it.0) (sym e) has_it.1, subst (λ m. In m (ns ++ n ∷ [])) (sym has_it.2) (in_last ns n))
    ],
    λ c. (in_inserted ks place p).1 (elim c [
      | inl j ↦ inl ((has p).1 (inl j))
      | inr a ↦ elim (in_more ns n a.0.number a.2) [
        | inl i ↦ inl ((has p).1 (inr (a.0, a.1, i)))
        | inr e ↦ inr (once_of ss distinct p place a.0 has_it.0 a.1 has_it.1 (e ∙ sym has_it.2))
      ]
    ]),
  )

-- what holds where a call succeeds leads to more
pub on_ok : {T E : Type 0} (r : Result T E) {P Q : Type 0} → OnOk r P → (P → Q) → OnOk r Q
on_ok (Ok t) p f = f p
on_ok (Err e) p f = tt
