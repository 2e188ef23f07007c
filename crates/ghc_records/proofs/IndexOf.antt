-- The index of a record, with one step more or less.
use Rattle.ghc_records.proofs.Words.{◌≡◌, ◌≢◌, ℕ, cond, List, [], ◌∷◌, ◌++◌, refl, sym, ap, ◌∙◌, subst, inl, inr, ◌⊎◌, ◌↔◌, Option, Some, None, is_some, nat_cmp, cases_Bool, VarName, In, name_cmp, value_at, in_left, in_last, in_more, Picks, AreDistinct, Record, numbers, GoalName, variables_asked, MakesGoal, Consumes, Binds, Uses, not_both, one_value, UsersByStep, BindersByVariable, numbers_in, users_at, IsUser, CanTake, Gave, step_named, StepDependsOn, StepBinds, IsIndexOf, IsMakerFor, MadeOneOf}
use Rattle.std.specs.FinMap as finite
use Rattle.ghc_records.proofs.OrderLemmas.{is_before, before_is, before_in, record_once, records_distinct}
use Rattle.ghc_records.proofs.PickLemmas.{before_left, before_across, before_last, picks_in, picks_has, picks_order, picks_keep}

-- what gave something to a step: the maker of its goal, a step that bound what it read, a step that made what it names
abbrev pub Gives : List Record → BindersByVariable → Option ℕ → Record → ℕ → Type 0
Gives rs binders maker r m = Gave binders maker r.effect.reads m ⊎ MadeOneOf rs (variables_asked r.act) m

-- two changes of the users, one after the other
pub put_again : (old mid new : UsersByStep) (P Q : ℕ → Type 0) (u : ℕ) → ((m n : ℕ) → IsUser mid m n ↔ (IsUser old m n ⊎ (P m × (n ≡ u)))) → ((m n : ℕ) → IsUser new m n ↔ (IsUser mid m n ⊎ (Q m × (n ≡ u))))
    → (m n : ℕ) → IsUser new m n ↔ (IsUser old m n ⊎ ((P m ⊎ Q m) × (n ≡ u)))
put_again old mid new P Q u first then m n = (
  λ k. elim ((then m n).0 k) [
    | inl j ↦ elim ((first m n).0 j) [ inl i ↦ inl i | inr p ↦ inr (inl p.0, p.1) ]
    | inr q ↦ inr (inr q.0, q.1)
  ],
  λ k. (then m n).1 (elim k [
    | inl i ↦ inl ((first m n).1 (inl i))
    | inr (inl p, e) ↦ inl ((first m n).1 (inr (p, e)))
    | inr (inr q, e) ↦ inr (q, e)
  ]),
)

pub taken_again : (old mid new : UsersByStep) (P Q : ℕ → Type 0) (u v : ℕ) → ((m n : ℕ) → IsUser mid m n ↔ ((IsUser old m n × ¬ (P m × (n ≡ u))) × (m ≢ v))) → ((m n : ℕ) → IsUser new m n ↔ (IsUser mid m n × ¬ (Q m × (n ≡ u))))
    → (m n : ℕ) → IsUser new m n ↔ ((IsUser old m n × ¬ ((P m ⊎ Q m) × (n ≡ u))) × (m ≢ v))
taken_again old mid new P Q u v first then m n = (
  λ k.
      let j = (then m n).0 k in
      let i = (first m n).0 j.0 in
      ((i.0.0, λ c. elim c.0 [ inl p ↦ i.0.1 (p, c.1) | inr q ↦ j.1 (q, c.1) ]), i.1),
  λ k. (then m n).1 ((first m n).1 ((k.0.0, λ p. k.0.1 (inl p.0, p.1)), k.1), λ q. k.0.1 (inr q.0, q.1)),
)

-- what a step uses was given by the step that the name of its goal names, by one that bound what it read, or by one that made what it names
pub given_by_name : (rs : List Record) (users : UsersByStep) (binders : BindersByVariable) → IsIndexOf rs users binders → (r : Record) (m : ℕ) (a : Record) → In a rs → a.number ≡ m → Uses r a
    → Gives rs binders (step_named r.goal) r m
given_by_name rs users binders is r m a i e (inl c) = inl (inl (ap step_named c.1 ∙ ap Some (c.2.0 ∙ e)))
given_by_name rs users binders is r m a i e (inr (inl x)) = inl (inr (x.0, x.1.0, (is.bound x.0 m).1 (a, i, e, x.1.1)))
given_by_name rs users binders is r m a i e (inr (inr x)) = inr (x.0, x.1.0.0, (a, i, e, x.1.1))

-- so there is room under each step that it uses, where room was made by that name and under what made what it names
pub room_made : (rs : List Record) (users : UsersByStep) (binders : BindersByVariable) → IsIndexOf rs users binders → (r : Record) (maker : Option ℕ) → maker ≡ step_named r.goal → (mid new : UsersByStep)
    → ((m n : ℕ) → Gave binders maker r.effect.reads m → CanTake mid m n) → ((m n : ℕ) → CanTake mid m n → CanTake new m n) → ((m n : ℕ) → MadeOneOf rs (variables_asked r.act) m → CanTake new m n)
    → (a : Record) → In a rs → Uses r a → CanTake new a.number r.number
room_made rs users binders is r maker named mid new taking kept room a i u = elim (subst (λ o. Gives rs binders o r a.number) (sym named) (given_by_name rs users binders is r a.number a i refl u)) [
  | inl g ↦ kept a.number r.number (taking a.number r.number g)
  | inr g ↦ room a.number r.number g
]

-- what gave something to a step that is put after the others is what the step uses
module _ (rs : List Record) (users : UsersByStep) (binders : BindersByVariable) (is : IsIndexOf rs users binders) (r : Record) (maker : Option ℕ)
    (made : (m : ℕ) → (maker ≡ Some m) ↔ IsMakerFor rs r m) where
  pub gave_to : (m : ℕ) (a : Record) → In a rs → a.number ≡ m → Uses r a → Gives rs binders maker r m
  gave_to m a i e (inl c) = inl (inl ((made m).1 (a, i, e, c)))
  gave_to m a i e (inr (inl x)) = inl (inr (x.0, x.1.0, (is.bound x.0 m).1 (a, i, e, x.1.1)))
  gave_to m a i e (inr (inr x)) = inr (x.0, x.1.0.0, (a, i, e, x.1.1))

  module _ (new : (a : Record) → In a rs → a.number ≢ r.number) where
    pub gave_is : (m : ℕ) → Gives rs binders maker r m ↔ ((a : Record) × In a rs × (a.number ≡ m) × Uses r a)
    gave_is m = (
      λ g. elim g [
        | inl (inl e) ↦ let a = (made m).0 e in (a.0, a.1, a.2, inl a.3)
        | inl (inr b) ↦ let a = (is.bound b.0 m).0 b.2 in (a.0, a.1, a.2, inr (inl (b.0, (b.1, a.3))))
        | inr b ↦ let a = b.2 in (a.0, a.1, a.2, inr (inr (b.0, ((b.1, λ own. new a.0 a.1 (sym a.3.0 ∙ own)), a.3))))
      ],
      λ a. gave_to m a.0 a.1 a.2 a.3,
    )

    pub room_given : ((a : Record) → In a rs → Uses r a → CanTake users a.number r.number) → (m : ℕ) → Gives rs binders maker r m → CanTake users m r.number
    room_given h m g = let a = (gave_is m).0 g in subst (λ n. CanTake users n r.number) a.2 (h a.0 a.1 a.3)

    module _ (users' : UsersByStep) (binders' : BindersByVariable)
        (put : (m n : ℕ) → IsUser users' m n ↔ (IsUser users m n ⊎ (Gives rs binders maker r m × (n ≡ r.number))))
        (bound : (x : VarName) → finite.get binders' x ≡ cond (is_some (value_at r.effect.binds x)) (Some r.number) (finite.get binders x))
        (fresh : (a : Record) (x : VarName) → In a rs → Binds a x → ¬ Binds r x) where
      used_put : (m n : ℕ) → IsUser users' m n ↔ StepDependsOn (rs ++ r ∷ []) n m
      used_put m n = (
        λ i. elim ((put m n).0 i) [
          | inl o ↦
              let d = (is.used m n).0 o in
              (d.0, d.1, d.2, d.3, (before_is (rs ++ r ∷ []) d.0 d.1 (before_left rs (r ∷ []) d.0 d.1 (is_before rs d.0 d.1 d.4.0)), d.4.1))
          | inr g ↦
              let a = (gave_is m).0 g.0 in
              (a.0, r, a.2, sym g.1, (before_is (rs ++ r ∷ []) a.0 r (before_across rs (r ∷ []) a.0 r a.1 (inl refl)), a.3))
        ],
        λ d. (put m n).1 (elim (before_last rs r d.0 d.1 (is_before (rs ++ r ∷ []) d.0 d.1 d.4.0)) [
          | inl before ↦ inl ((is.used m n).1 (d.0, d.1, d.2, d.3, (before_is rs d.0 d.1 before, d.4.1)))
          | inr last ↦ inr ((gave_is m).1 (d.0, last.0, d.2, subst (λ z. Uses z d.0) last.1 d.4.1), sym d.3 ∙ ap (λ z. z.number) last.1)
        ]),
      )

      bound_put : (x : VarName) (n : ℕ) → (finite.get binders' x ≡ Some n) ↔ StepBinds (rs ++ r ∷ []) n x
      bound_put x n = elim (cases_Bool (is_some (value_at r.effect.binds x))) [
        | inl here ↦
            let now : finite.get binders' x ≡ Some r.number = bound x ∙ ap (λ b. cond b (Some r.number) (finite.get binders x)) here in (
              λ e. (r, in_last rs r, one_value _ _ (sym now ∙ e), here),
              λ s. elim (in_more rs r s.0 s.1) [
                | inl i ↦ absurd (fresh s.0 x i s.3 here)
                | inr same ↦ now ∙ ap Some (ap (λ z. z.number) (sym same) ∙ s.2)
              ],
            )
        | inr other ↦
            let now : finite.get binders' x ≡ finite.get binders x = bound x ∙ ap (λ b. cond b (Some r.number) (finite.get binders x)) other in (
              λ e. let s = (is.bound x n).0 (sym now ∙ e) in (s.0, in_left rs (r ∷ []) s.0 s.1, s.2, s.3),
              λ s. elim (in_more rs r s.0 s.1) [
                | inl i ↦ now ∙ (is.bound x n).1 (s.0, i, s.2, s.3)
                | inr same ↦ absurd (not_both _ other (subst (λ z. Binds z x) same s.3))
              ],
            )
      ]

      pub index_put : IsIndexOf (rs ++ r ∷ []) users' binders'
      index_put = record { used = used_put; bound = bound_put }

-- a step is taken out
module _ (rs left : List Record) (users : UsersByStep) (binders : BindersByVariable) (is : IsIndexOf rs users binders) (r : Record) (there : In r rs) (distinct : AreDistinct (numbers rs))
    (rest : Picks (λ s. ¬ (s ≡ r)) rs left) (users' : UsersByStep) (binders' : BindersByVariable)
    (taken : (m n : ℕ) → IsUser users' m n ↔ ((IsUser users m n × ¬ (Gives left binders (step_named r.goal) r m × (n ≡ r.number))) × (m ≢ r.number)))
    (unbound : (x : VarName) → finite.get binders' x ≡ cond (is_some (value_at r.effect.binds x)) None (finite.get binders x)) where
  once : (a : Record) → In a rs → a.number ≡ r.number → a ≡ r
  once a i e = record_once rs a r distinct i there e

  still : (a : Record) → In a rs → ¬ (a ≡ r) → In a left
  still a i other = elim (picks_has rs left a rest i) [ inl j ↦ j | inr never ↦ absurd (never other) ]

  -- what the step used gave it something
  used_gave : (a : Record) (m : ℕ) → In a rs → a.number ≡ m → Uses r a → Gives left binders (step_named r.goal) r m
  used_gave a m i e (inl c) = inl (inl (ap step_named c.1 ∙ ap Some (c.2.0 ∙ e)))
  used_gave a m i e (inr (inl x)) = inl (inr (x.0, x.1.0, (is.bound x.0 m).1 (a, i, e, x.1.1)))
  used_gave a m i e (inr (inr x)) = inr (x.0, x.1.0.0, (a, still a i (λ same. x.1.0.1 (x.1.1.0 ∙ ap (λ z. z.number) same)), e, x.1.1))

  used_taken : (m n : ℕ) → IsUser users' m n ↔ StepDependsOn left n m
  used_taken m n = (
    λ i.
        let t = (taken m n).0 i in
        let d = (is.used m n).0 t.0.0 in
        let before = is_before rs d.0 d.1 d.4.0 in
        let both = before_in rs d.0 d.1 before in
        let first : ¬ (d.0 ≡ r) = λ same. t.1 (sym d.2 ∙ ap (λ z. z.number) same) in
        let second : ¬ (d.1 ≡ r) = λ same. t.0.1 (used_gave d.0 m both.0 d.2 (subst (λ z. Uses z d.0) same d.4.1), sym d.3 ∙ ap (λ z. z.number) same) in
        (d.0, d.1, d.2, d.3, (before_is left d.0 d.1 (picks_keep rs left d.0 d.1 (records_distinct rs distinct) rest (still d.0 both.0 first) (still d.1 both.1 second) before), d.4.1)),
    λ d.
        let before = is_before left d.0 d.1 d.4.0 in
        let both = before_in left d.0 d.1 before in
        let first = picks_in rs left d.0 rest both.0 in
        let second = picks_in rs left d.1 rest both.1 in
        (taken m n).1 (
          ((is.used m n).1 (d.0, d.1, d.2, d.3, (before_is rs d.0 d.1 (picks_order rs left d.0 d.1 rest before), d.4.1)), λ g. second.1 (once d.1 second.0 (d.3 ∙ g.1))),
          λ e. first.1 (once d.0 first.0 (d.2 ∙ e)),
        ),
  )

  bound_taken : (x : VarName) (n : ℕ) → (finite.get binders' x ≡ Some n) ↔ StepBinds left n x
  bound_taken x n = elim (cases_Bool (is_some (value_at r.effect.binds x))) [
    | inl here ↦
        let now : finite.get binders' x ≡ None = unbound x ∙ ap (λ b. cond b None (finite.get binders x)) here in (
          λ e. let never : None ≡ Some n = sym now ∙ e in cc,
          λ s.
              let i = picks_in rs left s.0 rest s.1 in
              let mine = (is.bound x r.number).1 (r, there, refl, here) in
              let its = (is.bound x n).1 (s.0, i.0, s.2, s.3) in
              absurd (i.1 (once s.0 i.0 (s.2 ∙ one_value _ _ (sym its ∙ mine)))),
        )
    | inr other ↦
        let now : finite.get binders' x ≡ finite.get binders x = unbound x ∙ ap (λ b. cond b None (finite.get binders x)) other in (
          λ e. let s = (is.bound x n).0 (sym now ∙ e) in (s.0, still s.0 s.1 (λ same. not_both _ other (subst (λ z. Binds z x) same s.3)), s.2, s.3),
          λ s. let i = picks_in rs left s.0 rest s.1 in now ∙ (is.bound x n).1 (s.0, i.0, s.2, s.3),
        )
  ]

  pub index_taken : IsIndexOf left users' binders'
  index_taken = record { used = used_taken; bound = bound_taken }

-- no steps
pub index_none : (users : UsersByStep) (binders : BindersByVariable) → users ≡ finite.empty → binders ≡ finite.empty → IsIndexOf [] users binders
index_none users binders e f =
    let nobody : (m : ℕ) → finite.get users m ≡ None = λ m. ap (λ z. finite.get z m) e ∙ finite.get-empty nat_cmp m in
    let nothing : (x : VarName) → finite.get binders x ≡ None = λ x. ap (λ z. finite.get z x) f ∙ finite.get-empty name_cmp x in record {
      used = λ m n. (λ i. absurd (subst (λ o. In n (numbers_in o)) (nobody m) i), λ d. absurd (is_before [] d.0 d.1 d.4.0));
      bound = λ x n. (λ q. let never : None ≡ Some n = sym (nothing x) ∙ q in cc, λ s. absurd s.1);
    }

-- the index of a record is that of one that is the same, and the users of a step are the same where they are listed anew
pub index_same : {rs : List Record} {users users' : UsersByStep} {binders binders' : BindersByVariable} → IsIndexOf rs users binders → ((m : ℕ) → users_at users' m ≡ users_at users m) → binders' ≡ binders → IsIndexOf rs users' binders'
index_same {rs} is same alike = record {
  used = λ m n. subst (λ l. In n l ↔ StepDependsOn rs n m) (sym (same m)) (is.used m n);
  bound = λ x n. subst (λ z. (finite.get z x ≡ Some n) ↔ StepBinds rs n x) (sym alike) (is.bound x n);
}

-- the goal that a step consumed is one, so its maker made the goal of that name
pub made_named : (r a : Record) (name : GoalName) → r.goal ≡ Some name → Consumes r a → MakesGoal a name
made_named r a name e c = let same : c.0 ≡ name = cc in subst (MakesGoal a) same c.2
