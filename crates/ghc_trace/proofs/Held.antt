-- Holders are found one after another.
use Rattle.ghc_trace.proofs.Words.{◌≡◌, ℕ, ◌+◌, ◌⊎◌, ◌↔◌, List, [], ◌∷◌, ◌++◌, refl, sym, ap, ◌∙◌, subst, inl, inr, arith, Option, None, IsTrue, Bor, insert_key, Ordering, Less, Equal, Greater, nat_cmp, IsAntisymmetric, nat_cmp-IsAntisymmetric, VarName, GoalName, Goal, Tree, In, in_left, in_last, in_more, has_member, is_member, one_inserted, holds_nothing, State, value_at, goal_cmp}
use Rattle.std.specs.Ordering.{match_ordering}
use Rattle.std.specs.FinMap as finite
use Rattle.std.specs.FinSet as set
use Rattle.ghc_term.specs.Expression.{Expression, leaf, operation}
use Rattle.ghc_term.specs.Sets.{Variables, IsSetOf}
use Rattle.ghc_hooks.specs.Reached.{OneReaches}
use Rattle.ghc_term.specs.Bindings.{Reaches, name_cmp}
use Rattle.ghc_term.specs.Tree.{variable}
use Rattle.std.specs.List.Sorted.{IsStrictlySortedBy}
use Rattle.ghc_trace.specs.GoalLines.{Named}
use Rattle.ghc_trace.proofs.Lines.{listed, there}
use Rattle.ghc_trace.specs.declared.holding.Holder.{Holder}
use Rattle.ghc_trace.specs.Holding.{AreHolders, AreHoldersAmong, GoalReaches, goal_terms, HasGained, IsHeldBy, IsUnboundIn, holder_cmp}
use Rattle.ghc_term.proofs.Names.{both}

-- the parts of an expression
abbrev steps : Expression → ℕ
steps (leaf t) = 1
steps (operation o a b) = steps a + steps b + 1

-- the parts of expressions
abbrev pub parts : List (Bor Expression) → ℕ
parts [] = 0
parts (a ∷ rest) = steps a.now + parts rest

-- a key more, in its order
pub in_put : {K : Type 0} (cmp : K → K → Ordering) → IsAntisymmetric cmp → (ks : List K) (k p : K) → In p (insert_key cmp ks k) ↔ (In p ks ⊎ (p ≡ k))
in_put cmp one [] k p = (λ i. elim i [ inl e ↦ inr e | inr j ↦ absurd j ], λ c. elim c [ inl j ↦ absurd j | inr e ↦ inl e ])
in_put {K} cmp one (x ∷ xs) k p = by_order (cmp k x) (one k x) (insert_key cmp xs k) (in_put cmp one xs k p)
  where
    by_order : (o : Ordering) → (o ≡ Equal → k ≡ x) → (rest : List K) → (In p rest ↔ (In p xs ⊎ (p ≡ k))) → In p (match_ordering o (k ∷ x ∷ xs) (x ∷ xs) (x ∷ rest)) ↔ (In p (x ∷ xs) ⊎ (p ≡ k))
    by_order Less h rest more = grind arith
    by_order Equal h rest more = let same : k ≡ x = h refl in (λ i. inl i, λ c. elim c [ inl i ↦ i | inr e ↦ inl (e ∙ same) ])
    by_order Greater h rest more = grind (arith, more.0, more.1)

one_name : (x y : VarName) → name_cmp x y ≡ Equal → x ≡ y
one_name x y e =
    let parts = both (nat_cmp x.step y.step) (nat_cmp x.place y.place) e in
    let steps = nat_cmp-IsAntisymmetric x.step y.step parts.0 in
    let places = nat_cmp-IsAntisymmetric x.place y.place parts.1 in
    λ i. record { step = steps i; place = places i }

one_goal : (g h : GoalName) → goal_cmp g h ≡ Equal → g ≡ h
one_goal g h e =
    let parts = both (nat_cmp g.step h.step) (nat_cmp g.place h.place) e in
    let steps = nat_cmp-IsAntisymmetric g.step h.step parts.0 in
    let places = nat_cmp-IsAntisymmetric g.place h.place parts.1 in
    λ i. record { step = steps i; place = places i }

pub one_holder : IsAntisymmetric holder_cmp
one_holder h k e =
    let parts = both (name_cmp h.variable k.variable) (goal_cmp h.goal k.goal) e in
    let names = one_name h.variable k.variable parts.0 in
    let goals = one_goal h.goal k.goal parts.1 in
    λ i. record { variable = names i; goal = goals i }

-- the holders of these variables, which the goal reaches
abbrev pub IsHeldAmong : Variables → List VarName → GoalName → Holder → Type 0
IsHeldAmong unbound ys g h = (h.goal ≡ g) × IsTrue (set.contains unbound h.variable) × In h.variable ys

pub held_still : (unbound : Variables) (ys : List VarName) (y : VarName) (g : GoalName) (old new : List Holder) → ¬ IsTrue (set.contains unbound y) → HasGained old new (IsHeldAmong unbound ys g)
    → HasGained old new (IsHeldAmong unbound (ys ++ y ∷ []) g)
held_still unbound ys y g old new not has h = (
  λ i. elim ((has h).0 i) [ inl j ↦ inl j | inr q ↦ inr (q.0, q.1, in_left ys (y ∷ []) h.variable q.2) ],
  λ c. (has h).1 (elim c [
    | inl j ↦ inl j
    | inr q ↦ elim (in_more ys y h.variable q.2) [ inl k ↦ inr (q.0, q.1, k) | inr e ↦ absurd (not (subst (λ z. IsTrue (set.contains unbound z)) e q.1)) ]
  ]),
)

pub held_more : (unbound : Variables) (ys : List VarName) (y : VarName) (g : GoalName) (old ks : List Holder) → IsTrue (set.contains unbound y) → HasGained old ks (IsHeldAmong unbound ys g)
    → HasGained old (insert_key holder_cmp ks (record { variable = y; goal = g })) (IsHeldAmong unbound (ys ++ y ∷ []) g)
held_more unbound ys y g old ks there has h =
    let k : Holder = record { variable = y; goal = g } in
    let put = in_put holder_cmp one_holder ks k h in (
      λ i. elim (put.0 i) [
        | inl j ↦ elim ((has h).0 j) [ inl o ↦ inl o | inr q ↦ inr (q.0, q.1, in_left ys (y ∷ []) h.variable q.2) ]
        | inr e ↦ inr (
          ap (λ z. z.goal) e,
          subst (λ z. IsTrue (set.contains unbound z)) (sym (ap (λ z. z.variable) e)) there,
          subst (λ z. In z (ys ++ y ∷ [])) (sym (ap (λ z. z.variable) e)) (in_last ys y),
        )
      ],
      λ c. put.1 (elim c [
        | inl o ↦ inl ((has h).1 (inl o))
        | inr q ↦ elim (in_more ys y h.variable q.2) [
          | inl j ↦ inl ((has h).1 (inr (q.0, q.1, j)))
          | inr e ↦ inr (λ i. record { variable = e i; goal = q.0 i })
        ]
      ]),
    )

pub held_all : (unbound reached : Variables) (ys : List VarName) (g : GoalName) (old new : List Holder) → set.from_list ys ≡ reached → HasGained old new (IsHeldAmong unbound ys g)
    → HasGained old new (IsHeldBy unbound reached g)
held_all unbound reached ys g old new all has h = (
  λ i. elim ((has h).0 i) [ inl j ↦ inl j | inr q ↦ inr (q.0, q.1, has_member reached ys all h.variable q.2) ],
  λ c. (has h).1 (elim c [ inl j ↦ inl j | inr q ↦ inr (q.0, q.1, is_member reached ys all h.variable q.2) ]),
)

-- the unbound ones of these variables
abbrev pub AreUnboundOf : (VarName → Option Tree) → List VarName → Variables → Type 0
AreUnboundOf S ys unbound = (y : VarName) → IsTrue (set.contains unbound y) ↔ (In y ys × (S y ≡ None))

pub none_unbound : (S : VarName → Option Tree) (unbound : Variables) → unbound ≡ set.empty → AreUnboundOf S [] unbound
none_unbound S unbound e y = (λ i. absurd (holds_nothing unbound e y i), λ q. absurd q.0)

pub bound_one : (S : VarName → Option Tree) (ys : List VarName) (y : VarName) (unbound : Variables) → ¬ (S y ≡ None) → AreUnboundOf S ys unbound → AreUnboundOf S (ys ++ y ∷ []) unbound
bound_one S ys y unbound bound has z = (
  λ i. let q = (has z).0 i in (in_left ys (y ∷ []) z q.0, q.1),
  λ q. elim (in_more ys y z q.0) [ inl i ↦ (has z).1 (i, q.1) | inr e ↦ absurd (bound (subst (λ v. S v ≡ None) e q.1)) ],
)

pub unbound_one : (S : VarName → Option Tree) (ys : List VarName) (y : VarName) (unbound : Variables) → S y ≡ None → AreUnboundOf S ys unbound → AreUnboundOf S (ys ++ y ∷ []) (set.insert unbound y)
unbound_one S ys y unbound free has z =
    let one = one_inserted unbound y z in (
      λ i. elim (one.0 i) [
        | inl j ↦ let q = (has z).0 j in (in_left ys (y ∷ []) z q.0, q.1)
        | inr e ↦ (subst (λ v. In v (ys ++ y ∷ [])) (sym e) (in_last ys y), subst (λ v. S v ≡ None) (sym e) free)
      ],
      λ q. one.1 (elim (in_more ys y z q.0) [ inl i ↦ inl ((has z).1 (i, q.1)) | inr e ↦ inr e ]),
    )

pub all_unbound : (S : VarName → Option Tree) (x : VarName) (ys : List VarName) (reached unbound : Variables) → set.from_list ys ≡ reached → IsSetOf reached (Reaches S (variable x)) → AreUnboundOf S ys unbound
    → IsSetOf unbound (IsUnboundIn S x)
all_unbound S x ys reached unbound all is has y = (
  λ i. let q = (has y).0 i in ((is y).0 (has_member reached ys all y q.0), q.1),
  λ q. (has y).1 (is_member reached ys all y ((is y).1 q.0), q.1),
)

-- the holders among these goals
abbrev pub IsHeldOfThem : (VarName → Option Tree) → Variables → List Named → Holder → Type 0
IsHeldOfThem S unbound done h = IsTrue (set.contains unbound h.variable) × ((goal : Named) × In goal done × (h.goal ≡ goal.0) × GoalReaches S goal.1 h.variable)

pub held_of_none : (S : VarName → Option Tree) (unbound : Variables) → HasGained [] [] (IsHeldOfThem S unbound [])
held_of_none S unbound h = (λ i. inl i, λ c. elim c [ inl i ↦ i | inr q ↦ absurd q.1.1 ])

pub held_of_more : (S : VarName → Option Tree) (unbound reached : Variables) (done : List Named) (goal : Named) (ks new : List Holder) → IsSetOf reached (GoalReaches S goal.1)
    → HasGained [] ks (IsHeldOfThem S unbound done) → HasGained ks new (IsHeldBy unbound reached goal.0) → HasGained [] new (IsHeldOfThem S unbound (done ++ goal ∷ []))
held_of_more S unbound reached done goal ks new is has put h = (
  λ i. elim ((put h).0 i) [
    | inl j ↦ elim ((has h).0 j) [ inl o ↦ inl o | inr q ↦ inr (q.0, (q.1.0, in_left done (goal ∷ []) q.1.0 q.1.1, q.1.2, q.1.3)) ]
    | inr q ↦ inr (q.1, (goal, in_last done goal, q.0, (is h.variable).0 q.2))
  ],
  λ c. (put h).1 (elim c [
    | inl o ↦ inl ((has h).1 (inl o))
    | inr q ↦ elim (in_more done goal q.1.0 q.1.1) [
      | inl j ↦ inl ((has h).1 (inr (q.0, (q.1.0, j, q.1.2, q.1.3))))
      | inr e ↦ inr (q.1.2 ∙ ap (λ n. n.0) e, q.0, (is h.variable).1 (subst (λ (n : Named). GoalReaches S n.1 h.variable) e q.1.3))
    ]
  ]),
)

pub among_are : (t : State) (xs : Variables) (hs : List Holder) → HasGained [] hs (IsHeldOfThem (value_at t.store) xs (finite.entries t.goals)) → IsStrictlySortedBy holder_cmp hs → AreHoldersAmong t xs hs
among_are t xs hs has sorted = (
  sorted,
  λ h. (
    λ i. elim ((has h).0 i) [
      | inl none ↦ absurd none
      | inr q ↦
          let goal = q.1.0 in
          (q.0, (goal.1, ap (finite.get t.goals) q.1.2 ∙ listed t.goals goal q.1.1, q.1.3))
    ],
    λ c. (has h).1 (inr (c.0, ((h.goal, c.1.0), there t.goals h.goal c.1.0 c.1.1, refl, c.1.2))),
  ),
)

-- no variable is held
pub none_among : (t : State) (xs : Variables) (ys : List VarName) → set.from_list ys ≡ xs → ys ≡ [] → AreHoldersAmong t xs []
unfolding IsStrictlySortedBy
none_among t xs ys all none = (tt, λ h. (λ i. absurd i, λ q. absurd (subst (In h.variable) none (is_member xs ys all h.variable q.0))))

pub holders_are : (t : State) (x : VarName) (unbound : Variables) (hs : List Holder) → IsSetOf unbound (IsUnboundIn (value_at t.store) x) → AreHoldersAmong t unbound hs → AreHolders t x hs
holders_are t x unbound hs is among = (among.0, λ h. (λ i. let q = (among.1 h).0 i in ((is h.variable).0 q.0, q.1), λ c. (among.1 h).1 ((is h.variable).1 c.0, c.1)))

-- what is reached of a goal's terms
pub reached_of : (S : VarName → Option Tree) (b : Goal) (ts : List Tree) (xs : Variables) → goal_terms b ≡ ts → IsSetOf xs (OneReaches S ts) → IsSetOf xs (GoalReaches S b)
reached_of S b ts xs e s = subst (λ l. IsSetOf xs (OneReaches S l)) (sym e) s
