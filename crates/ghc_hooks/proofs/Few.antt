-- Sets of one goal, and goals that are put in where they are, or taken out where they are not.
use Rattle.ghc_hooks.proofs.Words.{◌≡◌, ◌+◌, [], ◌∷◌, ◌⊎◌, Bool, cond, not, true, false, eq_by_cmp, same_is, same_goal, refl, sym, ap, ◌∙◌, inl, inr, arith, ◌↔◌, IsTrue, GoalName, not_both, goal_cmp, goal_total, goal_antisymmetric, GoalNames, agree}
use Rattle.std.specs.FinSet as set
use Rattle.std.proofs.lemmas.Bool.{false_from_ne_true}
use Rattle.ghc_fire.proofs.GoalNames.{same}
use Rattle.ghc_hooks.proofs.Looking.{goal_put, goal_taken, goal_in_set, set_in_goals, goal_itself}

pub same_goals : (s t : GoalNames) → ((h : GoalName) → IsTrue (set.contains s h) ↔ IsTrue (set.contains t h)) → s ≡ t
same_goals s t both = set.same_set goal_total goal_antisymmetric s t (λ h. agree (set.contains s h) (set.contains t h) (both h).0 (both h).1)

-- putting in what is there, and taking out what is not, changes nothing
pub put_again : (s : GoalNames) (g : GoalName) → IsTrue (set.contains s g) → s ≡ set.insert s g
put_again s g there = same_goals s (set.insert s g) (λ h. grind (arith, goal_put s g h))

pub take_absent : (s : GoalNames) (g : GoalName) → ¬ IsTrue (set.contains s g) → s ≡ set.remove s g
take_absent s g absent = same_goals s (set.remove s g) (λ h. grind (arith, goal_taken s g h))

nothing_there : (h : GoalName) → ¬ IsTrue (set.contains (set.empty {R = goal_cmp}) h)
nothing_there h k = not_both (set.contains (set.empty {R = goal_cmp}) h) (set.contains-empty goal_cmp h) k

pub in_one : (g : GoalName) → IsTrue (set.contains (set.insert (set.empty {R = goal_cmp}) g) g)
in_one g = (goal_put set.empty g g).1 (inr refl)

only_one : (g h : GoalName) → IsTrue (set.contains (set.insert (set.empty {R = goal_cmp}) g) h) → h ≡ g
only_one g h k = elim ((goal_put set.empty g h).0 k) [ inl c ↦ absurd (nothing_there h c) | inr e ↦ e ]

pub take_from_none : (g : GoalName) → set.empty {R = goal_cmp} ≡ set.remove set.empty g
take_from_none g = take_absent set.empty g (nothing_there g)

pub take_the_one : (g : GoalName) → set.empty {R = goal_cmp} ≡ set.remove (set.insert set.empty g) g
take_the_one g = same_goals set.empty (set.remove (set.insert set.empty g) g) (λ h.
    grind (arith, goal_taken (set.insert set.empty g) g h, nothing_there h, only_one g h))

pub take_another : (o g : GoalName) → ¬ (o ≡ g) → set.insert (set.empty {R = goal_cmp}) o ≡ set.remove (set.insert set.empty o) g
take_another o g apart = take_absent (set.insert set.empty o) g (λ k. apart (sym (only_one o g k)))

pub one_counted : (g : GoalName) → 1 ≡ set.len (set.insert (set.empty {R = goal_cmp}) g)
one_counted g = grind (arith, set.len-insert, goal_total, set.contains-empty, set.len-empty)

-- one goal is something
pub one_is_something : (g : GoalName) → ¬ (set.insert (set.empty {R = goal_cmp}) g ≡ set.empty)
one_is_something g e = nothing_there g (ap (λ s. set.contains s g) (sym e) ∙ in_one g)

by_not : (b : Bool) → not b ≡ false → b ≡ true
by_not true e = refl
by_not false e = sym e

-- the test of names tells that they differ, or are one
pub differ : (g h : GoalName) (b : Bool) → b ≡ not (same g h) → b ≡ true → ¬ (g ≡ h)
differ g h b e t p = not_both b (e ∙ ap not (same_is g h ∙ ap (λ z. eq_by_cmp goal_cmp z h) p ∙ goal_itself h)) t

pub alike : (g h : GoalName) (b : Bool) → b ≡ not (same g h) → b ≡ false → g ≡ h
alike g h b e f = same_goal g h (sym (same_is g h) ∙ by_not (same g h) (sym e ∙ f))

-- two goals
abbrev pub pair : GoalName → GoalName → GoalNames
pair f s = set.from_list (f ∷ s ∷ [])

in_pair : (f s h : GoalName) → IsTrue (set.contains (pair f s) h) ↔ ((h ≡ f) ⊎ (h ≡ s))
in_pair f s h = (
  λ k. elim (set_in_goals h (f ∷ s ∷ []) k) [ inl e ↦ inl e | inr i ↦ elim i [ inl e ↦ inr e | inr none ↦ absurd none ] ],
  λ k. goal_in_set h (f ∷ s ∷ []) (elim k [ inl e ↦ inl e | inr e ↦ inr (inl e) ]),
)

pub pair_is : (f s : GoalName) → pair f s ≡ set.insert (set.insert set.empty f) s
pair_is f s = same_goals (pair f s) (set.insert (set.insert set.empty f) s) (λ h. grind (arith, in_pair f s h, goal_put (set.insert set.empty f) s h, only_one f h, in_one f))

pub pair_counted : (f s : GoalName) → ¬ (f ≡ s) → set.len (pair f s) ≡ 2
pair_counted f s apart =
    let absent : set.contains (set.insert (set.empty {R = goal_cmp}) f) s ≡ false = false_from_ne_true _ (λ k. apart (sym (only_one f s k))) in
    let grown = set.len-insert goal_total (set.insert set.empty f) s ∙ ap (λ b. cond b (set.len (set.insert (set.empty {R = goal_cmp}) f)) (set.len (set.insert (set.empty {R = goal_cmp}) f) + 1)) absent in
    omega (arith, ap set.len (pair_is f s), grown, one_counted f)

-- and where they are counted as two, they are not one
pub pair_apart : (f s : GoalName) → set.len (pair f s) ≡ 2 → ¬ (f ≡ s)
pair_apart f s two e =
    let one : set.insert (set.empty {R = goal_cmp}) f ≡ pair f s = put_again (set.insert set.empty f) s (ap (set.contains (set.insert set.empty f)) (sym e) ∙ in_one f) ∙ sym (pair_is f s) in
    omega (arith, two, ap set.len one, one_counted f)

pub put_first : (f s : GoalName) → pair f s ≡ set.insert (pair f s) f
put_first f s = put_again (pair f s) f ((in_pair f s f).1 (inl refl))

pub put_second : (f s : GoalName) → pair f s ≡ set.insert (pair f s) s
put_second f s = put_again (pair f s) s ((in_pair f s s).1 (inr refl))

module _ (f s : GoalName) (apart : ¬ (f ≡ s)) where
  pub take_first : set.insert (set.empty {R = goal_cmp}) s ≡ set.remove (pair f s) f
  take_first = same_goals (set.insert set.empty s) (set.remove (pair f s) f) (λ h. grind (arith, goal_taken (pair f s) f h, in_pair f s h, only_one s h, in_one s))

  pub take_second : set.insert (set.empty {R = goal_cmp}) f ≡ set.remove (pair f s) s
  take_second = same_goals (set.insert set.empty f) (set.remove (pair f s) s) (λ h. grind (arith, goal_taken (pair f s) s h, in_pair f s h, only_one f h, in_one f))

pub take_neither : (f s g : GoalName) → ¬ (f ≡ g) → ¬ (s ≡ g) → pair f s ≡ set.remove (pair f s) g
take_neither f s g a b = take_absent (pair f s) g (λ k. elim ((in_pair f s g).0 k) [ inl e ↦ a (sym e) | inr e ↦ b (sym e) ])
