-- Goals by variable with one goal more or less.
use Rattle.ghc_hooks.proofs.Words.{◌≡◌, List, cond, false, refl, sym, ap, ◌∙◌, subst, inl, inr, Some, None, lookup, eq_by_cmp, VarName, GoalName, name_cmp, not_both, name_total, name_antisymmetric, itself, same, value_is, inserted, goal_cmp, GoalNames, GoalsByVariable, goals_in, goals_under, looks, HasOneMore, HasOneLess, arith}
use Rattle.std.specs.FinMap as finite
use Rattle.std.specs.FinSet as set
use Rattle.ghc_term.proofs.Entries.{same_is}
use Rattle.ghc_hooks.proofs.Looking.{name_cases, goal_put, goal_taken}
use Rattle.ghc_hooks.proofs.Few.{put_again, in_one, take_from_none, take_the_one, take_another}

-- under the other variables everything stays
module _ (x : VarName) (old new : GoalsByVariable) (apart : (y : VarName) → eq_by_cmp name_cmp y x ≡ false → goals_under new y ≡ goals_under old y) where
  elsewhere : (y : VarName) (h : GoalName) → eq_by_cmp name_cmp y x ≡ false → looks new y h ≡ looks old y h
  elsewhere y h d = ap (λ s. set.contains s h) (apart y d)

  pub one_put : (g : GoalName) → goals_under new x ≡ set.insert (goals_under old x) g → HasOneMore x g old new
  one_put g e y h = elim (name_cases y x) [
    | inl p ↦
        let now : looks new y h ≡ set.contains (set.insert (goals_under old x) g) h = ap (λ z. looks new z h) p ∙ ap (λ s. set.contains s h) e in
        let before : looks old y h ≡ set.contains (goals_under old x) h = ap (λ z. looks old z h) p in
        grind (arith, goal_put (goals_under old x) g h)
    | inr d ↦
        let other : ¬ (y ≡ x) = λ q. not_both (eq_by_cmp name_cmp y x) d (ap (λ z. eq_by_cmp name_cmp z x) q ∙ itself x) in
        grind (arith, elsewhere y h d)
  ]

  pub one_taken : (g : GoalName) → goals_under new x ≡ set.remove (goals_under old x) g → HasOneLess x g old new
  one_taken g e y h = elim (name_cases y x) [
    | inl p ↦
        let now : looks new y h ≡ set.contains (set.remove (goals_under old x) g) h = ap (λ z. looks new z h) p ∙ ap (λ s. set.contains s h) e in
        let before : looks old y h ≡ set.contains (goals_under old x) h = ap (λ z. looks old z h) p in
        grind (arith, goal_taken (goals_under old x) g h)
    | inr d ↦
        let other : ¬ (y ≡ x) = λ q. not_both (eq_by_cmp name_cmp y x) d (ap (λ z. eq_by_cmp name_cmp z x) q ∙ itself x) in
        grind (arith, elsewhere y h d)
  ]

  pub none_moved : goals_under new x ≡ goals_under old x → (y : VarName) (h : GoalName) → looks new y h ≡ looks old y h
  none_moved e y h = elim (name_cases y x) [
    | inl p ↦ ap (λ z. looks new z h) p ∙ ap (λ s. set.contains s h) e ∙ sym (ap (λ z. looks old z h) p)
    | inr d ↦ elsewhere y h d
  ]

-- the set under x is w from now on
module _ (m : GoalsByVariable) (x : VarName) (w : GoalNames) where
  abbrev pub with_set : GoalsByVariable
  with_set = record { several = finite.insert m.several x w; single = m.single }

  pub set_here : goals_under with_set x ≡ w
  set_here = ap (λ o. goals_in o (finite.get m.single x)) (finite.get-insert name_total m.several x w x ∙ ap (λ b. cond b (Some w) (finite.get m.several x)) (itself x))

  pub set_apart : (y : VarName) → eq_by_cmp name_cmp y x ≡ false → goals_under with_set y ≡ goals_under m y
  set_apart y d = ap (λ o. goals_in o (finite.get m.single y)) (finite.get-insert name_total m.several x w y ∙ ap (λ b. cond b (Some w) (finite.get m.several y)) d)

-- a variable that has one goal, or none, and no set
pub one_under : (m : GoalsByVariable) (x : VarName) (f : GoalName) → finite.get m.several x ≡ None → finite.get m.single x ≡ Some f → goals_under m x ≡ set.insert set.empty f
one_under m x f none first = ap (λ o. goals_in o (finite.get m.single x)) none ∙ ap (goals_in None) first

pub none_under : (m : GoalsByVariable) (x : VarName) → finite.get m.several x ≡ None → finite.get m.single x ≡ None → goals_under m x ≡ set.empty
none_under m x none bare = ap (λ o. goals_in o (finite.get m.single x)) none ∙ ap (goals_in None) bare

-- the entry of x is w from now on
module _ (es new : List (VarName × GoalNames)) (s : finite.FinMap name_cmp GoalName) (m : GoalsByVariable) (is : record { several = finite.from_entries es; single = s } ≡ m) (x : VarName) (w : GoalNames)
    (written : (q : VarName) → lookup (same q) new ≡ cond (same x q) (Some w) (lookup (same q) es)) where
  abbrev after : GoalsByVariable
  after = record { several = finite.from_entries new; single = s }

  now : with_set m x w ≡ after
  now =
      let sets : finite.from_entries new ≡ finite.insert m.several x w = inserted name_total name_antisymmetric same same_is es new x w written ∙ ap (λ z. finite.insert z.several x w) is in
      sym (λ i. record { several = sets i; single = ap (λ z. z.single) is i })

  pub put_in_set : (g : GoalName) → w ≡ set.insert (goals_under m x) g → HasOneMore x g m after
  put_in_set g e = subst (HasOneMore x g m) now (one_put x m (with_set m x w) (set_apart m x w) g (set_here m x w ∙ e))

  -- the variable gets a set with a second goal
  pub second_put : (f g : GoalName) → finite.get m.several x ≡ None → finite.get m.single x ≡ Some f
      → w ≡ set.insert (set.insert set.empty f) g → HasOneMore x g m after
  second_put f g none first e = put_in_set g (e ∙ ap (λ z. set.insert z g) (sym (one_under m x f none first)))

  -- it had the set old
  module _ (old : GoalNames) (had : Some old ≡ lookup (same x) es) where
    under : old ≡ goals_under m x
    under = ap (λ o. goals_in o (finite.get m.single x)) (had ∙ value_is name_total name_antisymmetric same same_is x es ∙ ap (λ z. finite.get z.several x) is)

    pub put_through : (g : GoalName) → w ≡ set.insert old g → HasOneMore x g m after
    put_through g e = put_in_set g (e ∙ ap (λ z. set.insert z g) under)

    pub take_through : (g : GoalName) → w ≡ set.remove old g → HasOneLess x g m after
    take_through g e = subst (HasOneLess x g m) now (one_taken x m (with_set m x w) (set_apart m x w) g (set_here m x w ∙ e ∙ ap (λ z. set.remove z g) under))

    pub keep_through : w ≡ old → (y : VarName) (h : GoalName) → looks after y h ≡ looks m y h
    keep_through e y h = ap (λ z. looks z y h) (sym now) ∙ none_moved x m (with_set m x w) (set_apart m x w) (set_here m x w ∙ e ∙ under) y h

    pub none_through : w ≡ set.empty → goals_under after x ≡ set.empty
    none_through e = ap (λ z. goals_under z x) (sym now) ∙ set_here m x w ∙ e

-- its goal is put there again
pub put_twice : (m : GoalsByVariable) (x : VarName) (f g : GoalName) → finite.get m.several x ≡ None → finite.get m.single x ≡ Some f → f ≡ g → HasOneMore x g m m
put_twice m x f g none first p =
    one_put x m m (λ y d. refl) g (put_again (goals_under m x) g (ap (λ s. set.contains s g) (one_under m x f none first ∙ ap (set.insert (set.empty {R = goal_cmp})) p) ∙ in_one g))

module _ (sets : finite.FinMap name_cmp GoalNames) (s : finite.FinMap name_cmp GoalName) (x : VarName) where
  abbrev before : GoalsByVariable
  before = record { several = sets; single = s }

  abbrev with : finite.FinMap name_cmp GoalName → GoalsByVariable
  with t = record { several = sets; single = t }

  first_put : (g : GoalName) → finite.get sets x ≡ None → finite.get s x ≡ None → HasOneMore x g before (with (finite.insert s x g))
  first_put g none bare =
      let new : GoalsByVariable = with (finite.insert s x g) in
      let here : finite.get (finite.insert s x g) x ≡ Some g = finite.get-insert name_total s x g x ∙ ap (λ b. cond b (Some g) (finite.get s x)) (itself x) in
      one_put x before new (λ y d. ap (goals_in (finite.get sets y)) (finite.get-insert name_total s x g y ∙ ap (λ b. cond b (Some g) (finite.get s y)) d)) g
      (one_under new x g none here ∙ ap (λ z. set.insert z g) (sym (none_under before x none bare)))

  single_taken : (g : GoalName) → finite.get sets x ≡ None → finite.get s x ≡ Some g → HasOneLess x g before (with (finite.remove s x))
  single_taken g none first =
      let new : GoalsByVariable = with (finite.remove s x) in
      let here : finite.get (finite.remove s x) x ≡ None = finite.get-remove name_total s x x ∙ ap (λ b. cond b None (finite.get s x)) (itself x) in
      one_taken x before new (λ y d. ap (goals_in (finite.get sets y)) (finite.get-remove name_total s x y ∙ ap (λ b. cond b None (finite.get s y)) d)) g
      (none_under new x none here ∙ take_the_one g ∙ ap (λ z. set.remove z g) (sym (one_under before x g none first)))

  -- it gets its first goal, or loses its only one
  module _ (m : GoalsByVariable) (is : before ≡ m) (g : GoalName) (none : finite.get m.several x ≡ None) (t : finite.FinMap name_cmp GoalName) where
    pub put_single : finite.get m.single x ≡ None → t ≡ finite.insert s x g → HasOneMore x g m (with t)
    put_single bare e = grind (arith, first_put)

    pub take_single : finite.get m.single x ≡ Some g → t ≡ finite.remove s x → HasOneLess x g m (with t)
    take_single first e =
        subst (λ z. HasOneLess x g z (with t)) is
        (subst (λ u. HasOneLess x g before (with u)) (sym e) (single_taken g (ap (λ z. finite.get z.several x) is ∙ none) (ap (λ z. finite.get z.single x) is ∙ first)))

-- a goal that does not stand there is taken
module _ (m : GoalsByVariable) (x : VarName) (g : GoalName) (none : finite.get m.several x ≡ None) where
  pub other_stays : (f : GoalName) → ¬ (f ≡ g) → finite.get m.single x ≡ Some f → HasOneLess x g m m
  other_stays f apart first =
      let one = one_under m x f none first in
      one_taken x m m (λ y d. refl) g (one ∙ take_another f g apart ∙ ap (λ z. set.remove z g) (sym one))

  pub none_stays : finite.get m.single x ≡ None → HasOneLess x g m m
  none_stays bare =
      let empty = none_under m x none bare in
      one_taken x m m (λ y d. refl) g (empty ∙ take_from_none g ∙ ap (λ z. set.remove z g) (sym empty))

-- a variable under which no goal stands can go
pub forgotten : (m : GoalsByVariable) (x : VarName) → goals_under m x ≡ set.empty → (y : VarName) (h : GoalName)
    → looks (record { several = finite.remove m.several x; single = finite.remove m.single x }) y h ≡ looks m y h
forgotten m x e = grind (arith, finite.get-remove, name_total, none_moved, none_under, itself)
