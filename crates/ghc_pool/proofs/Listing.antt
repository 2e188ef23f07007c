-- The last of the goals of which something holds.
use Rattle.ghc_pool.proofs.Words.{◌<◌, ℕ, List, [], ◌∷◌, ◌++◌, reverse, sym, ap, ◌∙◌, subst, inl, inr, arith, reverse-append, GoalName, In, in_right, AreThose, AreLast}
use Rattle.ghc_pool.specs.inner.Survey.{at_end, listed, passed}

module _ (P : GoalName → Type 0) where
  -- each that is listed is one of the goals, and P holds of it
  pub those_each : (goals list : List GoalName) → AreThose P goals list → (g : GoalName) → In g list → In g goals × P g
  those_each _ _ at_end g i = absurd i
  those_each _ _ (listed {g = h} p those) g (inl e) = (inl e, subst P (sym e) p)
  those_each (_ ∷ goals) (_ ∷ list) (listed p those) g (inr i) = let k = those_each goals list those g i in (inr k.0, k.1)
  those_each (_ ∷ goals) list (passed none those) g i = let k = those_each goals list those g i in (inr k.0, k.1)

  -- each of the goals of which P holds is listed
  pub those_all : (goals list : List GoalName) → AreThose P goals list → (g : GoalName) → In g goals → P g → In g list
  those_all _ _ at_end g i p = absurd i
  those_all (_ ∷ goals) (_ ∷ list) (listed q those) g (inl e) p = inl e
  those_all (_ ∷ goals) (_ ∷ list) (listed q those) g (inr i) p = inr (those_all goals list those g i p)
  those_all (_ ∷ goals) list (passed none those) g (inl e) p = absurd (none (subst P e p))
  those_all (_ ∷ goals) list (passed none those) g (inr i) p = those_all goals list those g i p

  -- a goal more, which is listed last, the last one first
  pub listed_before : (g : GoalName) (seen list : List GoalName) → P g → AreThose P seen (reverse list) → AreThose P (g ∷ seen) (reverse (list ++ g ∷ []))
  listed_before g seen list p those = subst (AreThose P (g ∷ seen)) (sym (reverse-append list (g ∷ []))) (listed p those)

  -- each that is listed as one of the last is one of the goals, and P holds of it
  pub last_each : (most : ℕ) (goals list : List GoalName) → AreLast P most goals list → (g : GoalName) → In g list → In g goals × P g
  last_each most goals list last g i =
      let k = those_each last.seen list last.those g i in
      (subst (In g) (sym last.split) (in_right last.before last.seen g k.0), k.1)

  -- where none is listed of one at least that was asked for, P holds of none
  pub last_none : (most : ℕ) (goals : List GoalName) → 0 < most → AreLast P most goals [] → (g : GoalName) → In g goals → ¬ P g
  last_none most goals some last g i p = elim last.enough [
    | inl all ↦ those_all last.seen [] last.those g (subst (In g) (last.split ∙ ap (λ before. before ++ last.seen) all) i) p
    | inr as_many ↦ absurd (omega (arith, some, as_many))
  ]
