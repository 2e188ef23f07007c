-- The parts of the tries fit each other after a change.
use Rattle.ghc_hooks.proofs.Words.{◌≡◌, ◌+◌, false, cond, List, sym, ap, ◌∙◌, inl, inr, ◌⊎◌, arith, ◌↔◌, Some, None, IsTrue, is_some, eq_by_cmp, VarName, GoalName, name_cmp, has_member, is_member, goal_cmp, goal_total, goal_antisymmetric, Note, NotesByGoal, HasLookedAt, GoalsByVariable, looks, one_value, subst}
use Rattle.std.specs.FinMap as finite
use Rattle.std.specs.FinSet as set
use Rattle.ghc_term.proofs.GoalNames.{apart}
use Rattle.ghc_hooks.proofs.Looking.{goal_itself, goal_cases}
use Rattle.ghc_hooks.proofs.NotedFaces.{grown, shrunk}
use Rattle.ghc_hooks.proofs.LookingAll.{HasBesides, HasWithout}

module _ (m : NotesByGoal) (g : GoalName) where
  -- a map with one note more or less
  pub put_here : (n : Note) → finite.get (finite.insert m g n) g ≡ Some n
  put_here n = finite.get-insert goal_total m g n g ∙ ap (λ b. cond b (Some n) (finite.get m g)) (goal_itself g)

  pub put_elsewhere : (n : Note) (h : GoalName) → eq_by_cmp goal_cmp h g ≡ false → finite.get (finite.insert m g n) h ≡ finite.get m h
  put_elsewhere n h d = finite.get-insert goal_total m g n h ∙ ap (λ b. cond b (Some n) (finite.get m h)) d

  pub gone_here : finite.get (finite.remove m g) g ≡ None
  gone_here = finite.get-remove goal_total m g g ∙ ap (λ b. cond b None (finite.get m g)) (goal_itself g)

  pub gone_elsewhere : (h : GoalName) → eq_by_cmp goal_cmp h g ≡ false → finite.get (finite.remove m g) h ≡ finite.get m h
  gone_elsewhere h d = finite.get-remove goal_total m g h ∙ ap (λ b. cond b None (finite.get m h)) d

  -- a goal without a note has none to lose
  pub nothing_gone : finite.get m g ≡ None → finite.remove m g ≡ m
  nothing_gone e = finite.same_map goal_total goal_antisymmetric (finite.remove m g) m (λ h. grind (arith, goal_cases h g, gone_here, gone_elsewhere h))

  -- how many notes there are
  pub one_more_note : (n : Note) → finite.get m g ≡ None → finite.len (finite.insert m g n) ≡ finite.len m + 1
  one_more_note n e = finite.len-insert goal_total m g n ∙ ap (λ o. cond (is_some o) (finite.len m) (finite.len m + 1)) e

  pub one_note_less : (n : Note) → finite.get m g ≡ Some n → finite.len (finite.remove m g) + 1 ≡ finite.len m
  one_note_less n e = grind (arith, finite.len-remove, goal_total, finite.get-empty, finite.empty_of_len)

pub same_note : {a b : Note} → Some a ≡ Some b → a ≡ b
same_note e = cc

-- which goals have a note of which P holds, after a change of the notes
abbrev pub AreNoted : (Note → Type 0) → NotesByGoal → GoalName → Type 0
AreNoted P m h = (n : Note) × (finite.get m h ≡ Some n) × P n

module _ (P : Note → Type 0) (m : NotesByGoal) (g h : GoalName) where
  pub noted_put : (n : Note) → finite.get m g ≡ None → AreNoted P (finite.insert m g n) h ↔ (AreNoted P m h ⊎ (P n × (h ≡ g)))
  noted_put n none = (
    λ k. elim (goal_cases h g) as (λ _. AreNoted P m h ⊎ (P n × (h ≡ g))) [
      | inl p ↦ inr (subst P (same_note (sym k.1 ∙ ap (finite.get (finite.insert m g n)) p ∙ put_here m g n)) k.2, p)
      | inr d ↦ inl (k.0, sym (put_elsewhere m g n h d) ∙ k.1, k.2)
    ],
    λ k. elim k [
      | inl l ↦
          let other : ¬ (h ≡ g) = λ p. (let clash : None ≡ Some l.0 = sym none ∙ ap (finite.get m) (sym p) ∙ l.1 in cc) in
          (l.0, put_elsewhere m g n h (apart h g other) ∙ l.1, l.2)
      | inr q ↦ (n, ap (finite.get (finite.insert m g n)) q.1 ∙ put_here m g n, q.0)
    ],
  )

  pub noted_gone : AreNoted P (finite.remove m g) h ↔ (AreNoted P m h × ¬ (h ≡ g))
  noted_gone = (
    λ k.
        let other : ¬ (h ≡ g) = λ p. (let clash : None ≡ Some k.0 = sym (gone_here m g) ∙ ap (finite.get (finite.remove m g)) (sym p) ∙ k.1 in cc) in
        ((k.0, sym (gone_elsewhere m g h (apart h g other)) ∙ k.1, k.2), other),
    λ k. let l = k.0 in (l.0, gone_elsewhere m g h (apart h g k.1) ∙ l.1, l.2),
  )

-- the goals by variable follow the notes
abbrev pub Follows : NotesByGoal → GoalsByVariable → Type 0
Follows m by_variable = (x : VarName) (h : GoalName) → IsTrue (looks by_variable x h) ↔ HasLookedAt m x h

module _ (m : NotesByGoal) (old new : GoalsByVariable) (g : GoalName) (n : Note) (xs : List VarName) (all : set.from_list {R = name_cmp} xs ≡ n.looked) (follows : Follows m old) where
  pub follows_put : finite.get m g ≡ None → HasBesides old xs g new → Follows (finite.insert m g n) new
  follows_put none more x h =
      grown (more x h) (follows x h) (noted_put (λ z. IsTrue (set.contains z.looked x)) m g h n none)
      (λ p. (has_member n.looked xs all x p.0, p.1), λ p. (is_member n.looked xs all x p.0, p.1))

  pub follows_gone : finite.get m g ≡ Some n → HasWithout old xs g new → Follows (finite.remove m g) new
  follows_gone there less x h = shrunk (less x h) (follows x h) (noted_gone (λ z. IsTrue (set.contains z.looked x)) m g h) (λ p. p.1)
      (λ l e. (is_member n.looked xs all x (rw (one_value l.0 n (sym l.1 ∙ ap (finite.get m) e ∙ there)) at l.2), e))
