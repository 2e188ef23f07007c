-- Which goals descend from which: the goals above one stand in a line, and none descends from itself.
use Rattle.ghc_trace.proofs.Words.{◌≡◌, ◌⊎◌, List, Some, refl, ap, ◌∙◌, subst, inl, inr, GoalName, In, Program, Query, State, Record, MakesGoal, Replays, Descends, itself, made_by, same_value}
use Rattle.ghc_records.proofs.OrderLemmas.{before_once, records_distinct}
use Rattle.ghc_depend.proofs.Parting.{behind_descent, maker_once}

pub descends_on : (rs : List Record) (a b c : GoalName) → Descends rs a b → Descends rs b c → Descends rs a c
descends_on rs a b c d itself = d
descends_on rs a b c d (made_by {h = m} r i makes took e) = made_by r i makes took (descends_on rs a b m d e)

-- what descends from a goal is that goal, or descends from one that its step made
pub first_step : (rs : List Record) (a b : GoalName) → Descends rs a b → (b ≡ a) ⊎ ((r : Record) × (h : GoalName) × In r rs × (r.goal ≡ Some a) × MakesGoal r h × Descends rs h b)
first_step rs a b itself = inl refl
first_step rs a b (made_by {h = m} r i makes took d) = elim (first_step rs a m d) [
  | inl same ↦ inr (r, b, i, took ∙ ap Some same, makes, itself)
  | inr p ↦ inr (p.0, p.1, p.2, p.3, p.4, made_by r i makes took p.5)
]

module _ (P : Program) (query : Query) (rs : List Record) (t : State) (replay : Replays P query rs t) where
  -- a goal does not descend from what its step made
  pub no_way_back : (r : Record) (a h : GoalName) → In r rs → r.goal ≡ Some a → MakesGoal r h → ¬ Descends rs h a
  no_way_back r a h i took makes d =
      let before = behind_descent P query rs t replay r h i makes a d r i took in
      before_once rs r r (records_distinct rs replay.0.1) before before

  pub no_circle : (a b : GoalName) → Descends rs a b → Descends rs b a → b ≡ a
  no_circle a b d e = elim (first_step rs a b d) [
    | inl same ↦ same
    | inr p ↦ absurd (no_way_back p.0 a p.1 p.2 p.3 p.4 (descends_on rs p.1 b a p.5 e))
  ]

  -- of two goals from which a third descends, one descends from the other
  pub in_line : (a b c : GoalName) → Descends rs a c → Descends rs b c → Descends rs a b ⊎ Descends rs b a
  in_line a b c itself e = inr e
  in_line a b c d itself = inl d
  in_line a b c (made_by {h = m} q i makes took d) (made_by {h = n} p j makes' took' e) =
      let one = maker_once P query rs t replay p q c j i makes' makes in
      let same : n ≡ m = same_value took' (ap (λ (z : Record). z.goal) one ∙ took) in
      in_line a b m d (subst (λ z. Descends rs b z) same e)
