-- The law of deletion.
use Rattle.ghc_depend.proofs.Words.{◌≡◌, ◌⊎◌, List, ◌∷◌, refl, sym, ◌∙◌, subst, inl, inr, arith, VarName, In, IsAcyclic, value_at, in_right, Program, Query, IsQuery, State, Record, Replays, is_before, records_distinct, of_query, replay_well, Consumes, ReadsFrom, NamesFrom, DependsOn, directly, further, IsClosedUnder, IsPartedBy, IsWithoutSteps, LawOfDeletion}
use Rattle.ghc_depend.proofs.Finding.{ends}
use Rattle.ghc_depend.proofs.Results.{taken_at, step_binds, bound_by, is_old}
use Rattle.ghc_depend.proofs.Placing.{Place, place_of, front_in, bound_once, numbered_once}
use Rattle.ghc_depend.proofs.Picking.{stands_in_front, picks_in, picks_has, picks_keep, picks_distinct}
use Rattle.ghc_depend.proofs.Working.{StandBehind, works}
use Rattle.ghc_depend.proofs.Comparing.{bound_value, without}

module _ (P : Program) (query : Query) (rs : List Record) (t : State) (replay : Replays P query rs t) (D : Record → Type 0) (gone left : List Record) (parts : IsPartedBy rs D gone left) where
  pub of_gone : (r : Record) → In r gone → In r rs
  of_gone r i = (picks_in rs gone r parts.0 i).0

  pub of_left : (r : Record) → In r left → In r rs
  of_left r i = (picks_in rs left r parts.1 i).0

  pub apart : (r : Record) → In r gone → ¬ In r left
  apart r i j = (picks_in rs left r parts.1 j).1 (picks_in rs gone r parts.0 i).1

  pub parted : (r : Record) → In r rs → In r gone ⊎ In r left
  parted r i = grind (arith, picks_has rs gone r parts.0 i, picks_has rs left r parts.1 i)

  -- where the set is closed, each step left stands after all on which it depends
  behind : IsClosedUnder rs D → StandBehind rs left
  behind shut front back r a e d =
      let r_left : In r left = subst (In r) (sym e) (in_right front (r ∷ back) r (inl refl)) in
      let before = is_before rs a r d.0 in
      elim (parted a (ends rs r a d).0) [
        | inl i ↦ absurd ((picks_in rs left r parts.1 r_left).1 (shut a r (picks_in rs gone a parts.0 i).1 (directly d)))
        | inr i ↦ stands_in_front left front back r a (records_distinct left (picks_distinct rs left parts.1 replay.0.1)) e
            (picks_keep rs left a r (records_distinct rs replay.0.1) parts.1 i r_left before)
      ]

  pub replays : IsAcyclic (value_at t.store) → IsClosedUnder rs D → (u : State) × Replays P query left u × IsWithoutSteps gone t u
  replays acyclic shut =
      let w = works P query rs t replay acyclic left of_left (picks_distinct rs left parts.1 replay.0.1) (behind shut) in
      (w.0, w.1, without P query rs gone left t w.0 replay w.2 parted apart of_gone of_left)

  module _ (asked : IsQuery P query) (u : State) (rest : Replays P query left u) where
    -- a step left has its place among the steps left
    place : (b : Record) → In b left → Place P query left b
    place b i = place_of P query left u rest b i

    made_by_left : (b a : Record) → In a gone → In b left → ¬ Consumes b a
    made_by_left b a i j c =
        let p = place b j in
        let k = taken_at P p.state b p.fires c.0 c.1 in
        elim (is_old query p.before p.state p.results c.0 k.0 k.1) [
          | inl zero_step ↦ let number = c.2.0 in let positive = (replay.0.0 a (of_gone a i)).0 in omega arith
          | inr m ↦
              let m_left = front_in P query left u rest b m.0 p m.1 in
              apart m.0 (subst (λ z. In z gone) (sym (numbered_once P query rs t replay a m.0 (of_gone a i) (of_left m.0 m_left) (sym c.2.0 ∙ m.2))) i) m_left
        ]

    bound_by_left : (b a : Record) (x : VarName) → In a gone → In b left → ¬ ReadsFrom b a x
    bound_by_left b a x i j r =
        let p = place b j in
        let w = (step_binds P p.state b p.fires).reads_bound x r.0 in
        let c = bound_by query p.before p.state p.results x w.0 w.1 in
        let v = bound_value a x r.1 in
        let c_left = front_in P query left u rest b c.0 p c.1 in
        apart c.0 (subst (λ z. In z gone) (sym (bound_once P query rs t replay a c.0 x v.0 w.0 (of_gone a i) (of_left c.0 c_left) v.1 c.2)) i) c_left

    -- what a step left names was made by a step left
    named_by_left : (b a : Record) (x : VarName) → In a gone → In b left → ¬ NamesFrom b a x
    named_by_left b a x i j n =
        let p = place b j in
        elim (rest.2 p.before p.behind b p.split x n.0) [
          | inl q ↦ let zero_step : x.step ≡ 0 = of_query P query x asked q in let number = n.1.0 in let positive = (replay.0.0 a (of_gone a i)).0 in omega arith
          | inr m ↦
              let m_left = front_in P query left u rest b m.0 p m.1 in
              apart m.0 (subst (λ z. In z gone) (sym (numbered_once P query rs t replay a m.0 (of_gone a i) (of_left m.0 m_left) (sym n.1.0 ∙ m.2.0))) i) m_left
        ]

    direct : (a b : Record) → D a → DependsOn rs b a → D b
    direct a b da d =
        let k = ends rs b a d in
        elim (parted b k.1) [
          | inl i ↦ (picks_in rs gone b parts.0 i).1
          | inr j ↦ elim (picks_has rs gone a parts.0 k.0) [
            | inl i ↦ elim d.1 [ inl c ↦ absurd (made_by_left b a i j c) | inr (inl r) ↦ absurd (bound_by_left b a r.0 i j r.1) | inr (inr n) ↦ absurd (named_by_left b a n.0 i j n.1) ]
            | inr n ↦ absurd (n da)
          ]
        ]

    pub closed : IsClosedUnder rs D
    closed a b da (directly d) = direct a b da d
    closed a b da (further {b = m} f d) = direct m b (closed a m da f) d

pub deletion : LawOfDeletion
deletion P query kept t gone left accepted asked replay parts = record {
  replays = replays P query kept t replay (λ r. In r gone) gone left parts (replay_well P query kept t accepted asked replay).acyclic;
  closed = closed P query kept t replay (λ r. In r gone) gone left parts asked;
}
