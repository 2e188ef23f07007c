-- The part of a goal is found in recorded order, since a step stands after the one that made its goal.
use Rattle.ghc_trace.proofs.Words.{◌≡◌, ℕ, ◌+◌, ◌<◌, ◌≤◌, List, [], ◌∷◌, ◌++◌, length, get_or, take, drop, refl, sym, ap, ◌∙◌, subst, inl, inr, arith, ◌↔◌, Some, nat_cmp, insert_key, GoalName, In, in_left, in_right, in_last, in_more, in_get, in_inserted, Program, Query, State, Record, numbers, AreDistinct, MakesGoal, Replays, Before, record_once, Descends, itself, made_by, place_of, take_more, take_all}
use Rattle.std.proofs.lemmas.List.{drop_more, get_or-map, length-map, take-append-drop}
use Rattle.ghc_records.proofs.OrderLemmas.{records_distinct}
use Rattle.ghc_depend.proofs.Finding.{own_made}
use Rattle.ghc_depend.proofs.Picking.{stands_in_front}
use Rattle.ghc_depend.proofs.Placing.{front_in, in_front, numbered_once}
use Rattle.ghc_depend.proofs.Results.{goal_by, of_query, taken_at}
use Rattle.ghc_depend.specs.Depend.{IsKeptAs}
use Rattle.ghc_depend.specs.Parts.{IsOfPart}
use Rattle.ghc_trace.specs.inner.PartsCode.{AreKeptAs, IsTakenUp}

-- These are the numbers of those of the front that are of the part of the goal g.
abbrev pub AreOfPart : List Record → GoalName → List Record → List ℕ → Type 0
AreOfPart rs g front ns = (n : ℕ) → In n ns ↔ ((q : Record) × IsKeptAs front n q × IsOfPart rs g q)

module _ (P : Program) (query : Query) (rs : List Record) (t : State) (replay : Replays P query rs t) where
  -- the step whose number a goal has made it, and stands before the one that took it
  pub maker : (r : Record) (h : GoalName) → In r rs → r.goal ≡ Some h → (q : Record) → In q rs → h.step ≡ q.number → MakesGoal q h × Before rs q r
  maker r h i e q j same =
      let p = place_of P query rs t replay r i in
      let there = taken_at P p.state r p.fires h e in
      elim (goal_by query p.before p.state p.results h there.0 there.1) [
        | inl m ↦
            let makes = own_made m.0 h there.0 m.2 in
            let one : m.0 ≡ q = numbered_once P query rs t replay q m.0 j (front_in P query rs t replay r m.0 p m.1) (sym same ∙ makes.0) in
            (subst (λ z. MakesGoal z h) one makes, subst (λ z. Before rs z r) one (in_front P query rs t replay r m.0 p m.1))
        | inr none ↦ let zero_step = of_query query h there.0 none.1 in let positive = (replay.0.0 q j).0 in absurd (omega (arith, zero_step, positive, same))
      ]

  module _ (g : GoalName) (front back : List Record) (r : Record) (split : rs ≡ front ++ r ∷ back) (ns : List ℕ) (h : AreOfPart rs g front ns) where
    there : In r rs
    there = subst (In r) (sym split) (in_right front (r ∷ back) r (inl refl))

    in_whole : (q : Record) → In q front → In q rs
    in_whole q i = subst (In q) (sym split) (in_left front (r ∷ back) q i)

    of_part : IsTakenUp g ns r → IsOfPart rs g r
    of_part up = elim up.2 [
      | inl same ↦ (up.0, up.1, subst (Descends rs g) (sym same) itself)
      | inr i ↦
          let q = (h up.0.step).0 i in
          let j = in_whole q.0 q.1.0 in
          (up.0, up.1, made_by q.0 j (maker r up.0 there up.1 q.0 j (sym q.1.1)).0 q.2.1 q.2.2)
    ]

    taken_up : (k : GoalName) → r.goal ≡ Some k → Descends rs g k → IsTakenUp g ns r
    taken_up k e itself = (k, e, inl refl)
    taken_up k e (made_by {h = m} q j makes took d) =
        let before = (maker r k there e q j makes.0).1 in
        let ahead = stands_in_front rs front back r q (records_distinct rs replay.0.1) split before in
        (k, e, inr ((h k.step).1 (q, (ahead, sym makes.0), (m, took, d))))

    -- one step more, which is of the part
    pub one_more : IsTakenUp g ns r → AreOfPart rs g (front ++ r ∷ []) (insert_key nat_cmp ns r.number)
    one_more up n = (
      λ i. elim ((in_inserted ns r.number n).0 i) [
        | inl j ↦ let q = (h n).0 j in (q.0, (in_left front (r ∷ []) q.0 q.1.0, q.1.1), q.2)
        | inr e ↦ (r, (in_last front r, sym e), of_part up)
      ],
      λ q. (in_inserted ns r.number n).1 (elim (in_more front r q.0 q.1.0) [
        | inl j ↦ inl ((h n).1 (q.0, (j, q.1.1), q.2))
        | inr same ↦ inr (sym q.1.1 ∙ ap (λ (z : Record). z.number) same)
      ]),
    )

    -- and one that is not
    pub none_more : ¬ IsTakenUp g ns r → AreOfPart rs g (front ++ r ∷ []) ns
    none_more not n = (
      λ i. let q = (h n).0 i in (q.0, (in_left front (r ∷ []) q.0 q.1.0, q.1.1), q.2),
      λ q. elim (in_more front r q.0 q.1.0) [
        | inl j ↦ (h n).1 (q.0, (j, q.1.1), q.2)
        | inr same ↦ let p = subst (IsOfPart rs g) same q.2 in absurd (not (taken_up p.0 p.1 p.2))
      ],
    )

-- the kept step of the number at an index stands there among the records of these numbers
pub split_at : (kept rs : List Record) (ns : List ℕ) → AreKeptAs kept rs ns → AreDistinct (numbers kept) → (i : ℕ) → i < length ns → (r : Record) → In r kept → r.number ≡ get_or ns i 0
    → (rs ≡ take i rs ++ r ∷ drop (i + 1) rs) × (take (i + 1) rs ≡ take i rs ++ r ∷ [])
split_at kept rs ns are distinct i low r there is =
    let long : length rs ≡ length ns = sym (length-map rs (λ (z : Record). z.number)) ∙ ap (λ l. length l) are.numbered in
    let within : i < length rs = omega (arith, low, long) in
    let number : (get_or rs i r).number ≡ get_or ns i 0 = sym (get_or-map (λ (z : Record). z.number) rs i r 0 within) ∙ ap (λ l. get_or l i 0) are.numbered in
    let same : get_or rs i r ≡ r = record_once kept (get_or rs i r) r distinct (are.within (get_or rs i r) (in_get rs i r within)) there (number ∙ sym is) in (
      sym (take-append-drop i rs) ∙ ap (λ l. take i rs ++ l) (drop_more rs i r within) ∙ ap (λ z. take i rs ++ z ∷ drop (i + 1) rs) same,
      take_more rs i r within ∙ ap (λ z. take i rs ++ z ∷ []) same,
    )

-- all of them
pub all_taken : (kept rs : List Record) (ns : List ℕ) → AreKeptAs kept rs ns → (i : ℕ) → length ns ≤ i → take i rs ≡ rs
all_taken kept rs ns are i high =
    let long : length rs ≡ length ns = sym (length-map rs (λ (z : Record). z.number)) ∙ ap (λ l. length l) are.numbered in
    take_all i rs (omega (arith, high, long))
