-- What replays alone, and stands in another replay, is extended to it by forward steps.
use Rattle.ghc_depend.proofs.Words.{◌⊎◌, List, [], ◌∷◌, ◌++◌, sym, ◌∙◌, subst, inl, inr, In, IsAcyclic, value_at, Program, Query, IsProgram, IsQuery, State, Record, numbers, query_state, Runs, Replays, Picks, nothing, leave, number_in, number_of, in_decided, nat_decided, of_query, replay_well, run_once, Uses, directly, further, IsClosedUnder, IsPartedBy}
use Rattle.ghc_records.specs.Orders.{take}
use Rattle.ghc_depend.specs.Laws.{ReplaysExtend}
use Rattle.ghc_depend.proofs.Finding.{ends}
use Rattle.ghc_depend.proofs.Results.{taken_at, step_binds, bound_by, is_old}
use Rattle.ghc_depend.proofs.Placing.{Place, results_of, place_of, front_in, bound_once, numbered_once}
use Rattle.ghc_depend.proofs.Comparing.{same_state, bound_value}
use Rattle.ghc_depend.proofs.Picking.{pick, picks_in, picks_has}
use Rattle.ghc_depend.proofs.Deleting as deleting
use Rattle.ghc_depend.proofs.ComingBack.{come_back}
use Rattle.ghc_depend.proofs.KeptOnce.{runs_split}
use Rattle.ghc_depend.proofs.Turning.{no_query}

-- what is picked by a property is picked by its double denial
doubly : {X : Type 0} {Q : X → Type 0} (xs ys : List X) → Picks Q xs ys → Picks (λ x. ¬ ¬ Q x) xs ys
doubly [] ys nothing = nothing
doubly (x ∷ xs) ys (take q p) = take (λ n. n q) (doubly xs _ p)
doubly (x ∷ xs) ys (leave n p) = leave (λ d. d n) (doubly xs ys p)

module _ (P : Program) (query : Query) (left whole : List Record) (v u : State) (accepted : IsProgram P) (asked : IsQuery P query)
    (alone : Replays P query left v) (again : Replays P query whole u) (of_whole : (r : Record) → In r left → In r whole) where
  place : (b : Record) → In b left → Place P query left b
  place b j = place_of P query left v alone b j

  in_left : (b m : Record) (j : In b left) → In m (place b j).before → In m left
  in_left b m j i = front_in P query left v alone b m (place b j) i

  -- what a step left uses is left
  used_is_left : (b a : Record) → In a whole → In b left → Uses b a → In a left
  used_is_left b a i j (inl c) =
      let p = place b j in
      let k = taken_at P p.state b p.fires c.0 c.1 in
      elim (is_old query p.before p.state p.results c.0 k.0 k.1) [
        | inl zero_step ↦ absurd (no_query c.0.step a.number zero_step c.2.0 (again.0.0 a i).0)
        | inr m ↦ let l = in_left b m.0 j m.1 in subst (λ z. In z left) (numbered_once P query whole u again a m.0 i (of_whole m.0 l) (sym c.2.0 ∙ m.2)) l
      ]
  used_is_left b a i j (inr (inl r)) =
      let p = place b j in
      let w = (step_binds P p.state b p.fires).reads_bound r.0 r.1.0 in
      let c = bound_by query p.before p.state p.results r.0 w.0 w.1 in
      let d = bound_value a r.0 r.1.1 in
      let l = in_left b c.0 j c.1 in
      subst (λ z. In z left) (bound_once P query whole u again a c.0 r.0 d.0 w.0 i (of_whole c.0 l) d.1 c.2) l
  used_is_left b a i j (inr (inr n)) =
      let p = place b j in
      elim (alone.2 p.before p.behind b p.split n.0 n.1.0) [
        | inl q ↦ absurd (no_query n.0.step a.number (of_query P query n.0 asked q) n.1.1.0 (again.0.0 a i).0)
        | inr m ↦ let l = in_left b m.0 j m.1 in subst (λ z. In z left) (numbered_once P query whole u again a m.0 i (of_whole m.0 l) (sym n.1.1.0 ∙ m.2.0)) l
      ]

  known : (r : Record) → In r whole → In r left ⊎ (¬ In r left)
  known r i = elim (in_decided nat_decided r.number (numbers left)) [
    | inl k ↦ let q = number_of left r.number k in inl (subst (λ z. In z left) (sym (numbered_once P query whole u again q.0 r (of_whole q.0 q.1) i q.2)) q.1)
    | inr n ↦ inr (λ j. n (number_in left r j))
  ]

  abbrev IsMore : Record → Type 0
  IsMore r = ¬ In r left

  extra : (more : List Record) × Picks IsMore whole more
  extra = pick whole (λ r i. elim (known r i) [ inl j ↦ inr (λ n. n j) | inr n ↦ inl n ])

  first : (ls : List Record) × Picks (λ r. In r left) whole ls
  first = pick whole known

  parts : IsPartedBy whole IsMore extra.0 first.0
  parts = (extra.1, doubly whole first.0 first.1)

  shut : IsClosedUnder whole IsMore
  shut a b n (directly d) j = let k = ends whole b a d in n (used_is_left b a k.0 j d.1)
  shut a b n (further {b = m} f d) j = let k = ends whole b m d in shut a m n f (used_is_left b m k.0 j d.1)

  acyclic : IsAcyclic (value_at u.store)
  acyclic = (replay_well P query whole u accepted asked again).acyclic

  both : Replays P query (first.0 ++ extra.0) u
  both = come_back P query whole u again IsMore extra.0 first.0 parts shut acyclic

  one : Runs P v extra.0 u
  one =
      let split = runs_split P first.0 extra.0 (query_state query) u both.1 in
      let w = deleting.replays P query whole u again IsMore extra.0 first.0 parts acyclic shut in
      let same = run_once P (query_state query) first.0 split.0 w.0 split.1 w.1.1 in
      let there : (r : Record) → In r left → In r first.0 = λ r i. elim (picks_has whole first.0 r first.1 (of_whole r i)) [ inl k ↦ k | inr n ↦ absurd (n i) ] in
      let back : (r : Record) → In r first.0 → In r left = λ r i. (picks_in whole first.0 r first.1 i).1 in
      let as_left = same_state query first.0 left w.0 v (results_of P query first.0 w.0 w.1) (results_of P query left v alone) back there in
      subst (λ z. Runs P z extra.0 u) (same ∙ as_left) split.2

pub extended : ReplaysExtend
extended P query left whole v u accepted asked alone again of_whole =
    let e = extra P query left whole v u accepted asked alone again of_whole in
    (e.0, e.1, one P query left whole v u accepted asked alone again of_whole)
