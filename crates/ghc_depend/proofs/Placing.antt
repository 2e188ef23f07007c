-- The state in which each step of a replay was taken.
use Rattle.ghc_depend.proofs.Words.{◌≡◌, List, [], ◌∷◌, ◌++◌, refl, sym, ap, ◌∙◌, subst, inl, inr, Some, append_assoc, append-nil, VarName, GoalName, Tree, In, value_at, in_left, in_right, Program, Query, AreDistinct, State, Record, numbers, after, Fires, query_state, Runs, HaveStepNumbers, Replays, Before, number_in, record_once, records_distinct}
use Rattle.ghc_depend.proofs.Finding.{not_both}
use Rattle.ghc_depend.proofs.Picking.{before_front, either_before, stands_in_front}
use Rattle.ghc_depend.proofs.Results.{taken_at, step_binds, Results, at_first, with_step}

-- where the number of an element is apart from those in front of it
pub apart_at : (done rest : List Record) (r : Record) → AreDistinct (numbers (done ++ r ∷ rest)) → (m : Record) → In m done → ¬ (r.number ≡ m.number)
apart_at [] rest r d m i e = i
apart_at (s ∷ done) rest r d m (inl same) e = d.0 (subst (λ n. In n (numbers (done ++ r ∷ rest))) (e ∙ ap (λ (z : Record). z.number) same) (number_in (done ++ r ∷ rest) r (in_right done (r ∷ rest) r (inl refl))))
apart_at (s ∷ done) rest r d m (inr i) e = apart_at done rest r d.1 m i e

-- the state in which the step r of the list rs was taken
pub record Place (P : Program) (query : Query) (rs : List Record) (r : Record) : Type 0 where
  pub before : List Record
  pub behind : List Record
  pub state : State
  pub split : rs ≡ before ++ r ∷ behind
  pub results : Results query before state
  pub fires : Fires P state r

module _ (P : Program) (query : Query) (whole : List Record) (numbered : HaveStepNumbers whole) where
  pub stepped : (done rest : List Record) (r : Record) (s : State) → whole ≡ done ++ r ∷ rest → Results query done s → Fires P s r → Results query (done ++ r ∷ []) (after s r)
  stepped done rest r s e h f =
      with_step query done s h P r f (numbered.0 r (subst (In r) (sym e) (in_right done (r ∷ rest) r (inl refl)))).0 (apart_at done rest r (subst (λ z. AreDistinct (numbers z)) e numbered.1))

  -- what the whole list leaves
  pub run_results : (done rest : List Record) (s t : State) → whole ≡ done ++ rest → Results query done s → Runs P s rest t → Results query whole t
  run_results done [] s t e h run = subst (λ z. Results query whole z) (sym run) (subst (λ z. Results query z s) (sym (e ∙ append-nil done)) h)
  run_results done (r ∷ rest) s t e h run = run_results (done ++ r ∷ []) rest (after s r) t (e ∙ sym (append_assoc done (r ∷ []) rest)) (stepped done rest r s e h run.0) run.1

  -- where each of its steps was taken
  run_place : (done rest : List Record) (s t : State) → whole ≡ done ++ rest → Results query done s → Runs P s rest t → (r : Record) → In r rest → Place P query whole r
  run_place done [] s t e h run r i = absurd i
  run_place done (q ∷ rest) s t e h run r (inl same) =
      record { before = done; behind = rest; state = s; split = e ∙ ap (λ z. done ++ z ∷ rest) (sym same); results = h; fires = subst (Fires P s) (sym same) run.0 }
  run_place done (q ∷ rest) s t e h run r (inr i) =
      run_place (done ++ q ∷ []) rest (after s q) t (e ∙ sym (append_assoc done (q ∷ []) rest)) (stepped done rest q s e h run.0) run.1 r i

pub results_of : (P : Program) (query : Query) (rs : List Record) (t : State) → Replays P query rs t → Results query rs t
results_of P query rs t replay = run_results P query rs replay.0 [] rs (query_state query) t refl (at_first query) replay.1

pub place_of : (P : Program) (query : Query) (rs : List Record) (t : State) → Replays P query rs t → (r : Record) → In r rs → Place P query rs r
place_of P query rs t replay r i = run_place P query rs replay.0 [] rs (query_state query) t refl (at_first query) replay.1 r i

module _ (P : Program) (query : Query) (rs : List Record) (t : State) (replay : Replays P query rs t) where
  -- what stands in front of a step, by the order of the list
  pub in_front : (r m : Record) (p : Place P query rs r) → In m p.before → Before rs m r
  in_front r m p i = subst (λ z. Before z m r) (sym p.split) (before_front p.before p.behind r m i)

  pub front_in : (r m : Record) (p : Place P query rs r) → In m p.before → In m rs
  front_in r m p i = subst (In m) (sym p.split) (in_left p.before (r ∷ p.behind) m i)

  -- two steps are one, where neither stands in front of the other
  one_of : (r c : Record) → In r rs → In c rs → ((p : Place P query rs r) → ¬ In c p.before) → ((q : Place P query rs c) → ¬ In r q.before) → c ≡ r
  one_of r c i j not_front not_behind =
      let p = place_of P query rs t replay r i in
      let q = place_of P query rs t replay c j in
      let distinct = records_distinct rs replay.0.1 in
      elim (either_before rs r c i j) [
        | inl before ↦ absurd (not_behind q (stands_in_front rs q.before q.behind c r distinct q.split before))
        | inr (inl before) ↦ absurd (not_front p (stands_in_front rs p.before p.behind r c distinct p.split before))
        | inr (inr same) ↦ sym same
      ]

  -- what a step in front consumed is not consumed again
  not_again : (r c : Record) (g : GoalName) (p : Place P query rs r) → In c p.before → c.goal ≡ Some g → r.goal ≡ Some g → ⊥
  not_again r c g p i e f =
      not_both (taken_at P p.state r p.fires g f).1 (p.results.consumed c g i e)

  -- what a step in front bound is not bound again
  not_bound_again : (r c : Record) (x : VarName) (u w : Tree) (p : Place P query rs r) → In c p.before → value_at c.effect.binds x ≡ Some u → value_at r.effect.binds x ≡ Some w → ⊥
  not_bound_again r c x u w p i e f =
      not_both (p.results.bound c x u i e) ((step_binds P p.state r p.fires).binds_new x w f)

  -- a goal is consumed once
  pub consumed_once : (r c : Record) (g : GoalName) → In r rs → In c rs → r.goal ≡ Some g → c.goal ≡ Some g → c ≡ r
  consumed_once r c g i j e f = one_of r c i j (λ p front. not_again r c g p front f e) (λ q front. not_again c r g q front e f)

  -- a variable is bound once
  pub bound_once : (r c : Record) (x : VarName) (u w : Tree) → In r rs → In c rs → value_at r.effect.binds x ≡ Some u → value_at c.effect.binds x ≡ Some w → c ≡ r
  bound_once r c x u w i j e f = one_of r c i j (λ p front. not_bound_again r c x w u p front f e) (λ q front. not_bound_again c r x u w q front e f)

  -- a number is that of one step
  pub numbered_once : (r c : Record) → In r rs → In c rs → r.number ≡ c.number → c ≡ r
  numbered_once r c i j e = sym (record_once rs r c replay.0.1 i j e)
