-- Which step made a call: one that took a call, or one that took no goal.
use Rattle.ghc_trace.proofs.Words.{◌≡◌, ℕ, zero, suc, List, [], ◌∷◌, refl, sym, ap, ◌∙◌, subst, inl, inr, arith, Option, Some, None, slice_get, VarName, GoalName, goal_cmp, Tree, Goal, assign, call, stream, unify, In, Program, Query, State, Record, MakesGoal, Replays, Before, place_of, own, own_made, same_value, value_at}
use Rattle.std.specs.FinMap as finite
use Rattle.ghc_fire.specs.Effect.{Effect, HasEffect}
use Rattle.ghc_fire.specs.declared.act.Act.{Act}
use Rattle.ghc_fire.specs.declared.act.Act.TheVariants.{ByClause as by_clause, Unified as unified, Assigned as assigned, Given as given, Closed as closed}
use Rattle.ghc_records.proofs.States.{made_at}
use Rattle.ghc_depend.proofs.Finding.{not_both}
use Rattle.ghc_depend.proofs.Placing.{front_in, in_front, numbered_once, results_of}
use Rattle.ghc_depend.proofs.Results.{goal_by, of_query, taken, taken_at}
use Rattle.ghc_trace.specs.Blaming.{IsCall, IsCallOf, IsCallTaken}
use Rattle.ghc_trace.specs.inner.BlameCode.{TakesCall}

none_made : (gs : List Goal) (j : ℕ) (b : Goal) → gs ≡ [] → slice_get gs j ≡ Some b → ⊥
none_made gs j b e p = let clash : None ≡ Some b = ap (λ l. slice_get l j) (sym e) ∙ p in cc

one_made : (a b : Goal) (j : ℕ) → slice_get (a ∷ []) j ≡ Some b → b ≡ a
one_made a b zero e = let same : a ≡ b = cc in sym same
one_made a b (suc j) e = let clash : None ≡ Some b = e in cc

-- A goal whose step made a call is a call.
call_maker : (P : Program) (c : Goal) (a : Act) (n : ℕ) (S : VarName → Option Tree) (e : Effect) → HasEffect P c a n S e → (j : ℕ) (b : Goal) → slice_get e.makes j ≡ Some b → IsCall b → IsCall c
call_maker P (call f ts) (by_clause k) n S e d j b at is = (f, ts, refl)
call_maker P (unify l r) unified n S e d j b at is = absurd (none_made e.makes j b d.1 at)
call_maker P (assign t x) assigned n S e d j b at is = absurd (none_made e.makes j b d.5 at)
call_maker P (stream l s) (given u) n S e d j b at is =
    let made = one_made (stream l (record { step = n; place = 1 })) b j (ap (λ gs. slice_get gs j) (sym d.4) ∙ at) in
    let clash : stream l (record { step = n; place = 1 }) ≡ call is.0 is.1 = sym made ∙ is.2 in
    cc
call_maker P (stream l s) closed n S e d j b at is = absurd (none_made e.makes j b d.3 at)
call_maker P c a n S e d j b at is = absurd d

module _ (P : Program) (query : Query) (rs : List Record) (t : State) (replay : Replays P query rs t) where
  -- The step of its name's number made a goal as it was taken, and stands before the step that took it.
  pub taken_made : (r : Record) (g : GoalName) (b : Goal) → In r rs → r.goal ≡ Some g → r.consumed ≡ Some b → (q : Record) → In q rs → g.step ≡ q.number
      → MakesGoal q g × (own q g ≡ Some b) × Before rs q r
  taken_made r g b i e taken_as q j same =
      let p = place_of P query rs t replay r i in
      let there = taken_at P p.state r p.fires g e in
      let goal : there.0 ≡ b = same_value there.2 taken_as in
      elim (goal_by query p.before p.state p.results g there.0 there.1) [
        | inl m ↦
            let makes = own_made m.0 g there.0 m.2 in
            let one : m.0 ≡ q = numbered_once P query rs t replay q m.0 j (front_in P query rs t replay r m.0 p m.1) (sym same ∙ makes.0) in
            (subst (λ z. MakesGoal z g) one makes, subst (λ z. own z g ≡ Some b) one (m.2 ∙ ap Some goal), subst (λ z. Before rs z r) one (in_front P query rs t replay r m.0 p m.1))
        | inr none ↦ let zero_step = of_query query g there.0 none.1 in let positive = (replay.0.0 q j).0 in absurd (omega (arith, zero_step, positive, same))
      ]

  -- The step of its name's number made a goal that is there.
  pub standing_made : (g : GoalName) (b : Goal) → finite.get t.goals g ≡ Some b → (q : Record) → In q rs → g.step ≡ q.number → MakesGoal q g × (own q g ≡ Some b)
  standing_made g b there q j same =
      elim (goal_by query rs t (results_of P query rs t replay) g b there) [
        | inl m ↦
            let makes = own_made m.0 g b m.2 in
            let one : m.0 ≡ q = numbered_once P query rs t replay q m.0 j m.1 (sym same ∙ makes.0) in
            (subst (λ z. MakesGoal z g) one makes, subst (λ z. own z g ≡ Some b) one m.2)
        | inr none ↦ let zero_step = of_query query g b none.1 in let positive = (replay.0.0 q j).0 in absurd (omega (arith, zero_step, positive, same))
      ]

  -- No step took a goal that is there.
  pub standing_untaken : (g : GoalName) (b : Goal) → finite.get t.goals g ≡ Some b → (r : Record) → In r rs → ¬ (r.goal ≡ Some g)
  standing_untaken g b there r i e = not_both there ((results_of P query rs t replay).consumed r g i e)

  -- A step that made a call, and took a goal, took a call.
  pub caller : (q : Record) (g k : GoalName) (b : Goal) → In q rs → own q g ≡ Some b → IsCall b → q.goal ≡ Some k → TakesCall q k
  caller q g k b i own_b is e =
      let p = place_of P query rs t replay q i in
      let took = taken P p.state q p.fires k e in
      elim (made_at q.number 1 q.effect.makes finite.empty g b own_b) [
        | inl m ↦ (took.goal, e, took.consumed, call_maker P took.goal q.act q.number (value_at p.state.store) q.effect took.effect m.0 b m.1 is)
        | inr n ↦ absurd (not_both n (finite.get-empty goal_cmp g))
      ]

  module _ (target : Option GoalName) (g : GoalName) (is : IsCallOf rs t target g) (q : Record) (j : In q rs) (makes : MakesGoal q g) where
    -- The step made a call under this name.
    pub made_call : (b : Goal) × (own q g ≡ Some b) × IsCall b
    made_call = elim is [
      | inl (r, b, i, e, c, call_b) ↦ (b, (taken_made r g b i e c q j makes.0).1, call_b)
      | inr (e, b, there, call_b) ↦ (b, (standing_made g b there q j makes.0).1, call_b)
    ]

    -- If the step took a goal, it took a call.
    pub maker_called : (k : GoalName) → q.goal ≡ Some k → IsCallTaken rs k
    maker_called k e =
        let m = made_call in
        let took = caller q g k m.0 j m.1 m.2 e in
        (q, took.0, j, took.1, took.2, took.3)
