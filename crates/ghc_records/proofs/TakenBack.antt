-- What is there under each name after a step was taken back.
use Rattle.ghc_records.proofs.Words.{◌≡◌, ℕ, zero, suc, ◌≤◌, true, false, cond, length, refl, sym, ap, ◌∙◌, arith, Option, Some, None, eqb-true, eq-eqb, nat_eq, eq_by_cmp, apart, GoalName, Goal, goal_cmp, Goals, Record, with_goal, without_makes, GoalsTakenBack, goal_total, same_parts}
use Rattle.std.specs.FinMap as finite
use Rattle.ghc_records.proofs.Made.{name}
use Rattle.ghc_records.proofs.States.{tied}

-- what is there of the goals without one of them
of_rest : (m : Goals) (h g : GoalName) → finite.get (finite.remove m h) g ≡ cond (eq_by_cmp goal_cmp g h) None (finite.get m g)
of_rest m h g = finite.get-remove goal_total m h g

rest_gone : (m : Goals) (h g : GoalName) → finite.get m g ≡ None → finite.get (finite.remove m h) g ≡ None
rest_gone m h g e = of_rest m h g ∙ elim (eq_by_cmp goal_cmp g h) as (λ b. cond b None (finite.get m g) ≡ None) [ true ↦ refl | false ↦ e ]

stays_gone : (n k : ℕ) (m : Goals) (g : GoalName) → finite.get m g ≡ None → finite.get (without_makes n k m) g ≡ None
stays_gone n zero m g e = e
stays_gone n (suc k) m g e = stays_gone n k (finite.remove m (name n (suc k))) g (rest_gone m (name n (suc k)) g e)

-- the goals that the step made are gone
made_gone : (n k : ℕ) (m : Goals) (g : GoalName) → g.step ≡ n → 1 ≤ g.place → g.place ≤ k → finite.get (without_makes n k m) g ≡ None
made_gone n zero m g s one most = absurd (omega arith)
made_gone n (suc k) m g s one most =
    elim (nat_eq g.place (suc k)) as (λ b. nat_eq g.place (suc k) ≡ b → finite.get (without_makes n k (finite.remove m (name n (suc k)))) g ≡ None) [
      | true ↦ λ p.
          let last : g ≡ name n (suc k) = same_parts g (name n (suc k)) s (eqb-true g.place (suc k) p) in
          stays_gone n k (finite.remove m (name n (suc k))) g (of_rest m (name n (suc k)) g ∙ ap (λ b. cond b None (finite.get m g)) (tied g (name n (suc k)) last))
      | false ↦ λ p.
          let other : ¬ (g.place ≡ suc k) = λ e. let clash : true ≡ false = sym (eq-eqb g.place (suc k) e) ∙ p in cc in
          made_gone n k (finite.remove m (name n (suc k))) g s one (below g.place k most other)
    ] refl
  where
    below : (a b : ℕ) → a ≤ suc b → ¬ (a ≡ suc b) → a ≤ b
    below a b = grind arith

-- all others are as they were
others_stay : (n k : ℕ) (m : Goals) (g : GoalName) → ¬ ((g.step ≡ n) × (1 ≤ g.place) × (g.place ≤ k)) → finite.get (without_makes n k m) g ≡ finite.get m g
others_stay n zero m g never = refl
others_stay n (suc k) m g never =
    let last : ¬ (g ≡ name n (suc k)) = λ e.
    let place : g.place ≡ suc k = ap (λ (h : GoalName). h.place) e in
    never (ap (λ (h : GoalName). h.step) e, omega arith, omega arith) in
    others_stay n k (finite.remove m (name n (suc k))) g (λ h. let most = h.2 in never (h.0, h.1, omega arith))
    ∙ of_rest m (name n (suc k)) g ∙ ap (λ b. cond b None (finite.get m g)) (apart g (name n (suc k)) last)

-- the goal that the step consumed is put back
put_back : (o : Option GoalName) (c : Option Goal) (m : Goals) (g : GoalName) (b : Goal) → o ≡ Some g → c ≡ Some b → finite.get (with_goal o c m) g ≡ Some b
put_back (Some h) (Some d) m g b p q =
    let same : g ≡ h = cc in
    let goal : d ≡ b = cc in
    finite.get-insert goal_total m h d g ∙ ap (λ t. cond t (Some d) (finite.get m g)) (tied g h same) ∙ ap Some goal
put_back o c m g b p q = cc

-- under another name nothing is
put_elsewhere : (o : Option GoalName) (c : Option Goal) (m : Goals) (g : GoalName) → ((b : Goal) → ¬ ((o ≡ Some g) × (c ≡ Some b))) → finite.get (with_goal o c m) g ≡ finite.get m g
put_elsewhere (Some h) (Some d) m g n = finite.get-insert goal_total m h d g ∙ ap (λ t. cond t (Some d) (finite.get m g)) (apart g h (λ e. n d (ap Some (sym e), refl)))
put_elsewhere o c m g n = refl

-- the goals that are left where the consumed one is put back and then those that the step made are taken away
pub goals_back : (r : Record) (m : Goals) → GoalsTakenBack r m (without_makes r.number (length r.effect.makes) (with_goal r.goal r.consumed m))
goals_back r m =
    let put = with_goal r.goal r.consumed m in
    let k = length r.effect.makes in
    record {
      unmade = λ g h. made_gone r.number k put g h.0 h.1 h.2;
      given_back = λ g b h never. others_stay r.number k put g never ∙ put_back r.goal r.consumed m g b h.0 h.1;
      others = λ g never none. others_stay r.number k put g never ∙ put_elsewhere r.goal r.consumed m g none;
    }
