-- A replay is one, its store is acyclic, and its variables are the query's or made by its steps.
use Rattle.ghc_records.proofs.Words.{◌≡◌, ℕ, ◌≤◌, ◌⊎◌, List, [], ◌∷◌, ◌++◌, refl, sym, ap, ◌∙◌, subst, inl, inr, arith, Some, None, VarName, In, at_of_in, IsAcyclic, name_cmp, value_at, empty_acyclic, Program, Query, IsProgram, IsQuery, made, goal_cmp, AreDistinct, State, Record, numbers, after, query_state, Runs, MakesVariable, IsVariableOf, ReplayIsOne, ReplayIsWellMade}
use Rattle.std.specs.FinMap as finite
use Rattle.ghc_flat.specs.Variables.{variables_of_goals, firsts}
use Rattle.ghc_records.specs.Replay.{Names}
use Rattle.ghc_records.proofs.OrderLemmas.{number_in}
use Rattle.ghc_records.proofs.States.{made_or_old}
use Rattle.ghc_records.proofs.Heads.{first_in, of_goals}
use Rattle.ghc_records.proofs.Effects.{HasOnly, has_more, after_has, after_acyclic}

pub run_once : (P : Program) (s : State) (rs : List Record) (t u : State) → Runs P s rs t → Runs P s rs u → t ≡ u
run_once P s [] t u p q = p ∙ sym q
run_once P s (r ∷ rs) t u p q = run_once P (after s r) rs t u p.1 q.1

pub replay_once : ReplayIsOne
replay_once P query rs s t p q = run_once P (query_state query) rs s t p.1 q.1

-- a variable of the query has the number 0
pub of_query : (P : Program) (query : Query) (x : VarName) → IsQuery P query → In x (variables_of_goals query) → x.step ≡ 0
of_query P query x q i =
    let p = at_of_in (firsts [] (variables_of_goals query)) x (first_in [] (variables_of_goals query) x i refl) in
    ap (λ (v : VarName). v.step) (q.numbered p.0 x p.1)

-- the variables of a query and of the steps of which R holds
abbrev Of : Query → (Record → Type 0) → VarName → Type 0
Of query R x = In x (variables_of_goals query) ⊎ ((r : Record) × R r × MakesVariable r x)

of_more : (query : Query) (R Q : Record → Type 0) → ((r : Record) → R r → Q r) → (x : VarName) → Of query R x → Of query Q x
of_more query R Q f x (inl i) = inl i
of_more query R Q f x (inr p) = inr (p.0, f p.0 p.1, p.2)

module _ (P : Program) (query : Query) (accepted : IsProgram P) (asked : IsQuery P query) where
  pub run_well : (rs done : List Record) (s t : State) → Runs P s rs t → ((r : Record) → In r rs → 1 ≤ r.number) → AreDistinct (numbers rs) → ((n : ℕ) → In n (numbers rs) → ¬ In n (numbers done))
      → ((front behind : List Record) (q : Record) → rs ≡ front ++ q ∷ behind → (x : VarName) → Names q x → Of query (λ p. In p done ⊎ In p front) x)
      → IsAcyclic (value_at s.store) → HasOnly (Of query (λ r. In r done)) s → IsAcyclic (value_at t.store) × HasOnly (Of query (λ r. In r done ⊎ In r rs)) t
  run_well [] done s t run positive distinct apart known acyclic h = (
    subst (λ z. IsAcyclic (value_at z.store)) (sym run) acyclic,
    subst (HasOnly (Of query (λ r. In r done ⊎ ⊥))) (sym run) (has_more (Of query (λ r. In r done)) (Of query (λ r. In r done ⊎ ⊥)) s (of_more query (λ r. In r done) (λ r. In r done ⊎ ⊥) (λ r i. inl i)) h),
  )
  run_well (r ∷ rs) done s t run positive distinct apart known acyclic h =
      let new : (i : ℕ) → ¬ Of query (λ q. In q done) (made r.number i) = λ i of. elim of [
        | inl q ↦ let n : r.number ≡ 0 = of_query P query (made r.number i) asked q in let p = positive r (inl refl) in omega arith
        | inr q ↦ apart r.number (inl refl) (subst (λ n. In n (numbers done)) (sym q.2.0) (number_in done q.0 q.1))
      ] in
      let wider : HasOnly (Of query (λ q. In q (r ∷ done))) s = has_more (Of query (λ q. In q done)) (Of query (λ q. In q (r ∷ done))) s (of_more query (λ q. In q done) (λ q. In q (r ∷ done)) (λ q i. inr i)) h in
      let next = after_has P s r run.0 (Of query (λ q. In q (r ∷ done))) accepted acyclic wider (λ y m. inr (r, inl refl, m))
      (λ y n. of_more query (λ p. In p done ⊎ ⊥) (λ p. In p (r ∷ done)) (λ p i. elim i [ inl j ↦ inr j | inr j ↦ absurd j ]) y (known [] rs r refl y n)) in
      let shut = after_acyclic P s r run.0 (Of query (λ q. In q done)) acyclic h new in
      let rest = run_well rs (r ∷ done) (after s r) t run.1 (λ q i. positive q (inr i)) distinct.1 (λ n i j. elim j [
        | inl e ↦ distinct.0 (subst (λ m. In m (numbers rs)) e i)
        | inr k ↦ apart n (inr i) k
      ]) (λ front behind q e x n. of_more query (λ p. In p done ⊎ In p (r ∷ front)) (λ p. In p (r ∷ done) ⊎ In p front) (λ p i. elim i [
        | inl j ↦ inl (inr j)
        | inr (inl same) ↦ inl (inl same)
        | inr (inr j) ↦ inr j
      ]) x (known (r ∷ front) behind q (ap (λ l. r ∷ l) e) x n)) shut next in (
        rest.0,
        has_more (Of query (λ q. In q (r ∷ done) ⊎ In q rs)) (Of query (λ q. In q done ⊎ In q (r ∷ rs))) t (of_more query (λ q. In q (r ∷ done) ⊎ In q rs) (λ q. In q done ⊎ In q (r ∷ rs)) (λ q i. elim i [
          | inl (inl e) ↦ inr (inl e)
          | inl (inr j) ↦ inl j
          | inr j ↦ inr (inr j)
        ])) rest.1,
      )

  pub query_has : HasOnly (Of query (λ r. ⊥)) (query_state query)
  query_has = record {
    keys = λ x t p. absurd (let clash : None ≡ Some t = sym (finite.get-empty name_cmp x) ∙ p in cc);
    values = λ x t p. absurd (let clash : None ≡ Some t = sym (finite.get-empty name_cmp x) ∙ p in cc);
    goals = λ g b y p i. elim (made_or_old 0 1 query finite.empty g b p) [
      | inl q ↦ inl (of_goals query b y q.1 i)
      | inr q ↦ absurd (let clash : None ≡ Some b = sym (finite.get-empty goal_cmp g) ∙ q in cc)
    ];
  }

pub replay_well : ReplayIsWellMade
replay_well P query rs t accepted asked replay =
    let all = run_well P query accepted asked rs [] (query_state query) t replay.1 (λ r i. (replay.0.0 r i).0) replay.0.1 (λ n i j. j)
    (λ front behind q e x n. of_more query (λ p. In p front) (λ p. ⊥ ⊎ In p front) (λ p i. inr i) x (replay.2 front behind q e x n)) (empty_acyclic finite.empty refl) (query_has P query accepted asked) in
    let h = has_more (Of query (λ r. ⊥ ⊎ In r rs)) (IsVariableOf query rs) t (of_more query (λ r. ⊥ ⊎ In r rs) (λ r. In r rs) (λ r i. elim i [ inl j ↦ absurd j | inr j ↦ j ])) all.1 in
    record {
      acyclic = all.0;
      goals = λ g b x p i. h.goals g b x p i;
      bound = λ x u p. h.keys x u p;
      values = λ x y u p o. h.values x u p y o;
    }
