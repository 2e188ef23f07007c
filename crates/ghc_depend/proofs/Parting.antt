-- The part of a goal is its step and the parts of what that made; the slice of a place replays alone.
use Rattle.ghc_depend.proofs.Words.{◌≡◌, ◌⊎◌, ℕ, zero, suc, ◌+◌, ◌≤◌, ◌<◌, Bool, IsTrue, List, ◌∷◌, ◌++◌, length, append_assoc, length-append, in_right, some_decided, true_decided, Decided, decided_by, refl, sym, ap, ◌∙◌, subst, inl, inr, arith, Some, VarName, GoalName, Tree, In, value_at, Option, Program, Query, IsProgram, IsQuery, State, Record, Replays, Before, before_once, records_distinct, replay_well, MakesGoal, IsBoundIn, IsPartedBy, picks_in, picks_has}
use Rattle.ghc_term.specs.Bindings.{Reaches, here, through}
use Rattle.ghc_term.specs.Tree.{variable}
use Rattle.ghc_term.proofs.Chains.{reaches_on}
use Rattle.ghc_records.specs.Replay.{IsVariableOf}
use Rattle.ghc_depend.specs.Depend.{Descends, itself, made_by}
use Rattle.ghc_depend.specs.Slices.{IsCauseOf, root}
use Rattle.ghc_term.proofs.ListsLemmas.{in_either, in_splits}
use Rattle.ghc_depend.proofs.Decided.{known_consumed}
use Rattle.ghc_depend.proofs.Picking.{before_front, stands_in_front}
use Rattle.ghc_depend.specs.Parts.{IsAtFault, WrongPartsHaveFaults, IsOfPart, IsPartedByMakes, PartsAreParted, IsOnWay, GavePlace, PlaceIsAlone, PlacesAreAlone}
use Rattle.ghc_depend.proofs.Finding.{by_option, goal_or_not, not_both, same_value}
use Rattle.ghc_depend.proofs.Results.{taken_at, is_old}
use Rattle.ghc_depend.proofs.Placing.{place_of, in_front, front_in, consumed_once, numbered_once}
use Rattle.ghc_depend.proofs.Slicing.{doubly, rest_is_closed}
use Rattle.ghc_depend.proofs.TakenTogether.{before_on}
use Rattle.ghc_depend.proofs.Deleting as deleting

module _ (P : Program) (query : Query) (rs : List Record) (t : State) (replay : Replays P query rs t) where
  -- who takes a goal stands behind who made it
  pub behind_maker : (r s : Record) (h : GoalName) → In r rs → In s rs → MakesGoal r h → s.goal ≡ Some h → Before rs r s
  behind_maker r s h i j m e =
      let p = place_of P query rs t replay s j in
      let there = taken_at P p.state s p.fires h e in
      elim (is_old query p.before p.state p.results h there.0 there.1) [
        | inl zero_step ↦ let number = m.0 in let positive = (replay.0.0 r i).0 in absurd (omega arith)
        | inr k ↦
            let one : k.0 ≡ r = numbered_once P query rs t replay r k.0 i (front_in P query rs t replay s k.0 p k.1) (sym m.0 ∙ k.2) in
            in_front P query rs t replay s r p (subst (λ z. In z p.before) one k.1)
      ]

  -- and so does who takes what descends from it
  pub behind_descent : (r : Record) (h : GoalName) → In r rs → MakesGoal r h → (k : GoalName) → Descends rs h k → (s : Record) → In s rs → s.goal ≡ Some k → Before rs r s
  behind_descent r h i m k itself s j e = behind_maker r s h i j m e
  behind_descent r h i m k (made_by {h = g} q l makes took d) s j e =
      before_on rs r q s (records_distinct rs replay.0.1) (behind_descent r h i m g d q l took) (behind_maker q s k l j makes e)

  -- one maker
  pub maker_once : (q r : Record) (h : GoalName) → In q rs → In r rs → MakesGoal q h → MakesGoal r h → q ≡ r
  maker_once q r h i j m n = numbered_once P query rs t replay r q j i (sym n.0 ∙ m.0)

  -- Of each step it is known whether it is of the part of a goal: its goal is that goal, or its maker is of the part.
  module _ (g : GoalName) where
    made_known : (k : GoalName) (m : Record) → Decided (MakesGoal m k)
    made_known k m = decided_by (λ p. let same : p.0 ≡ k = cc in subst (MakesGoal m) same p.2) (λ makes. (k, refl, makes)) (known_consumed (Some k) m)

    unmade : (k : GoalName) → ¬ (k ≡ g) → ((m : Record) → In m rs → ¬ MakesGoal m k) → ¬ Descends rs g k
    unmade k other none itself = other refl
    unmade k other none (made_by m i makes took d) = none m i makes

    by_maker : (k : GoalName) (m : Record) → In m rs → MakesGoal m k → ¬ (k ≡ g) → Descends rs g k → IsOfPart rs g m
    by_maker k m i makes other itself = absurd (other refl)
    by_maker k m i makes other (made_by q j makes' took d) = subst (IsOfPart rs g) (maker_once q m k j i makes' makes) (_, took, d)

    from_maker : (q : Record) (front back : List Record) → rs ≡ front ++ q ∷ back → ((m : Record) → In m front → Decided (IsOfPart rs g m)) → Decided (IsOfPart rs g q)
    from_maker q front back e in_front = by_option q.goal
        (λ none. inr (λ p. not_both p.1 none))
        (λ k took. elim (goal_or_not k g) [
          | inl same ↦ inl (k, took, subst (Descends rs g) (sym same) itself)
          | inr other ↦ elim (some_decided rs (λ m. MakesGoal m k) (λ m _. made_known k m)) [
            | inr none ↦ inr (λ p. unmade p.0 (λ same. other (same_value took p.1 ∙ same)) (λ m i makes. none (m, i, subst (MakesGoal m) (same_value p.1 took) makes)) p.2)
            | inl m ↦
                let there : In q rs = subst (In q) (sym e) (in_right front (q ∷ back) q (inl refl)) in
                let before = stands_in_front rs front back q m.0 (records_distinct rs replay.0.1) e (behind_maker m.0 q k m.1 there m.2 took) in
                decided_by (λ p. (k, took, made_by m.0 m.1 m.2 p.1 p.2)) (λ p. by_maker k m.0 m.1 m.2 other (subst (Descends rs g) (same_value p.1 took) p.2)) (in_front m.0 before)
          ]
        ])

    known_from : (n : ℕ) (q : Record) (front back : List Record) → rs ≡ front ++ q ∷ back → length front ≤ n → Decided (IsOfPart rs g q)
    known_from zero q front back e l = from_maker q front back e (λ m i.
        let s = in_splits front m i in
        let whole : length front ≡ length s.0 + length (m ∷ s.1) = ap length s.2 ∙ length-append s.0 (m ∷ s.1) in
        absurd (omega arith))
    known_from (suc n) q front back e l = from_maker q front back e (λ m i.
        let s = in_splits front m i in
        let whole : length front ≡ length s.0 + length (m ∷ s.1) = ap length s.2 ∙ length-append s.0 (m ∷ s.1) in
        known_from n m s.0 (s.1 ++ q ∷ back) (e ∙ ap (λ z. z ++ q ∷ back) s.2 ∙ append_assoc s.0 (m ∷ s.1) (q ∷ back)) (omega arith))

    pub known_part : (q : Record) → In q rs → Decided (IsOfPart rs g q)
    known_part q i = let s = in_splits rs q i in known_from (length s.0) q s.0 s.1 s.2 (omega arith)

  module _ (r : Record) (g : GoalName) (kept_r : In r rs) (took_g : r.goal ≡ Some g) where
    -- what descends from g is g, or descends from what r made
    first_made : (k : GoalName) → Descends rs g k → (k ≡ g) ⊎ ((h : GoalName) × MakesGoal r h × Descends rs h k)
    first_made k itself = inl refl
    first_made k (made_by {h = m} q i makes took d) = elim (first_made m d) [
      | inl same ↦
          let one : q ≡ r = consumed_once P query rs t replay r q g kept_r i took_g (took ∙ ap Some same) in
          inr (k, subst (λ z. MakesGoal z k) one makes, itself)
      | inr p ↦ inr (p.0, p.1, made_by q i makes took p.2)
    ]

    further_down : (h k : GoalName) → MakesGoal r h → Descends rs h k → Descends rs g k
    further_down h k m itself = made_by r kept_r m took_g itself
    further_down h k m (made_by {h = n} q i makes took d) = made_by q i makes took (further_down h n m d)

    apart : (h : GoalName) → MakesGoal r h → ¬ IsOfPart rs h r
    apart h m p =
        let before = behind_descent r h kept_r m p.0 p.2 r kept_r p.1 in
        before_once rs r r (records_distinct rs replay.0.1) before before

    -- what descends from two goals that r made
    one_root : (h k c : GoalName) → MakesGoal r h → MakesGoal r k → Descends rs h c → Descends rs k c → h ≡ k
    one_root h k c m n itself itself = refl
    one_root h k c m n itself (made_by q i makes took d) =
        let one : q ≡ r = maker_once q r c i kept_r makes m in
        absurd (apart k n (_, sym (ap (λ (z : Record). z.goal) one) ∙ took, d))
    one_root h k c m n (made_by q i makes took d) itself =
        let one : q ≡ r = maker_once q r c i kept_r makes n in
        absurd (apart h m (_, sym (ap (λ (z : Record). z.goal) one) ∙ took, d))
    one_root h k c m n (made_by {h = a} q i makes took d) (made_by {h = b} p j makes' took' d') =
        let one : q ≡ p = maker_once q p c i j makes makes' in
        let same : b ≡ a = same_value took' (sym (ap (λ (z : Record). z.goal) one) ∙ took) in
        one_root h k a m n d (subst (λ z. Descends rs k z) same d')

    pub parted : IsPartedByMakes rs r g
    parted = record {
      whole = λ s i. (
        λ p. elim (first_made p.0 p.2) [
          | inl same ↦ inl (consumed_once P query rs t replay r s g kept_r i took_g (p.1 ∙ ap Some same))
          | inr q ↦ inr (q.0, q.1, (p.0, p.1, q.2))
        ],
        λ e. elim e [
          | inl same ↦ (g, ap (λ (z : Record). z.goal) same ∙ took_g, itself)
          | inr q ↦ (q.2.0, q.2.1, further_down q.0 q.2.0 q.1 q.2.2)
        ],
      );
      apart = apart;
      once = λ h k s m n p q. one_root h k p.0 m n p.2 (subst (λ z. Descends rs k z) (same_value q.1 p.1) q.2);
    }

  -- Judge goals as you like: from a step whose goal is wrong one comes to one at fault.
  module _ (right : GoalName → Bool) (g : GoalName) where
    abbrev Found : Type 0
    Found = (s : Record) × (k : GoalName) × In s rs × IsOfPart rs g s × IsAtFault rs right s k

    -- q took a goal that s made, and which is wrong
    abbrev TookWrong : Record → Record → Type 0
    TookWrong s q = (h : GoalName) × (q.goal ≡ Some h) × MakesGoal s h × (¬ IsTrue (right h))

    took_wrong : (s q : Record) → Decided (TookWrong s q)
    took_wrong s q = elim (known_consumed q.goal s) [
      | inr n ↦ inr (λ p. n (p.0, p.1, p.2))
      | inl c ↦ elim (true_decided (right c.0)) [
        | inl good ↦ inr (λ p. p.3 (subst (λ z. IsTrue (right z)) (same_value c.1 p.1) good))
        | inr bad ↦ inl (c.0, c.1, c.2, bad)
      ]
    ]

    -- what stands behind a step, stands in the rest
    in_rest : (s q : Record) (front back : List Record) → rs ≡ front ++ s ∷ back → In q rs → Before rs s q → In q back
    in_rest s q front back e i before =
        let distinct = records_distinct rs replay.0.1 in
        elim (in_either front (s ∷ back) q (subst (In q) e i)) [
          | inl j ↦ absurd (before_once rs s q distinct before (subst (λ z. Before z q s) (sym e) (before_front front back s q j)))
          | inr (inl same) ↦ let again = subst (λ z. Before rs s z) same before in absurd (before_once rs s s distinct again again)
          | inr (inr j) ↦ j
        ]

    abbrev Next : List Record → Type 0
    Next back = (q : Record) × (h : GoalName) × (front rest : List Record) × (rs ≡ front ++ q ∷ rest) × (length rest < length back) × (q.goal ≡ Some h) × Descends rs g h × (¬ IsTrue (right h))

    from_wrong : (s : Record) (k : GoalName) (front back : List Record) → rs ≡ front ++ s ∷ back → s.goal ≡ Some k → Descends rs g k → ¬ IsTrue (right k) → Found ⊎ Next back
    from_wrong s k front back e took d wrong =
        let i : In s rs = subst (In s) (sym e) (in_right front (s ∷ back) s (inl refl)) in
        elim (some_decided rs (TookWrong s) (λ q _. took_wrong s q)) [
          | inr none ↦ inl (s, k, i, (k, took, d), (took, wrong, λ q h j f m. elim (true_decided (right h)) [ inl good ↦ good | inr bad ↦ absurd (none (q, j, (h, f, m, bad))) ]))
          | inl c ↦
              let behind = behind_maker s c.0 c.2.0 i c.1 c.2.2 c.2.1 in
              let split = in_splits back c.0 (in_rest s c.0 front back e c.1 behind) in
              let whole : length back ≡ length split.0 + length (c.0 ∷ split.1) = ap length split.2 ∙ length-append split.0 (c.0 ∷ split.1) in
              let shorter : length split.1 < length back = omega arith in
              inr (
                c.0,
                c.2.0,
                front ++ s ∷ split.0,
                split.1,
                e ∙ ap (λ z. front ++ s ∷ z) split.2 ∙ sym (append_assoc front (s ∷ split.0) (c.0 ∷ split.1)),
                shorter,
                c.2.1,
                made_by s i c.2.2 took d,
                c.2.3,
              )
        ]

    to_fault : (n : ℕ) (s : Record) (k : GoalName) (front back : List Record) → rs ≡ front ++ s ∷ back → length back ≤ n → s.goal ≡ Some k → Descends rs g k → ¬ IsTrue (right k) → Found
    to_fault zero s k front back e l took d wrong = elim (from_wrong s k front back e took d wrong) [ inl f ↦ f | inr c ↦ let less = c.5 in absurd (omega arith) ]
    to_fault (suc n) s k front back e l took d wrong = elim (from_wrong s k front back e took d wrong) [
      | inl f ↦ f
      | inr c ↦ let less = c.5 in let within : length c.3 ≤ n = omega arith in to_fault n c.0 c.1 c.2 c.3 c.4 within c.6 c.7 c.8
    ]

pub faults : WrongPartsHaveFaults
faults P query rs t right r g replay i took wrong =
    let split = in_splits rs r i in
    let within : length split.1 ≤ length split.1 = omega arith in
    to_fault P query rs t replay right g (length split.1) r g split.0 split.1 split.2 within took itself wrong

pub parts : PartsAreParted
parts P query rs t r g replay i e = parted P query rs t replay r g i e

-- what a variable reaches that a tree reaches, the tree reaches
reaches_then : {S : VarName → Option Tree} {t : Tree} {z y : VarName} → Reaches S t z → Reaches S (variable z) y → Reaches S t y
reaches_then {S = S} {t = t} r (here o) = subst (λ w. Reaches S t w) (sym o) r
reaches_then {S = S} {t = t} r (through {u = u} {y = w} o e q) = reaches_on r (subst (λ v. S v ≡ Some u) o e) q

-- a way stays where what its variables are bound to stays
way_stays : {S U : VarName → Option Tree} {t : Tree} {z : VarName} → Reaches S t z → ((y : VarName) → Reaches S t y → Reaches S (variable y) z → U y ≡ S y) → Reaches U t z
way_stays (here o) h = here o
way_stays (through {u = u} {y = y} o e r) h =
    through o (h y (here o) (through refl e r) ∙ e) (way_stays r (λ w q s. h w (through o e q) s))

module _ (P : Program) (query : Query) (kept : List Record) (t : State) (x z : VarName) (slice rest : List Record) (accepted : IsProgram P) (asked : IsQuery P query)
    (replay : Replays P query kept t) (known_x : IsVariableOf query kept x) (known_z : IsVariableOf query kept z) (reached : Reaches (value_at t.store) (variable x) z)
    (parting : IsPartedBy kept (IsCauseOf kept (GavePlace (value_at t.store) x z)) slice rest) where
  abbrev roots : Record → Type 0
  roots = GavePlace (value_at t.store) x z

  in_slice : (r : Record) → In r kept → IsCauseOf kept roots r → In r slice
  in_slice r i c = elim (picks_has kept slice r parting.0 i) [ inl j ↦ j | inr n ↦ absurd (n c) ]

  unbound_by_rest : (y : VarName) → IsOnWay (value_at t.store) x z y → ¬ IsBoundIn rest y
  unbound_by_rest y way b = (picks_in kept rest b.0 parting.1 b.1).1 (root (inl (y, way, b.2)))

  pub place_alone : PlaceIsAlone P query t x z slice
  place_alone =
      let well = replay_well P query kept t accepted asked replay in
      let u = deleting.replays P query kept t replay (λ r. ¬ IsCauseOf kept roots r) rest slice (parting.1, doubly kept slice parting.0) well.acyclic (rest_is_closed kept roots) in
      record {
        state = u.0;
        replays = u.1;
        known = (
          elim known_x [ inl q ↦ inl q | inr m ↦ inr (m.0, in_slice m.0 m.1 (root (inr (inl m.2))), m.2) ],
          elim known_z [ inl q ↦ inl q | inr m ↦ inr (m.0, in_slice m.0 m.1 (root (inr (inr m.2))), m.2) ],
        );
        reached = way_stays reached (λ y r s. u.2.bound y (unbound_by_rest y (r, inl s)));
        same = λ y r. u.2.bound y (unbound_by_rest y (reaches_then reached r, inr r));
      }

pub places : PlacesAreAlone
places P query kept t x z slice rest accepted asked replay known_x known_z reached parting =
    place_alone P query kept t x z slice rest accepted asked replay known_x known_z reached parting
