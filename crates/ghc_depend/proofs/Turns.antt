-- Where a goal does not go in turns, all that does not follow from its part can come first, then the part, then the rest; and the part runs alone.
use Rattle.ghc_depend.proofs.Words.{◌≡◌, ◌⊎◌, ℕ, List, [], ◌∷◌, ◌++◌, refl, sym, ap, ◌∙◌, subst, inl, inr, Some, VarName, GoalName, Tree, Goal, In, in_left, in_right, in_either, value_at, name_cmp, Decided, decided_both, decided_by, some_decided, is_some, Program, Query, IsProgram, IsQuery, State, Record, AreDistinct, numbers, number_in, number_of, records_distinct, Runs, query_state, Replays, Before, is_before, before_once, DependsOn, Follows, directly, further, Binds, MakesGoal, IsLawful, IsInOrder}
use Rattle.std.specs.FinMap as finite
use Rattle.ghc_records.specs.Replay.{Names}
use Rattle.ghc_depend.specs.Depend.{Descends, itself, made_by}
use Rattle.ghc_depend.specs.Parts.{IsOfPart, IsWithinGoal, WasGiven, FollowsFromPart, GoesInTurns, AreInThree, PartsComeTogether, goal_alone, RunsAmong, at_end, of_part, of_others, PartRunsAlone, PartsRunAlone}
use Rattle.ghc_depend.proofs.Arranging.{arranged}
use Rattle.ghc_depend.proofs.Among as among
use Rattle.ghc_depend.proofs.Comparing.{bound_value}
use Rattle.ghc_depend.proofs.Decided.{by_records, decided_not}
use Rattle.ghc_depend.proofs.Finding.{by_option, ends, not_both, same_value}
use Rattle.ghc_depend.proofs.Following.{known_follows}
use Rattle.ghc_depend.proofs.KeptOnce.{runs_split}
use Rattle.ghc_depend.proofs.Parting.{behind_descent, behind_maker, maker_once, known_part, parted}
use Rattle.ghc_depend.proofs.Picking.{before_left, before_right, before_across, distinct_both, pick, picks_distinct, picks_has, picks_in, picks_keep}
use Rattle.ghc_depend.proofs.Placing.{numbered_once, place_of}
use Rattle.ghc_depend.proofs.Results.{Results, at_first, bound_by, taken}
use Rattle.ghc_depend.proofs.TakenTogether.{before_on, follows_behind}
use Rattle.ghc_depend.proofs.Within.{unnamed}
use Rattle.ghc_depend.proofs.Worlds.{TookGoal, at_last, full, read_across}

-- what descends in some steps descends in all that have them
moved : {rs ss : List Record} {g k : GoalName} → ((q : Record) → In q rs → In q ss) → Descends rs g k → Descends ss g k
moved f itself = itself
moved f (made_by q i makes took d) = made_by q (f q i) makes took (moved f d)

part_moved : {rs ss : List Record} {g : GoalName} → ((q : Record) → In q rs → In q ss) → (q : Record) → IsOfPart rs g q → IsOfPart ss g q
part_moved f q p = (p.0, p.1, moved f p.2)

-- the steps one after the other, all of the part
only_part : {P : Program} {part : Record → Type 0} {given : VarName → Type 0} (xs : List Record) (u v : State) → ((q : Record) → In q xs → part q) → RunsAmong P part given u xs v → Runs P u xs v
only_part [] u v all at_end = refl
only_part (q ∷ xs) u v all (of_part p f run) = (f, only_part xs _ v (λ m i. all m (inr i)) run)
only_part (q ∷ xs) u v all (of_others n h run) = absurd (n (all q (inl refl)))

-- or none of it: then just what was given is new
none_of_part : {P : Program} {part : Record → Type 0} {given : VarName → Type 0} → ((x : VarName) → Decided (given x)) → (xs : List Record) (u v : State) → ((q : Record) → In q xs → ¬ part q)
    → RunsAmong P part given u xs v → (v.goals ≡ u.goals) × ((x : VarName) (c : Tree) → value_at v.store x ≡ Some c → (value_at u.store x ≡ Some c) ⊎ given x)
none_of_part known [] u v none at_end = (refl, λ x c e. inl e)
none_of_part known (q ∷ xs) u v none (of_part p f run) = absurd (none q (inl refl) p)
none_of_part known (q ∷ xs) u v none (of_others n h run) =
    let rest = none_of_part known xs _ v (λ m i. none m (inr i)) run in (
      rest.0 ∙ h.goals,
      λ x c e. elim (known x) [
        | inl w ↦ inr w
        | inr m ↦ elim (rest.1 x c e) [ inl f ↦ inl (sym (h.others x (λ p. m p.0)) ∙ f) | inr w ↦ inr w ]
      ],
    )

module _ (P : Program) (query : Query) (rs : List Record) (t : State) (accepted : IsProgram P) (asked : IsQuery P query) (replay : Replays P query rs t)
    (r : Record) (g : GoalName) (b : Goal) (call : TookGoal rs r g b) (straight : ¬ GoesInTurns rs (value_at t.store) g b) where
  distinct : AreDistinct rs
  distinct = records_distinct rs replay.0.1

  -- a step of the part names nothing
  names_nothing : (q : Record) (x : VarName) → In q rs → IsOfPart rs g q → ¬ Names q x
  names_nothing q x i part n =
      let p = place_of P query rs t replay q i in
      let step = taken P p.state q p.fires part.0 part.1 in
      unnamed P step.goal q.act q.number (value_at p.state.store) q.effect step.effect x n.0

  -- the first step of the part is the one that took its goal
  root_first : (q : Record) → In q rs → IsOfPart rs g q → (q ≡ r) ⊎ Before rs r q
  root_first q i part = elim (((parted P query rs t replay r g call.kept call.took).whole q i).0 part) [
    | inl same ↦ inl same
    | inr m ↦ inr (behind_descent P query rs t replay r m.0 call.kept m.1 m.2.0 m.2.2 q i m.2.1)
  ]

  -- what follows from the part made no goal of it
  no_maker : (a : Record) → In a rs → ¬ IsOfPart rs g a → FollowsFromPart rs g a → (h : GoalName) → MakesGoal a h → ¬ Descends rs g h
  no_maker a i other f h makes itself =
      let first : Before rs a r = behind_maker P query rs t replay a r g i call.kept makes call.took in
      let later : Before rs f.0 a = follows_behind rs f.0 a distinct f.3 in
      elim (root_first f.0 f.1 f.2) [
        | inl same ↦ before_once rs a r distinct first (subst (λ z. Before rs z a) same later)
        | inr before ↦ before_once rs a r distinct first (before_on rs r f.0 a distinct before later)
      ]
  no_maker a i other f h makes (made_by m j makes' took d) = other (subst (IsOfPart rs g) (maker_once P query rs t replay m a h j i makes' makes) (_, took, d))

  -- no step of the part depends on another that follows from it
  waits_not : (c a : Record) → IsOfPart rs g c → ¬ IsOfPart rs g a → FollowsFromPart rs g a → ¬ DependsOn rs c a
  waits_not c a part other f d =
      let k = ends rs c a d in
      elim d.1 [
        | inl m ↦ no_maker a k.0 other f m.0 m.2 (subst (Descends rs g) (same_value part.1 m.1) part.2)
        | inr (inl read) ↦ straight (read.0, a, read_across P query rs t accepted asked replay r g b call c a read.0 k.1 k.0 part other read.1.0 read.1.1, k.0, other, f, read.1.1)
        | inr (inr n) ↦ names_nothing c n.0 k.1 part n.1.0
      ]

  module _ (first part later : List Record) (three : AreInThree rs g first part later) where
    abbrev pub new : List Record
    new = first ++ (part ++ later)

    in_first : (q : Record) → In q first → In q rs × ((¬ IsOfPart rs g q) × (¬ FollowsFromPart rs g q))
    in_first q i = picks_in rs first q three.is_first i

    in_part : (q : Record) → In q part → In q rs × IsOfPart rs g q
    in_part q i = picks_in rs part q three.is_part i

    in_later : (q : Record) → In q later → In q rs × ((¬ IsOfPart rs g q) × FollowsFromPart rs g q)
    in_later q i = picks_in rs later q three.is_later i

    class : (q : Record) → In q rs → In q first ⊎ (In q part ⊎ In q later)
    class q i = elim (picks_has rs part q three.is_part i) [
      | inl p ↦ inr (inl p)
      | inr n ↦ elim (picks_has rs later q three.is_later i) [
        | inl k ↦ inr (inr k)
        | inr m ↦ elim (picks_has rs first q three.is_first i) [ inl k ↦ inl k | inr o ↦ absurd (o (n, λ f. m (n, f))) ]
      ]
    ]

    pub in_new : (q : Record) → In q rs → In q new
    in_new q i = elim (class q i) [
      | inl j ↦ in_left first (part ++ later) q j
      | inr (inl j) ↦ in_right first (part ++ later) q (in_left part later q j)
      | inr (inr j) ↦ in_right first (part ++ later) q (in_right part later q j)
    ]

    pub of_new : (q : Record) → In q new → In q rs
    of_new q i = elim (in_either first (part ++ later) q i) [
      | inl j ↦ (in_first q j).0
      | inr j ↦ elim (in_either part later q j) [ inl k ↦ (in_part q k).0 | inr k ↦ (in_later q k).0 ]
    ]

    new_distinct : AreDistinct (numbers new)
    new_distinct = distinct_both first (part ++ later) (picks_distinct rs first three.is_first replay.0.1)
        (distinct_both part later (picks_distinct rs part three.is_part replay.0.1) (picks_distinct rs later three.is_later replay.0.1) (λ x y i j e.
        let p = in_part x i in
        let q = in_later y j in
        q.1.0 (subst (IsOfPart rs g) (sym (numbered_once P query rs t replay x y p.0 q.0 e)) p.1)))
        (λ x y i j e.
        let p = in_first x i in
        elim (in_either part later y j) [
          | inl k ↦ let q = in_part y k in p.1.0 (subst (IsOfPart rs g) (numbered_once P query rs t replay x y p.0 q.0 e) q.1)
          | inr k ↦ let q = in_later y k in p.1.1 (subst (FollowsFromPart rs g) (numbered_once P query rs t replay x y p.0 q.0 e) q.1.1)
        ])

    in_time : (c a : Record) → DependsOn rs c a → Before new a c
    in_time c a d =
        let k = ends rs c a d in
        let before = is_before rs a c d.0 in
        let rest = part ++ later in
        elim (class a k.0) [
          | inl i ↦ elim (class c k.1) [
            | inl j ↦ before_left first rest a c (picks_keep rs first a c distinct three.is_first i j before)
            | inr (inl j) ↦ before_across first rest a c i (in_left part later c j)
            | inr (inr j) ↦ before_across first rest a c i (in_right part later c j)
          ]
          | inr (inl i) ↦ elim (class c k.1) [
            | inl j ↦ absurd ((in_first c j).1.1 (a, k.0, (in_part a i).1, directly d))
            | inr (inl j) ↦ before_right first rest a c (before_left part later a c (picks_keep rs part a c distinct three.is_part i j before))
            | inr (inr j) ↦ before_right first rest a c (before_across part later a c i j)
          ]
          | inr (inr i) ↦
              let other = (in_later a i).1 in
              elim (class c k.1) [
                | inl j ↦ absurd ((in_first c j).1.1 (other.1.0, other.1.1, other.1.2, further other.1.3 d))
                | inr (inl j) ↦ absurd (waits_not c a (in_part c j).1 other.0 other.1 d)
                | inr (inr j) ↦ before_right first rest a c (before_right part later a c (picks_keep rs later a c distinct three.is_later i j before))
              ]
        ]

    pub in_order : IsInOrder rs (numbers new) new
    in_order = (refl, λ q. (of_new q, in_new q))

    pub lawful : IsLawful rs (numbers new)
    lawful =
        let of_kept : (n : ℕ) → In n (numbers new) → In n (numbers rs) = λ n i.
        let q = number_of new n i in
        subst (λ z. In z (numbers rs)) q.2 (number_in rs q.0 (of_new q.0 q.1)) in
        let all : (n : ℕ) → In n (numbers rs) → In n (numbers new) = λ n i.
        let q = number_of rs n i in
        subst (λ z. In z (numbers new)) q.2 (number_in new q.0 (in_new q.0 q.1)) in (
          ((of_kept, new_distinct), all),
          λ a c e.
              let k = ends rs c a e.0 in
              let back : Before new c a = by_records new c a new_distinct (in_new c k.1) (in_new a k.0) (is_before (numbers new) c.number a.number e.1) in
              before_once new a c (records_distinct new new_distinct) (in_time c a e.0) back,
        )

    again : Replays P query new t
    again = arranged P query rs t (numbers new) new accepted asked replay lawful in_order

    there : (q : Record) → IsOfPart rs g q → IsOfPart new g q
    there = part_moved in_new

    back : (q : Record) → IsOfPart new g q → IsOfPart rs g q
    back = part_moved of_new

    call_again : TookGoal new r g b
    call_again = record {
      kept = in_new r call.kept;
      took = call.took;
      had = call.had;
      left_alone = λ q i m. call.left_alone q (of_new q i) (m.0, m.1, of_new m.0 m.2, back m.0 m.3, m.4);
    }

    given_back : (x : VarName) → WasGiven new (value_at t.store) g b x → WasGiven rs (value_at t.store) g b x
    given_back x w = (w.0, (w.1.0, of_new w.1.0 w.1.1, (λ p. w.1.2 (there w.1.0 p)), w.1.3))

    given_there : (x : VarName) → WasGiven rs (value_at t.store) g b x → WasGiven new (value_at t.store) g b x
    given_there x w = (w.0, (w.1.0, in_new w.1.0 w.1.1, (λ p. w.1.2 (back w.1.0 p)), w.1.3))

    -- what was given, a step first bound
    given_first : (q : Record) (x : VarName) → In q rs → IsWithinGoal (value_at t.store) b x → ¬ IsOfPart rs g q → Binds q x → In q first
    given_first q x i w other binds = elim (class q i) [
      | inl j ↦ j
      | inr (inl j) ↦ absurd (other (in_part q j).1)
      | inr (inr j) ↦ absurd (straight (x, q, w, i, other, (in_later q j).1.1, binds))
    ]

    split : (m : State) × Runs P (query_state query) first m × Runs P m (part ++ later) t
    split = runs_split P first (part ++ later) (query_state query) t again.1

    split_more : (m : State) × Runs P split.0 part m × Runs P m later t
    split_more = runs_split P part later split.0 t split.2

    abbrev Along : List Record → State → State → Type 0
    Along = among.Along P query new t accepted asked again r g b call_again

    abbrev Run : State → List Record → State → Type 0
    Run = among.Run P query new t accepted asked again r g b call_again

    to_begin : (w : State) × Run (goal_alone g b) first w × Along first split.0 w × Results query first split.0
    to_begin = among.run_on P query new t accepted asked again r g b call_again [] first (part ++ later) (query_state query) (goal_alone g b) split.0 refl (at_first query)
        (among.start P query new t accepted asked again r g b call_again) split.1

    to_end : (w : State) × Run to_begin.0 part w × Along (first ++ part) split_more.0 w × Results query (first ++ part) split_more.0
    to_end = among.run_on P query new t accepted asked again r g b call_again first part later split.0 to_begin.0 split_more.0 refl to_begin.3 to_begin.2 split_more.1

    begins : (to_begin.0.goals ≡ (goal_alone g b).goals) × ((x : VarName) (c : Tree) → value_at to_begin.0.store x ≡ Some c → (value_at (goal_alone g b).store x ≡ Some c) ⊎ WasGiven new (value_at t.store) g b x)
    begins = none_of_part (among.given_known P query new t accepted asked again r g b call_again) first (goal_alone g b) to_begin.0 (λ q i p. (in_first q i).1.0 (back q p)) to_begin.1

    was_given : (x : VarName) (c : Tree) → value_at to_begin.0.store x ≡ Some c → WasGiven rs (value_at t.store) g b x × (value_at t.store x ≡ Some c)
    was_given x c e = elim (begins.1 x c e) [
      | inl f ↦ absurd (not_both f (finite.get-empty name_cmp x))
      | inr w ↦ (given_back x w, at_last P query new t accepted asked again r g b call_again first split.0 to_begin.3 (λ q i. in_left first (part ++ later) q i) x c (to_begin.2.less x c e))
    ]

    is_given : (x : VarName) (c : Tree) → WasGiven rs (value_at t.store) g b x → value_at t.store x ≡ Some c → value_at to_begin.0.store x ≡ Some c
    is_given x c w e =
        let u = bound_value w.1.0 x w.1.3 in
        let same = same_value ((full P query rs t accepted asked replay r g b call).bound w.1.0 x u.0 w.1.1 u.1) e in
        to_begin.2.given_bound w.1.0 x u.0 (given_first w.1.0 x w.1.1 w.0 w.1.2 w.1.3) (given_there x w) u.1 ∙ ap Some same

    ends_alike : (x : VarName) → IsWithinGoal (value_at t.store) b x → value_at to_end.0.store x ≡ value_at t.store x
    ends_alike x w = by_option (value_at t.store x)
        (λ n. by_option (value_at to_end.0.store x) (λ m. m ∙ sym n) (λ u m. absurd (not_both
        (at_last P query new t accepted asked again r g b call_again (first ++ part) split_more.0 to_end.3 of_both x u (to_end.2.less x u m)) n)))
        (λ u e.
        let c = bound_by query rs t (full P query rs t accepted asked replay r g b call) x u e in
        elim (class c.0 c.1) [
          | inl j ↦ to_end.2.given_bound c.0 x u (in_left first part c.0 j) (given_there x (w, (c.0, c.1, (in_first c.0 j).1.0, ap is_some c.2))) c.2
          | inr (inl j) ↦ to_end.2.own_bound c.0 x u (in_right first part c.0 j) (there c.0 (in_part c.0 j).1) c.2
          | inr (inr j) ↦ let k = (in_later c.0 j).1 in absurd (straight (x, c.0, w, c.1, k.0, k.1, ap is_some c.2))
        ] ∙ sym e)
      where
        of_both : (q : Record) → In q (first ++ part) → In q new
        of_both q i = elim (in_either first part q i) [ inl j ↦ in_left first (part ++ later) q j | inr j ↦ in_right first (part ++ later) q (in_left part later q j) ]

    pub runs_alone : PartRunsAlone P rs t g b part
    runs_alone = record {
      begin = to_begin.0;
      end = to_end.0;
      given = record { goals = begins.0; bound = λ x c. (was_given x c, λ p. is_given x c p.0 p.1) };
      runs = only_part part to_begin.0 to_end.0 (λ q i. there q (in_part q i).1) to_end.1;
      same = ends_alike;
    }

pub come_together : PartsComeTogether
come_together P query rs t r g b first part later accepted asked replay i e had free straight three =
    let call : TookGoal rs r g b = record { kept = i; took = e; had = had; left_alone = free } in
    (lawful P query rs t accepted asked replay r g b call straight first part later three, in_order P query rs t accepted asked replay r g b call straight first part later three)

pub run_alone : PartsRunAlone
run_alone P query rs t r g b part accepted asked replay i e had free straight picks =
    let call : TookGoal rs r g b = record { kept = i; took = e; had = had; left_alone = free } in
    let follows : (q : Record) → In q rs → Decided (FollowsFromPart rs g q) = λ q j. decided_by (λ p. (p.0, p.1, p.2.0, p.2.1)) (λ p. (p.0, p.1, (p.2, p.3))) (some_decided rs (λ p. IsOfPart rs g p × Follows rs p q) (λ p k.
    decided_both (known_part P query rs t replay g p k) (known_follows rs replay.0.1 p k q j))) in
    let other : (q : Record) → In q rs → Decided (¬ IsOfPart rs g q) = λ q j. decided_not (known_part P query rs t replay g q j) in
    let first = pick rs (λ q j. decided_both (other q j) (decided_not (follows q j))) in
    let later = pick rs (λ q j. decided_both (other q j) (follows q j)) in
    runs_alone P query rs t accepted asked replay r g b call straight first.0 part later.0 (record { is_first = first.1; is_part = picks; is_later = later.1 })
