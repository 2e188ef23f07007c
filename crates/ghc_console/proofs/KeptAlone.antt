-- Where all steps outside of a slice are rolled back, the slice is kept alone.
use Rattle.ghc_term.proofs.ListsLemmas.{in_more, in_left, in_last, in_either}
use Rattle.std.proofs.lemmas.List.{length-append}
use Rattle.std.specs.FinMap as finite
use Rattle.ghc_records.specs.Journal.{Opening}
use Rattle.ghc_console.proofs.CitedWords.{◌≡◌, ◌↔◌, ℕ, List, [], ◌∷◌, ◌++◌, refl, sym, ap, subst, ◌∙◌, inl, inr, arith, Some, In, value_at, AreDistinct, Record, numbers, record_once, World, IsVariableOf, opening_stays}
use Rattle.ghc_core.proofs.Reaching.{reached_good}
use Rattle.ghc_core.proofs.Redoing.{on_shelf, still_on_shelf, redo_each}
use Rattle.ghc_core.proofs.Replayed.{replayed}
use Rattle.ghc_core.specs.Core.{IsStanding}
use Rattle.ghc_core.specs.Reached.{by_change}
use Rattle.ghc_core.specs.declared.changes.Change.TheVariants.{Goes as goes}
use Rattle.ghc_core.specs.declared.changes.Going.{Going}
use Rattle.ghc_core.specs.Gone.{Gone, all_gone}
use Rattle.ghc_records.specs.Orders.{Picks, nothing, take, leave}
use Rattle.ghc_records.specs.Record.{State}
use Rattle.ghc_records.specs.Replay.{Replays, Runs, query_state}
use Rattle.ghc_records.proofs.OrderLemmas.{number_in, number_of, picks_once, records_distinct}
use Rattle.ghc_records.proofs.PickLemmas.{no_longer, picks_in, picks_has, picks_distinct}
use Rattle.ghc_records.proofs.Replaying.{replay_once, run_once}
use Rattle.ghc_depend.specs.Deletion.{IsPartedBy}
use Rattle.ghc_depend.specs.Kept.{IsSplitAt, with_shelved}
use Rattle.ghc_depend.specs.Slices.{IsCauseOf, Gave, GaveGoal, IsThereAlike, SameFrom}
use Rattle.ghc_depend.proofs.ComingBack.{gone_come_back}
use Rattle.ghc_depend.proofs.Following.{follows_in}
use Rattle.ghc_depend.proofs.UndosSquare.{follows_more}
use Rattle.ghc_depend.proofs.KeptOnce.{runs_split}
use Rattle.ghc_depend.proofs.Slicing.{goal_slices, rest_is_closed, slices}
use Rattle.ghc_hooks.proofs.Statuses.{status_there}
use Rattle.ghc_hooks.specs.Status.{HasStatus}
use Rattle.ghc_console.specs.Keeping.{RollsBack, not_kept, rolls, RollBack, none_yet, and_next}
use Rattle.ghc_console.specs.KeepLaws.{ComeBack, KeepLeavesTheGoal, KeepLeavesTheSlice}

module _ {X : Type 0} where
  -- what is picked by one property is picked by another that says the same of each
  pub picks_alike : {P Q : X → Type 0} (xs ys : List X) → ((x : X) → In x xs → P x ↔ Q x) → Picks P xs ys → Picks Q xs ys
  picks_alike [] ys h nothing = nothing
  picks_alike (x ∷ xs) ys h (take p rest) = take ((h x (inl refl)).0 p) (picks_alike xs _ (λ y i. h y (inr i)) rest)
  picks_alike (x ∷ xs) ys h (leave n rest) = leave (λ q. n ((h x (inl refl)).1 q)) (picks_alike xs ys (λ y i. h y (inr i)) rest)

  -- a list without an element twice has all of itself
  pub all_picked : (xs whole : List X) → ((x : X) → In x xs → In x whole) → Picks (λ x. In x whole) xs xs
  all_picked [] whole h = nothing
  all_picked (x ∷ xs) whole h = take (h x (inl refl)) (all_picked xs whole (λ y i. h y (inr i)))

  -- what is picked of what was picked is picked
  pub picks_twice : {P Q : X → Type 0} (xs ys zs : List X) → AreDistinct xs → Picks P xs ys → Picks Q ys zs → Picks (λ x. In x zs) xs zs
  picks_twice [] ys zs d nothing nothing = nothing
  picks_twice (x ∷ xs) ys zs d (take {ys = more} p rest) (take {ys = last} q others) =
      take (inl refl) (picks_alike xs last (λ y i. (λ j. inr j, λ j. elim j [ inl e ↦ absurd (d.0 (subst (λ z. In z xs) e i)) | inr k ↦ k ])) (picks_twice xs more last d.1 rest others))
  picks_twice (x ∷ xs) ys zs d (take {ys = more} p rest) (leave n others) =
      leave (λ i. d.0 (picks_in xs more x rest (picks_in more zs x others i).0).0) (picks_twice xs more zs d.1 rest others)
  picks_twice (x ∷ xs) ys zs d (leave n rest) others = leave (λ i. d.0 (picks_in xs ys x rest (picks_in ys zs x others i).0).0) (picks_twice xs ys zs d.1 rest others)

module _ (w : World) (roots : Record → Type 0) (slice rest : List Record) (standing : IsStanding w) (parts : IsPartedBy w.kept (IsCauseOf w.kept roots) slice rest) where
  distinct : AreDistinct (numbers w.kept)
  distinct = (reached_good standing).kept_once

  abbrev Belongs : Record → Type 0
  Belongs = IsCauseOf w.kept roots

  outside : (r : Record) → In r w.kept → ¬ Belongs r → In r rest
  outside r i n = elim (picks_has w.kept rest r parts.1 i) [ inl k ↦ k | inr m ↦ absurd (m n) ]

  not_outside : (r : Record) → In r w.kept → ¬ In r rest → Belongs r
  not_outside r i n = elim (picks_has w.kept slice r parts.0 i) [ inl k ↦ (picks_in w.kept slice r parts.0 k).1 | inr m ↦ absurd (n (outside r i m)) ]

  -- the rest after the slice gives the old state
  pub way_back : Replays w.opening.program w.opening.query (slice ++ rest) w.state
  way_back =
      let good = reached_good standing in
      gone_come_back w.opening.program w.opening.query w.kept w.state rest slice good.accepted good.asked (replayed standing).replay
      (picks_alike w.kept rest (λ r i. (outside r i, λ j. (picks_in w.kept rest r parts.1 j).1)) parts.1, picks_alike w.kept slice (λ r i. (λ b j. (picks_in w.kept rest r parts.1 j).1 b, not_outside r i)) parts.0)
      (λ a b i f. outside b (follows_in f) (rest_is_closed w.kept roots a b (picks_in w.kept rest a parts.1 i).1 f))

  -- After some of the others were rolled back: what is kept is a part of what was kept, the slice among it, and none of those rolled back, which are shelved.
  pub record Left (ns : List ℕ) (v : World) : Type 0 where
    pub part : Picks (λ r. In r v.kept) w.kept v.kept
    pub has : (r : Record) → In r slice → In r v.kept
    pub gone : (r : Record) → In r v.kept → ¬ In r.number ns
    pub shelved : (r : Record) → In r w.kept → ¬ In r v.kept → finite.get v.shelf r.number ≡ Some r
    pub reached : IsStanding v
    pub query : v.opening ≡ w.opening

  start : Left [] w
  start = record {
    part = all_picked w.kept w.kept (λ r i. i);
    has = λ r i. (picks_in w.kept slice r parts.0 i).0;
    gone = λ r i never. never;
    shelved = λ r i n. absurd (n i);
    reached = standing;
    query = refl;
  }

  module _ (ns : List ℕ) (n : ℕ) (v : World) (l : Left ns v) (other : In n (numbers rest)) where
    not_there : (r : Record) → In r v.kept → ¬ (r.number ≡ n) → ¬ In r.number (ns ++ n ∷ [])
    not_there r i differs j = elim (in_more ns n r.number j) [ inl k ↦ l.gone r i k | inr e ↦ differs e ]

    -- what is not left was put on the shelf now, or was there before
    on_new_shelf : (r : Record) → In r w.kept → (gone : Gone) (left : List Record) → IsSplitAt v.kept gone.first (all_gone gone) left → ¬ In r left
        → finite.get (with_shelved (all_gone gone) v.shelf) r.number ≡ Some r
    on_new_shelf r i gone left split n = elim (picks_has w.kept v.kept r l.part i) [
      | inl j ↦ elim (picks_has v.kept (all_gone gone) r split.0 j) [
        | inl k ↦ on_shelf (all_gone gone) v.shelf (picks_distinct v.kept (all_gone gone) split.0 (reached_good l.reached).kept_once) r k
        | inr m ↦ elim (picks_has v.kept left r split.1 j) [ inl k ↦ absurd (n k) | inr d ↦ absurd (d m) ]
      ]
      | inr out ↦ still_on_shelf (all_gone gone) v.shelf r (λ k.
          let q = number_of (all_gone gone) r.number k in
          let there = (picks_in v.kept (all_gone gone) q.0 split.0 q.1).0 in
          out (subst (λ z. In z v.kept) (record_once w.kept q.0 r distinct (picks_in w.kept v.kept q.0 l.part there).0 i q.2) there)) (l.shelved r i out)
    ]

    next : (u : World) (line : List ℕ) → RollsBack v n line u → Left (ns ++ n ∷ []) u
    next u line (not_kept none) = record { part = l.part; has = l.has; gone = λ r i. not_there r i (none r i); shelved = l.shelved; reached = l.reached; query = l.query }
    next u line (rolls gone first can changes) =
        let left = changes.0 in
        let split = changes.1 in
        let is = changes.2.2 in
        let s = gone.first in
        let kept : u.kept ≡ left = ap (λ (z : World). z.kept) is in
        let in_w : In s w.kept = (picks_in w.kept v.kept s l.part can.0).0 in
        let is_rest : ¬ Belongs s =
        let o = number_of rest n other in
        let p = picks_in w.kept rest o.0 parts.1 o.1 in
        subst (λ r. ¬ Belongs r) (record_once w.kept o.0 s distinct p.0 in_w (o.2 ∙ sym first)) p.1
        in
        let picked : Picks (λ r. In r left) w.kept left = picks_twice w.kept v.kept left (records_distinct w.kept distinct) l.part split.1 in
        record {
          part = subst (λ k. Picks (λ r. In r k) w.kept k) (sym kept) picked;
          has = λ r i.
              let belongs = (picks_in w.kept slice r parts.0 i).1 in
              elim (picks_has v.kept left r split.1 (l.has r i)) [
                | inl j ↦ subst (In r) (sym kept) j
                | inr n ↦ absurd (n (λ g. elim g [
                  | inl e ↦ is_rest (subst Belongs e belongs)
                  | inr f ↦ rest_is_closed w.kept roots s r is_rest (follows_more w.kept v.kept l.part s r f) belongs
                ]))
              ];
          gone = λ r i.
              let j = picks_in v.kept left r split.1 (subst (In r) kept i) in
              not_there r j.0 (λ e. j.1 (inl (record_once w.kept r s distinct (picks_in w.kept v.kept r l.part j.0).0 in_w (e ∙ sym first))));
          shelved = λ r i n. subst (λ shelf. finite.get shelf r.number ≡ Some r) (sym (ap (λ (z : World). z.shelf) is)) (on_new_shelf r i gone left split (λ j. n (subst (In r) (sym kept) j)));
          reached = by_change (goes Going.Together gone) l.reached can changes;
          query = opening_stays v u (goes Going.Together gone) can changes ∙ l.query;
        }

  pub after : (ns lines : List ℕ) (v : World) → ((n : ℕ) → In n ns → In n (numbers rest)) → RollBack w ns lines v → Left ns v
  after ns lines v among none_yet = start
  after ns lines v among (and_next {ns = before} {text = text} {line = line} {n = n} {v = u} done one) =
      next before n u (after before text u (λ m i. among m (in_left before (n ∷ []) m i)) done) (among n (in_last before n)) v line one

  module _ (v : World) (l : Left (numbers rest) v) where
    only_slice : (r : Record) → In r w.kept → In r v.kept → Belongs r
    only_slice r i j = elim (picks_has w.kept slice r parts.0 i) [
      | inl k ↦ (picks_in w.kept slice r parts.0 k).1
      | inr n ↦ elim (picks_has w.kept rest r parts.1 i) [ inl k ↦ absurd (l.gone r j (number_in rest r k)) | inr m ↦ absurd (m n) ]
    ]

    all_slice : (r : Record) → In r w.kept → Belongs r → In r v.kept
    all_slice r i b = elim (picks_has w.kept slice r parts.0 i) [ inl k ↦ l.has r k | inr n ↦ absurd (n b) ]

    pub alone : v.kept ≡ slice
    alone = picks_once w.kept v.kept slice (picks_alike w.kept v.kept (λ r i. (only_slice r i, all_slice r i)) l.part) parts.0

    -- it replays, from the opening that was there
    pub replays_alone : Replays w.opening.program w.opening.query slice v.state
    replays_alone = subst (λ (o : Opening). Replays o.program o.query slice v.state) l.query (subst (λ rs. Replays v.opening.program v.opening.query rs v.state) alone (replayed l.reached).replay)

    pub replays_back : Replays v.opening.program v.opening.query (v.kept ++ rest) w.state
    replays_back =
        subst (λ (o : Opening). Replays o.program o.query (v.kept ++ rest) w.state) (sym l.query) (subst (λ rs. Replays w.opening.program w.opening.query (rs ++ rest) w.state) (sym alone) way_back)

    -- each of the rest is on the shelf, and one after another is redone
    pub come_back : ComeBack w v (numbers rest)
    come_back hands =
        let back = replays_back in
        let kept = (replayed l.reached).replay in
        let s = runs_split v.opening.program v.kept rest (query_state v.opening.query) w.state back.1 in
        let same = run_once v.opening.program (query_state v.opening.query) v.kept s.0 v.state s.1 kept.1 in
        let all : (r : Record) → In r (v.kept ++ rest) → In r w.kept =
        λ r i. elim (in_either v.kept rest r i) [ inl j ↦ (picks_in w.kept v.kept r l.part j).0 | inr j ↦ (picks_in w.kept rest r parts.1 j).0 ]
        in
        let few = no_longer (v.kept ++ rest) w.kept (records_distinct (v.kept ++ rest) back.0.1) all in
        let most = (replayed standing).few in
        let both = length-append v.kept rest in
        redo_each hands rest v w.state (subst (λ z. Runs v.opening.program z rest w.state) same s.2)
        (λ r i. l.shelved r (picks_in w.kept rest r parts.1 i).0 (λ j. l.gone r j (number_in rest r i))) (picks_distinct w.kept rest parts.1 distinct) (omega arith) back.2

    pub same_query : v.opening ≡ w.opening
    same_query = l.query

pub keep_leaves : KeepLeavesTheSlice
keep_leaves w v x slice rest lines standing known parts done =
    let roots = Gave (value_at w.state.store) x in
    let l = after w roots slice rest standing parts (numbers rest) lines v (λ n i. i) done in
    let is = alone w roots slice rest standing parts v l in
    let good = reached_good standing in
    let there = (slices w.opening.program w.opening.query w.kept w.state x slice rest good.accepted good.asked (replayed standing).replay known parts).alone in
    let one : there.0 ≡ v.state = replay_once w.opening.program w.opening.query slice there.0 v.state there.1 (replays_alone w roots slice rest standing parts v l) in
    record {
      kept = is;
      variable = subst (λ (o : Opening). IsVariableOf o.query v.kept x) (sym (same_query w roots slice rest standing parts v l)) (subst (λ rs. IsVariableOf w.opening.query rs x) (sym is) there.2);
      same = subst (λ (s : State). SameFrom x (value_at w.state.store) (value_at s.store)) one there.3;
      way_back = replays_back w roots slice rest standing parts v l;
      redone = come_back w roots slice rest standing parts v l;
    }

-- the same of a goal, which has its status there
pub keep_leaves_goal : KeepLeavesTheGoal
keep_leaves_goal w v g b slice rest lines standing there parts done =
    let P = w.opening.program in
    let S = value_at w.state.store in
    let roots = GaveGoal P S g b in
    let l = after w roots slice rest standing parts (numbers rest) lines v (λ n i. i) done in
    let good = reached_good standing in
    let found = (goal_slices P w.opening.query w.kept w.state g b slice rest good.accepted good.asked (replayed standing).replay there parts).alone in
    let one : found.0 ≡ v.state = replay_once P w.opening.query slice found.0 v.state found.1 (replays_alone w roots slice rest standing parts v l) in
    let alike = subst (λ (s : State). IsThereAlike P g b S s) one found.2 in
    record {
      kept = alone w roots slice rest standing parts v l;
      alike = alike;
      same_status = λ s st.
          let goals : Some st.0 ≡ Some b = sym st.1 ∙ there in
          let same : st.0 ≡ b = cc in
          let has = status_there P S (value_at v.state.store) b s (subst (λ c. HasStatus P S c s) same st.2) (λ x looked. sym (alike.1 x looked)) in
          (b, alike.0, subst (λ (o : Opening). HasStatus o.program (value_at v.state.store) b s) (sym (same_query w roots slice rest standing parts v l)) has);
      way_back = replays_back w roots slice rest standing parts v l;
      redone = come_back w roots slice rest standing parts v l;
    }
