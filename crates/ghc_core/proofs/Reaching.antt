-- A world that is reached is in order.
use Rattle.ghc_core.proofs.Words.{◌≡◌, ℕ, ◌+◌, ◌<◌, ◌≤◌, List, [], ◌∷◌, ◌++◌, sym, ap, ◌∙◌, subst, inl, inr, arith, Some, None, nat_cmp, In, IsAcyclic, value_at, in_left, in_more, IsProgram, IsQuery, made, AreDistinct, State, Record, numbers, after, Fires, IsVariableOf, Opening, Entry, number_in, number_of, record_once, numbers_append, HasOnly, has_more, after_has, after_acyclic, of_query, replay_well, OneEach, after_one_each, run_one_each, query_one_each, GoesWith, IsLawful, IsInOrder, picks_in, records_push, shelved, unshelved, Hands, World, IsReplay, IsKnown, IsNextStep, with_step, Opens, Change, Comes as comes, Goes as goes, Reorders as reorders, Coming, all_gone, with_coming, without_steps, CanChange, Changes, AreNamesOf, IsSound, Reaches, from_opening, by_change, IsReachable, Shelf, in_last, ◌≢◌}
use Rattle.std.specs.FinMap as finite
use Rattle.ghc_core.specs.Laws as laws
use Rattle.ghc_core.proofs.Moving.{reachable_reached}
use Rattle.ghc_core.proofs.Naming.{known_more}

-- what is known of a shelved step
abbrev pub OnShelf : World → ℕ → Record → Type 0
OnShelf w n r = (r.number ≡ n) × (1 ≤ n) × (n < w.next) × (¬ In n (numbers w.kept))

-- what holds of each world that is reached
pub record Good (w : World) : Type 0 where
  pub accepted : IsProgram w.opening.program
  pub asked : IsQuery w.opening.program w.opening.query
  pub named : AreNamesOf w.opening.query w.opening.names
  pub kept_once : AreDistinct (numbers w.kept)
  pub positive : (r : Record) → In r w.kept → 1 ≤ r.number
  pub below : (r : Record) → In r w.kept → r.number < w.next
  pub shelf : (n : ℕ) (r : Record) → finite.get w.shelf n ≡ Some r → OnShelf w n r
  pub first : 1 ≤ w.next
  pub acyclic : IsAcyclic (value_at w.state.store)
  pub has : HasOnly (IsVariableOf w.opening.query w.kept) w.state
  pub one : OneEach w.state

-- what holds of each record, and of one more
pub each_more : (P : Record → Type 0) (rs : List Record) (r : Record) → ((s : Record) → In s rs → P s) → P r → (s : Record) → In s (rs ++ r ∷ []) → P s
each_more P rs r old own s i = elim (in_more rs r s i) [ inl j ↦ old s j | inr e ↦ subst P (sym e) own ]

-- A world whose kept steps were run from its query is in order, as far as they go.
replayed_good : (w : World) → IsProgram w.opening.program → IsQuery w.opening.program w.opening.query → AreNamesOf w.opening.query w.opening.names
    → IsReplay w w.kept w.state → ((r : Record) → In r w.kept → r.number < w.next)
    → ((n : ℕ) (r : Record) → finite.get w.shelf n ≡ Some r → OnShelf w n r) → 1 ≤ w.next → Good w
replayed_good w accepted asked named replay below shelf first =
    let well = replay_well w.opening.program w.opening.query w.kept w.state accepted asked replay in
    let positive : (r : Record) → In r w.kept → 1 ≤ r.number = λ r i. (replay.0.0 r i).0 in
    let has : HasOnly (IsVariableOf w.opening.query w.kept) w.state =
    record { keys = well.bound; values = λ x u p y o. well.values x y u p o; goals = well.goals } in
    assumption (run_one_each w.opening.program accepted w.kept _ w.state replay.1 (query_one_each w.opening.program w.opening.query asked))

module _ (w : World) (good : Good w) where
  -- a number of some of the kept records is that of a kept one
  kept_number : (rs : List Record) → ((s : Record) → In s rs → In s w.kept) → (n : ℕ) → In n (numbers rs) → In n (numbers w.kept)
  kept_number rs kept n i = let (r, there, is) = number_of rs n i in rw is at (number_in w.kept r (kept r there))

  -- a step more at the end of the record, which is not on the shelf
  push_good : (r : Record) (next : ℕ) (shelf : Shelf) (journal : List Entry) → Fires w.opening.program w.state r → IsKnown w r → 1 ≤ r.number
      → ¬ In r.number (numbers w.kept) → w.next ≤ next → r.number < next
      → ((m : ℕ) (s : Record) → finite.get shelf m ≡ Some s → (finite.get w.shelf m ≡ Some s) × (m ≢ r.number))
      → Good (record w { state = after w.state r; kept = w.kept ++ r ∷ []; shelf = shelf; next = next; journal = journal })
  push_good r next shelf journal fires known positive new later less off =
      let kept = w.kept ++ r ∷ [] in
      let longer = known_more w.opening.query w.kept kept (in_left w.kept (r ∷ [])) in
      record {
        accepted = good.accepted;
        asked = good.asked;
        named = good.named;
        kept_once = records_push w.kept r good.kept_once new;
        positive = each_more (λ s. 1 ≤ s.number) w.kept r good.positive positive;
        below = each_more (λ s. s.number < next) w.kept r (λ s j. let b = good.below s j in omega arith) less;
        shelf = λ m s e.
            let on = off m s e in
            let (number, some, low, not) = good.shelf m s on.0 in
            (number, some, omega arith, λ i. elim (in_more (numbers w.kept) r.number m (rw numbers_append at i)) [ inl j ↦ not j | inr same ↦ on.1 same ]);
        first = omega (arith, good.first);
        acyclic = after_acyclic w.opening.program w.state r fires (IsVariableOf w.opening.query w.kept) good.acyclic good.has (λ i is. elim is [
          | inl q ↦ let n : r.number ≡ 0 = of_query w.opening.program w.opening.query (made r.number i) good.asked q in omega arith
          | inr q ↦ new (subst (λ n. In n (numbers w.kept)) (sym q.2.0) (number_in w.kept q.0 q.1))
        ]);
        has = after_has w.opening.program w.state r fires (IsVariableOf w.opening.query kept) good.accepted good.acyclic
            (has_more (IsVariableOf w.opening.query w.kept) (IsVariableOf w.opening.query kept) w.state longer good.has)
            (λ y m. inr (r, in_last w.kept r, m)) (λ y n. longer y (known y n));
        one = after_one_each w.opening.program good.accepted w.state r fires good.one;
      }

  pub not_kept_next : ¬ In w.next (numbers w.kept)
  not_kept_next i = let q = number_of w.kept w.next i in let b = good.below q.0 q.1 in omega (arith, q.2)

  step_good : (r : Record) → IsNextStep w r → Good (with_step r w)
  step_good r n =
      push_good r (w.next + 1) w.shelf _ n.1 n.3 (rw n.0 good.first) (rw n.0 not_kept_next) (omega arith) (omega (arith, n.0))
      (λ m s e. (e, λ same. omega (arith, (good.shelf m s e).2, same, n.0)))

  redone_good : (r : Record) → finite.get w.shelf r.number ≡ Some r → Fires w.opening.program w.state r → IsKnown w r → Good (with_coming Coming.Shelved r w)
  redone_good r e fires known =
      let on = good.shelf r.number r e in
      push_good r w.next (finite.remove w.shelf r.number) _ fires known on.1 on.3 (omega arith) on.2 (unshelved w.shelf r.number)

  without_good : (gone left : List Record) (t : State) (entry : Entry) → ((s : Record) → In s gone → In s w.kept) → ((s : Record) → In s left → In s w.kept) → ((s u : Record) → In s gone → In u left → ¬ (s ≡ u))
      → IsReplay w left t → Good (without_steps gone left t entry w)
  without_good gone left t entry of_gone of_left apart replay =
      replayed_good _ good.accepted good.asked good.named replay (λ r i. good.below r (of_left r i))
      (λ n r e. elim (shelved gone w.shelf n r e) [
        | inl (there, is) ↦ (
          is,
          rw is at (good.positive r (of_gone r there)),
          rw is at (good.below r (of_gone r there)),
          λ i.
              let q = number_of left n i in
              apart r q.0 there q.1 (record_once w.kept r q.0 good.kept_once (of_gone r there) (of_left q.0 q.1) (is ∙ sym q.2)),
        )
        | inr k ↦ let o = good.shelf n r k in (o.0, o.1, o.2, λ i. o.3 (kept_number left of_left n i))
      ]) good.first

  arranged_good : (order : List ℕ) (new : List Record) (journal : List Entry) → IsLawful w.kept order → IsInOrder w.kept order new → Good (record w { kept = new; journal = journal })
  arranged_good order new journal lawful o =
      let among : (r : Record) → In r new → In r w.kept = λ r i. (o.1 r).0 i in
      let shelf : (n : ℕ) (r : Record) → finite.get w.shelf n ≡ Some r → (r.number ≡ n) × (1 ≤ n) × (n < w.next) × (¬ In n (numbers new)) =
      λ n r e. let s = good.shelf n r e in (s.0, s.1, s.2, λ i. s.3 (kept_number new among n i)) in
      let has = has_more _ (IsVariableOf w.opening.query new) w.state (known_more w.opening.query w.kept new (λ r i. (o.1 r).1 i)) good.has in
      search (good, good.positive, good.below, subst AreDistinct (sym o.0) lawful.0.0.1)

  changed_good : (change : Change) (v : World) → CanChange w change → Changes w change v → Good v
  changed_good (comes Coming.Next r) v can e = subst Good (sym e) (step_good r can)
  changed_good (comes Coming.Shelved r) v can e = subst Good (sym e) (redone_good r can.0 can.1 can.3)
  changed_good (goes how gone) v can (left, split, (t, run, e)) =
      subst Good (sym e) (without_good (all_gone gone) left t _ (λ s i. (picks_in w.kept (all_gone gone) s split.0 i).0) (λ s i. (picks_in w.kept left s split.1 i).0)
      (λ s u i j same. (picks_in w.kept left u split.1 j).1 (subst (GoesWith w.kept gone.first) same (picks_in w.kept (all_gone gone) s split.0 i).1)) run)
  changed_good (reorders a) v can e = subst Good (sym e) (arranged_good a.order a.records _ can.0 can.1)

opened_good : {w : World} {o : _} → IsSound o → Opens o w → Good w
opened_good {w} sound opens =
    let accepted : IsProgram w.opening.program = subst (λ p. IsProgram p.program) (sym opens.opening) sound.0 in
    let asked : IsQuery w.opening.program w.opening.query = subst (λ p. IsQuery p.program p.query) (sym opens.opening) sound.1 in
    replayed_good w accepted asked (subst (λ (p : Opening). AreNamesOf p.query p.names) (sym opens.opening) sound.2) opens.state (rw opens.next opens.below)
    (λ n r e. absurd (let clash : None ≡ Some r = sym (finite.get-empty nat_cmp n) ∙ ap (λ m. finite.get m n) (sym opens.shelf) ∙ e in cc))
    (rw opens.next opens.numbered.0)

pub reached_good : {w : World} → Reaches w → Good w
reached_good (from_opening sound opens) = opened_good sound opens
reached_good (by_change {w = w} {v = v} change r can changes) = changed_good w (reached_good r) change v can changes

pub reachable_good : {w : World} {hands : Hands} → IsReachable w hands → Good w
reachable_good r = reached_good (reachable_reached r)

pub reached : laws.ReachableIsOrderly
reached w hands r = let g = reachable_good r in record { kept_once = g.kept_once; acyclic = g.acyclic; streams_once = λ k n m s u p q. g.one k n m s u p q }

pub known : laws.ReachableIsWellMade
known w hands r = let g = reachable_good r in record { acyclic = g.acyclic; goals = g.has.goals; bound = g.has.keys; values = λ x y u p o. g.has.values x u p y o }
