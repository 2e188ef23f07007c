-- The state of a world that is reached is the replay of its kept steps.
use Rattle.ghc_core.proofs.Words.{[], ◌≡◌, ℕ, ◌+◌, ◌<◌, ◌≤◌, List, ◌∷◌, ◌++◌, length, sym, ap, ◌∙◌, subst, inl, inr, arith, Some, None, nat_cmp, length-append, In, Program, number_limit, kept_limit, IsStepNumber, AreDistinct, State, Record, Shelf, numbers, after, Fires, query_state, Runs, records_distinct, not_both, shelved, unshelved, no_longer, picks_in, records_push, place_of, IsAsking, firing, World, IsReplay, IsKnown, Change, Comes as comes, Goes as goes, Reorders as reorders, Coming, all_gone, CanChange, Changes, Reaches, from_opening, by_change}
use Rattle.std.specs.FinMap as finite
use Rattle.ghc_depend.proofs.Arranging.{arranged}
use Rattle.ghc_core.specs.Returns as laws
use Rattle.ghc_core.proofs.Moving.{reachable_reached}
use Rattle.ghc_core.proofs.Naming.{named_push}
use Rattle.ghc_core.proofs.Reaching.{Good, each_more, not_kept_next, reached_good}

-- each step on the shelf that consumed nothing asks for goals
abbrev pub AskFromShelf : Program → Shelf → Type 0
AskFromShelf P shelf = (n : ℕ) (r : Record) → finite.get shelf n ≡ Some r → r.consumed ≡ None → IsAsking P r

-- the state is the replay of the kept steps, numbers and steps are within their limits, and shelved steps without a goal ask for goals
pub record Replayed (w : World) : Type 0 where
  pub replay : IsReplay w w.kept w.state
  pub within : w.next ≤ number_limit
  pub few : length w.kept ≤ kept_limit
  pub asking : AskFromShelf w.opening.program w.shelf

-- a step more is within the limit where there is room
pub one_more : (kept : List Record) (r : Record) → length kept < kept_limit → length (kept ++ r ∷ []) ≤ kept_limit
one_more kept r l = let e : length (kept ++ r ∷ []) ≡ length kept + 1 = length-append kept (r ∷ []) in omega arith

pub runs_push : (P : Program) (rs : List Record) (r : Record) (s t : State) → Runs P s rs t → Fires P t r → Runs P s (rs ++ r ∷ []) (after t r)
runs_push P [] r s t run f = (subst (λ z. Fires P z r) run f, ap (λ z. after z r) run)
runs_push P (q ∷ rs) r s t run f = (run.0, runs_push P rs r (after s q) t run.1 f)

-- the next number is that of no kept step
pub not_next : (w : World) → Good w → (r : Record) → r.number ≡ w.next → ¬ In r.number (numbers w.kept)
not_next w good r e i = not_kept_next w good (subst (λ m. In m (numbers w.kept)) e i)

module _ (w : World) (good : Good w) (h : Replayed w) where
  -- a step more at the end
  pub pushed : (r : Record) → Fires w.opening.program w.state r → IsKnown w r → IsStepNumber r.number → ¬ In r.number (numbers w.kept) → IsReplay w (w.kept ++ r ∷ []) (after w.state r)
  pushed r f known n new = (
    (each_more (λ z. IsStepNumber z.number) w.kept r h.replay.0.0 n, records_push w.kept r good.kept_once new),
    runs_push w.opening.program w.kept r (query_state w.opening.query) w.state h.replay.1 f,
    named_push w.opening.query w.kept r h.replay.2 known,
  )

  -- steps of the kept list are within the limit
  still_few : (rs : List Record) → AreDistinct (numbers rs) → ((r : Record) → In r rs → In r w.kept) → length rs ≤ kept_limit
  still_few rs d among = let l = no_longer rs w.kept (records_distinct rs d) among in let limit = h.few in omega arith

  -- a kept step that consumed nothing asks for goals
  kept_asks : (r : Record) → In r w.kept → r.consumed ≡ None → IsAsking w.opening.program r
  kept_asks r i none =
      let place = place_of w.opening.program w.opening.query w.kept w.state h.replay r i in
      elim (firing w.opening.program place.state r place.fires) [ inl t ↦ absurd (not_both t.consumed none) | inr a ↦ a ]

  changed : (change : Change) (v : World) → CanChange w change → Changes w change v → Replayed v
  changed (comes Coming.Next r) v can e = subst Replayed (sym e) (record {
    replay = (let first = good.first in pushed r can.1 can.3 (omega (arith, first, can.0, can.2.0), omega (arith, can.0, can.2.0)) (not_next w good r can.0));
    within = omega (arith, can.2.0);
    few = one_more w.kept r can.2.1;
    asking = h.asking;
  })
  changed (comes Coming.Shelved r) v can e =
      let on = good.shelf r.number r can.0 in
      let limit = h.within in
      subst Replayed (sym e) (record {
        replay = pushed r can.1 can.3 (omega (arith, on.1), omega (arith, on.2, limit)) on.3;
        within = h.within;
        few = one_more w.kept r can.2;
        asking = λ n s e none. h.asking n s (unshelved w.shelf r.number n s e).0 none;
      })
  changed (goes how gone) v can (left, split, (t, run, e)) = subst Replayed (sym e) (record {
    replay = run;
    within = h.within;
    few = still_few left run.0.1 (λ s i. (picks_in w.kept left s split.1 i).0);
    asking = λ n r e none. elim (shelved (all_gone gone) w.shelf n r e) [
      | inl g ↦ kept_asks r (picks_in w.kept (all_gone gone) r split.0 g.0).0 none
      | inr k ↦ h.asking n r k none
    ];
  })
  changed (reorders a) v can e =
      let run = arranged w.opening.program w.opening.query w.kept w.state a.order a.records good.accepted good.asked h.replay can.0 can.1 in
      subst Replayed (sym e) (record { replay = run; within = h.within; few = still_few a.records run.0.1 (λ s i. (can.1.1 s).0 i); asking = h.asking })

pub replayed : {w : World} → Reaches w → Replayed w
replayed (from_opening sound opens) = record {
  replay = opens.state;
  within = subst (λ n. n ≤ number_limit) (sym opens.next) opens.numbered.1;
  few = opens.few;
  asking = λ n r e none. absurd (not_both e (ap (λ m. finite.get m n) opens.shelf ∙ finite.get-empty nat_cmp n));
}
replayed (by_change {w = w} {v = v} change r can changes) = changed w (reached_good r) (replayed r) change v can changes

pub reachable_replay : laws.ReachableIsReplay
reachable_replay w hands r = (replayed (reachable_reached r)).replay
