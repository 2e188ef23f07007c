-- A part of each record, one slot more at a time; and the history of a standing world is of the form.
use Rattle.ghc_core.proofs.Words.{◌≡◌, ℕ, suc, ◌+◌, ◌<◌, ◌≤◌, List, [], ◌∷◌, ◌++◌, drop, drop-cons, length, map, sym, ap, ◌∙◌, subst, inl, inr, slice_get, append_assoc, append-nil, drop_of_length-le, refl, arith, Option, Some, slice_get_within, get_or_from_slice_get, VarName, Tree, Goal, call, In, in_at, value_at, Program, ByClause as by_clause, Effect, HasEffect, AreDistinct, Record, IsHistory, Step, step_of, SlotList, held_in, StandsIn, held_stands, rank, rank_zero, rank_end, rank_stands, rank_next, rank_gap, Taken, firing, Place, place_of, World, IsStanding, AsksForGoals, AskForGoals, KeepsSlot, history_of, length-map}
use Rattle.ghc_core.proofs.Reaching.{reached_good}
use Rattle.ghc_core.proofs.Replayed.{replayed}
use Rattle.ghc_core.proofs.Loading.{step_numbers}

-- What is left from a place on is the item there and the rest.
pub drop_at : {X : Type 0} (rs : List X) (i : ℕ) (r : X) → slice_get rs i ≡ Some r → drop i rs ≡ r ∷ drop (i + 1) rs
drop_at rs i r e =
    let more : suc i ≡ i + 1 = omega arith in
    drop-cons rs i r (slice_get_within rs i r e) ∙ (λ k. get_or_from_slice_get rs i r r e k ∷ drop (more k) rs)

module _ {A : Type 0} (part : Record → A) where
  -- Where the parts found and those from a slot on are all parts, so are those found after it and those of the next slot on.
  pub slot_on : (ss : SlotList) (i : ℕ) (before later : List A) → KeepsSlot part ss i before later → before ++ map part (drop (rank ss i) (held_in ss)) ≡ map part (held_in ss)
      → later ++ map part (drop (rank ss (i + 1)) (held_in ss)) ≡ map part (held_in ss)
  slot_on ss i before later (inl t) whole =
      rw (rank_next ss i t.0 t.1, t.2, append_assoc) (rw (drop_at (held_in ss) (rank ss i) t.0 (rank_stands ss i t.0 t.1)) at whole)
  slot_on ss i before later (inr t) whole = rw (rank_gap ss i t.0, t.1) whole

  -- at the start, and past the last slot
  pub none_yet : (ss : SlotList) (found : List A) → found ≡ [] → found ++ map part (drop (rank ss 0) (held_in ss)) ≡ map part (held_in ss)
  none_yet ss found none = rw (none, rank_zero ss)

  pub all_found : (ss : SlotList) (places : ℕ) (found : List A) → length ss ≤ places → found ++ map part (drop (rank ss places) (held_in ss)) ≡ map part (held_in ss) → found ≡ map part (held_in ss)
  all_found ss places found past whole =
      rw (drop_of_length-le (held_in ss) {i = rank ss places} (omega (arith, rank_end ss places past)), append-nil) at whole

-- none of the records in the slots in front of this place asks for goals
abbrev pub NoneAsks : SlotList → ℕ → Type 0
NoneAsks ss i = (p : ℕ) (r : Record) → p < i → StandsIn ss p r → ¬ AsksForGoals r

pub none_asks_next : (ss : SlotList) (i : ℕ) → NoneAsks ss i → ((r : Record) → StandsIn ss i r → ¬ AsksForGoals r) → NoneAsks ss (i + 1)
none_asks_next ss i before here p r l at = grind (arith, before p r, here r)

-- so none does, where no slot is left
pub none_asks : (ss : SlotList) (i : ℕ) → length ss ≤ i → NoneAsks ss i → ¬ AskForGoals (held_in ss)
none_asks ss i long none (r, there, asks) =
    let w = held_stands ss r there in
    none w.0 r (omega (arith, slice_get_within ss w.0 (Some r) w.1)) w.1 asks

-- one that stands in a slot is one of the records
pub asks_in : (ss : SlotList) (p : ℕ) (r : Record) → StandsIn ss p r → AsksForGoals r → AskForGoals (held_in ss)
asks_in ss p r at asks = (r, in_at (held_in ss) (rank ss p) r (rank_stands ss p r at), asks)

-- a step of the records is that of one of them
pub step_back : (rs : List Record) (s : Step) → In s (map step_of rs) → (r : Record) × In r rs × (step_of r ≡ s)
step_back [] s i = absurd i
step_back (r ∷ rs) s (inl e) = (r, inl refl, sym e)
step_back (r ∷ rs) s (inr i) = let q = step_back rs s i in (q.0, inr q.1, q.2)

-- a clause by which a goal is reduced has a number from 1 on
clause_number : (P : Program) (b : Goal) (k n : ℕ) (S : VarName → Option Tree) (e : Effect) → HasEffect P b (by_clause k) n S e → 1 ≤ k
clause_number P (call f ts) k n S e h = let same = h.2.1 in omega (arith, same)
clause_number P b k n S e h = absurd h

-- The history of a standing world of which no step asks for goals is of the form.
pub saved_form : (w : World) → IsStanding w → ¬ AskForGoals w.kept → IsHistory (history_of w)
saved_form w stands unasked =
    let good = reached_good stands in
    let played = replayed stands in
    let used : (s : Step) → In s (map step_of w.kept) → (r : Record) × In r w.kept × (step_of r ≡ s) = step_back w.kept in
    let place : (r : Record) → In r w.kept → Place w.opening.program w.opening.query w.kept r = place_of w.opening.program w.opening.query w.kept w.state played.replay in
    let of : (r : Record) (i : In r w.kept) → Taken w.opening.program (place r i).state r = λ r i. elim (firing w.opening.program (place r i).state r (place r i).fires) [
      | inl t ↦ t
      | inr a ↦ absurd (unasked (r, i, (a.goals, a.act)))
    ] in
    record {
      few = omega (arith, played.few, length-map w.kept step_of);
      numbered = λ s i. let r = used s i in subst (λ (q : Step). (1 ≤ q.number) × (q.number < w.next)) r.2 (good.positive r.0 r.1, good.below r.0 r.1);
      of_goals = λ s i. let r = used s i in let goal = of r.0 r.1 in (goal.name, sym (ap (λ (q : Step). q.goal) r.2) ∙ goal.named);
      unasked = λ s gs i e. let r = used s i in unasked (r.0, r.1, (gs, ap (λ (q : Step). q.act) r.2 ∙ e));
      of_clauses = λ s k i by. let r = used s i in let at = place r.0 r.1 in let goal = of r.0 r.1 in
          clause_number w.opening.program goal.goal k r.0.number (value_at at.state.store) r.0.effect
          (subst (λ a. HasEffect w.opening.program goal.goal a r.0.number (value_at at.state.store) r.0.effect) (ap (λ (q : Step). q.act) r.2 ∙ by) goal.effect);
      distinct = subst AreDistinct (step_numbers w.kept) good.kept_once;
      next_number = (good.first, played.within);
    }
