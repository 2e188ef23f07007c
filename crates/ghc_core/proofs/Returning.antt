-- Steps are taken away, and what was taken last is undone.
use Rattle.ghc_core.proofs.Words.{[], ◌≡◌, ℕ, true, false, List, ◌∷◌, ◌++◌, refl, sym, subst, inl, inr, ap, In, Fault, in_last, in_more, nat_decided, in_decided, nothing, leave, AreDistinct, State, Record, Shelf, Entry, numbers, query_state, undid, rolled, run_once, picks_once, is_before, before_in, before_once, number_in, number_of, records_distinct, DependsOn, Follows, directly, further, IsKeptAs, IsWithoutSteps, IsWithout, IsSplitAt, IsLawful, IsInOrder, neighbours_lawful, first_or_none, before_front, records_push, first_gone, Change, Comes as comes, Goes as goes, Reorders as reorders, Coming, Going, Gone, all_gone, no_hands, World, IsReplay, without_steps, with_order, CanChange, Changes, undo, roll, Reply, stepped, undone, refused, to_undo, to_roll, to_arrange, told_of, Obeys, does, refuses, makes, says, Reaches}
use Rattle.ghc_records.specs.Orders.{take}
use Rattle.ghc_depend.proofs.Undoing as undoing
use Rattle.ghc_core.proofs.Alone.{goes_alone, others_left}
use Rattle.ghc_core.specs.Returns as laws
use Rattle.ghc_core.proofs.Reaching.{Good, reached_good, reachable_good}
use Rattle.ghc_core.proofs.Replayed.{not_next, replayed, reachable_replay}
use Rattle.ghc_core.proofs.Refusing.{not_kept, has_consequence}
use Rattle.ghc_core.proofs.Telling.{said_changes_nothing}
use Rattle.ghc_core.proofs.Taking.{reached_reachable}

-- A kept step and its consequences are taken away.
rolls_away : {Starved : Type 0} (w : World) (n : ℕ) (r : Record) → AreDistinct (numbers w.kept) → IsKeptAs w.kept n r → (gone left : List Record) (t : State) → IsSplitAt w.kept r gone left → IsReplay w left t
    → Obeys Starved w (roll n) (undone (numbers gone)) (without_steps gone left t (rolled r.number) w)
rolls_away {Starved} w n r distinct k gone left t split run =
    let first = first_gone w.kept r gone left distinct k.0 split in
    let parts : IsSplitAt w.kept r (r ∷ first.0) left = subst (λ z. IsSplitAt w.kept r z left) first.1 split in
    subst (λ z. Obeys Starved w (roll n) (undone (numbers z)) (without_steps z left t (rolled r.number) w)) (sym first.1)
    (does {change = goes Going.Together (record { first = r; others = first.0 })} (to_roll k.1) (k.0, (left, parts), tt) (left, parts, (t, run, refl)) refl)

-- A kept step without consequences is taken away.
undoes_away : {Starved : Type 0} (w : World) (n : ℕ) (r : Record) → AreDistinct (numbers w.kept) → IsKeptAs w.kept n r → ((b : Record) → ¬ Follows w.kept r b) → (left : List Record) (t : State) → IsWithout w.kept r left → IsReplay w left t
    → Obeys Starved w (undo n) (undone (n ∷ [])) (without_steps (r ∷ []) left t (undid r.number) w)
undoes_away w n r distinct k none left t out run =
    let alone = goes_alone w.kept distinct r k.0 none in
    let same : alone.0 ≡ left = picks_once w.kept alone.0 left (others_left w.kept r alone.0 alone.1) out in
    let split : IsSplitAt w.kept r (r ∷ []) left = subst (IsSplitAt w.kept r (r ∷ [])) same alone.1 in
    does {change = goes Going.Alone (record { first = r; others = [] })} (to_undo k.1) (k.0, (left, split), refl) (left, split, (t, run, refl)) (ap (λ m. undone (m ∷ [])) (sym k.1))

pub undo_takes : laws.UndoTakesStepAway
undo_takes w hands n r reach k none =
    let good = reachable_good reach in
    let u = undoing.undone w.opening.program w.opening.query w.kept w.state r good.accepted good.asked (reachable_replay w hands reach) k.0 none in
    (without_steps (r ∷ []) u.0 u.1 (undid r.number) w, undoes_away w n r good.kept_once k none u.0 u.1 u.2 u.3, u.2, u.4)

pub roll_takes : laws.RollTakesStepsAway
roll_takes w hands n r reach k =
    let good = reachable_good reach in
    let u = undoing.rolled w.opening.program w.opening.query w.kept w.state r good.accepted good.asked (reachable_replay w hands reach) k.0 in
    (u.0, without_steps u.0 u.1 u.2 (rolled r.number) w, rolls_away w n r good.kept_once k u.0 u.1 u.2 u.3 u.4, u.3, u.5)

module _ (w v : World) (s : Reaches w) where
  -- What takes steps away leaves the state without them.
  pub going_leaves : (how : Going) (gone : Gone) → CanChange w (goes how gone) → Changes w (goes how gone) v → IsWithoutSteps (all_gone gone) w.state v.state
  going_leaves how gone can (left, split, (t, run, e)) =
      let good = reached_good s in
      let u = undoing.rolled w.opening.program w.opening.query w.kept w.state gone.first good.accepted good.asked (replayed s).replay can.0 in
      let all : u.0 ≡ all_gone gone = picks_once w.kept u.0 (all_gone gone) u.3.0 split.0 in
      let run_u = rw (picks_once w.kept u.1 left u.3.1 split.1) at u.4 in
      let states : u.2 ≡ t = run_once w.opening.program (query_state w.opening.query) left u.2 t run_u.1 run.1 in
      subst (λ (z : World). IsWithoutSteps (all_gone gone) w.state z.state) (sym e) (subst (λ (x : State). IsWithoutSteps (all_gone gone) w.state x) states (subst (λ g. IsWithoutSteps g w.state u.2) all u.5))

pub undoes_answered : (w : World) (n : ℕ) → Reaches w → (reply : Reply) × (v : World) × Obeys ⊥ w (undo n) reply v
undoes_answered w n reach = elim (in_decided nat_decided n (numbers w.kept)) [
  | inr no_one ↦ (refused Fault.NotKept, w, refuses (not_kept (λ r i e. no_one (subst (λ m. In m (numbers w.kept)) e (number_in w.kept r i)))))
  | inl i ↦
      let r = number_of w.kept n i in
      elim (first_or_none w.kept (reached_good reach).kept_once r.0 r.1) [
        | inl b ↦ (refused (Fault.HasConsequence b.0.number), w, refuses (has_consequence r.0 b.0 (r.1, r.2) b.1))
        | inr none ↦ let u = undo_takes w no_hands n r.0 (reached_reachable reach) (r.1, r.2) none in (undone (n ∷ []), u.0, u.1)
      ]
]

pub rolls_answered : (w : World) (n : ℕ) → Reaches w → (reply : Reply) × (v : World) × Obeys ⊥ w (roll n) reply v
rolls_answered w n reach = elim (in_decided nat_decided n (numbers w.kept)) [
  | inr no_one ↦ (refused Fault.NotKept, w, refuses (refl, λ r i e. no_one (subst (λ m. In m (numbers w.kept)) e (number_in w.kept r i))))
  | inl i ↦ let r = number_of w.kept n i in let u = roll_takes w no_hands n r.0 (reached_reachable reach) (r.1, r.2) in (undone (numbers u.0), u.1, u.2)
]

-- the last step has no consequences
last_alone : (rs : List Record) (r : Record) → AreDistinct (rs ++ r ∷ []) → {b : Record} → ¬ Follows (rs ++ r ∷ []) r b
last_alone rs r distinct (directly {b = b} d) =
    let before = is_before (rs ++ r ∷ []) r b d.0 in
    elim (in_more rs r b (before_in (rs ++ r ∷ []) r b before).1) [
      | inl i ↦ before_once (rs ++ r ∷ []) r b distinct before (before_front rs [] r b i)
      | inr same ↦ let again = rw same at before in before_once (rs ++ r ∷ []) r r distinct again again
    ]
last_alone rs r distinct (further f d) = last_alone rs r distinct f

-- without the last step the others are left
without_last : (rs : List Record) (r : Record) → ((s : Record) → In s rs → ¬ (s ≡ r)) → IsWithout (rs ++ r ∷ []) r rs
without_last [] r apart = leave (λ n. n refl) nothing
without_last (q ∷ rs) r apart = take (apart q (inl refl)) (without_last rs r (λ s i. apart s (inr i)))

-- a step that was just taken is undone, which gives back the old state and the old kept list
abbrev Undone : World → ℕ → World → Type 0
Undone w n v = (u : World) × Obeys ⊥ v (undo n) (undone (n ∷ [])) u × (u.state ≡ w.state) × (u.kept ≡ w.kept)

module _ (w : World) (good : Good w) (replay : IsReplay w w.kept w.state) where
  -- a world with a step more at its end
  undo_last : (r : Record) (s : State) (shelf : Shelf) (next : ℕ) (es : List Entry) → ¬ In r.number (numbers w.kept)
      → Undone w r.number (record { opening = w.opening; state = s; kept = w.kept ++ r ∷ []; shelf = shelf; next = next; journal = es })
  undo_last r s shelf next es new =
      let v : World = record { opening = w.opening; state = s; kept = w.kept ++ r ∷ []; shelf = shelf; next = next; journal = es } in
      let once = records_push w.kept r good.kept_once new in
      let others = without_last w.kept r (λ s i e. new (rw (← e) (number_in w.kept s i))) in (
        without_steps (r ∷ []) w.kept w.state (undid r.number) v,
        undoes_away v r.number r once (in_last w.kept r, refl) (λ b f. last_alone w.kept r (records_distinct _ once) f) w.kept w.state others replay,
        refl,
        refl,
      )

  -- a change whose reply is a step took one
  undo_changed : (n : ℕ) (v : World) (change : Change) → CanChange w change → Changes w change v → stepped n ≡ told_of change → Undone w n v
  undo_changed n v (comes Coming.Next r) can e told = let same : n ≡ r.number = cc in rw (e, same) (undo_last r _ _ _ _ (not_next w good r can.0))
  undo_changed n v (comes Coming.Shelved r) can e told = let same : n ≡ r.number = cc in rw (e, same) (undo_last r _ _ _ _ (good.shelf r.number r can.0).3)
  undo_changed n v (goes how gone) can e told = cc
  undo_changed n v (reorders a) can e told = cc

pub step_then_undo : laws.StepThenUndo
step_then_undo w v hands left e n reach (makes {change = change} has asks can changes told) =
    undo_changed w (reachable_good reach) (reachable_replay w hands reach) n v change can changes told
step_then_undo w v hands left e n reach (says has said) = let clash : true ≡ false = said_changes_nothing said in cc

-- two neighbours that do not depend on each other are in a lawful order the other way round
pub neighbours_arranged : laws.NeighboursAreArranged
neighbours_arranged w hands front back a b reach splits apart =
    let new = front ++ b ∷ a ∷ back in
    let l = neighbours_lawful front back a b (subst (λ ks. AreDistinct (numbers ks)) splits (reachable_good reach).kept_once) (λ d. apart (subst (λ ks. DependsOn ks b a) (sym splits) d)) in
    let here = subst (λ ks. IsLawful ks (numbers new) × IsInOrder ks (numbers new) new) (sym splits) l in
    (with_order (numbers new) new w, does {change = reorders (record { records = new; order = numbers new })} (to_arrange refl) here refl refl, refl, refl)
