-- A step that comes, from wherever.
use Rattle.ghc_core.proofs.Words.{◌≡◌, List, ◌∷◌, [], ◌++◌, refl, subst, GoalName, In, IsAcyclic, value_at, State, Record, numbers, after, Fires, AreLeft, Tries, Binds, Comes as comes, Coming, World, IsStanding, AreExactIn, IsConsistent, AreCarriedOver, with_coming, CanChange, by_change, told, TellStreams}
use Rattle.ghc_core.proofs.Exactness.{IsNumberNew, next_is_new, shelved_is_new, over_exact, over_left}
use Rattle.ghc_core.proofs.Reaching.{reached_good}
use Rattle.ghc_core.proofs.Replayed.{not_next}
use Rattle.ghc_core.proofs.Standing.{standing_well_made}
use Rattle.ghc_core.proofs.StreamNames.{stands_over}

-- The step is possible now, and its number is that of no kept step and of no goal.
pub record IsNew (w : World) (r : Record) : Type 0 where
  pub fires : Fires w.opening.program w.state r
  pub own : ¬ In r.number (numbers w.kept)
  pub number : IsNumberNew w r

pub comes_new : (w : World) → IsStanding w → (from : Coming) (r : Record) → CanChange w (comes from r) → IsNew w r
comes_new w s Coming.Next r can = record { fires = can.1; own = not_next w (reached_good s) r can.0; number = next_is_new w s r can }
comes_new w s Coming.Shelved r can = record { fires = can.1; own = ((reached_good s).shelf r.number r can.0).3; number = shelved_is_new w s r can.0 }

-- The world v is w with the step more at its end.
pub record IsLonger (w : World) (r : Record) (v : World) : Type 0 where
  pub opening : v.opening ≡ w.opening
  pub state : v.state ≡ after w.state r
  pub kept : v.kept ≡ w.kept ++ r ∷ []

pub comes_last : (from : Coming) (r : Record) (w : World) → IsLonger w r (with_coming from r w)
comes_last Coming.Next r w = record { opening = refl; state = refl; kept = refl }
comes_last Coming.Shelved r w = record { opening = refl; state = refl; kept = refl }

module _ (w : World) (s : IsStanding w) where
  -- the store stays acyclic
  pub comes_acyclic : (from : Coming) (r : Record) → CanChange w (comes from r) → IsAcyclic (value_at (after w.state r).store)
  comes_acyclic from r can = subst (λ (t : State). IsAcyclic (value_at t.store)) (comes_last from r w).state (standing_well_made (with_coming from r w) (by_change (comes from r) s can refl)).acyclic

  module _ (old new : Tries) (exact : AreExactIn w old.notes old.untried) where
    -- what a core holds is consistent again,
    pub comes_consistent : (from : Coming) (r : Record) → CanChange w (comes from r) → AreCarriedOver r old new → (names behind : List GoalName) → TellStreams w.opening.query w.state.goals names
        → behind ≡ told r names → IsConsistent (with_coming from r w) new.notes new.untried behind
    comes_consistent Coming.Next r can carried names behind streams same =
        let n = comes_new w s Coming.Next r can in
        record { standing = by_change (comes Coming.Next r) s can refl; exact = over_exact w r n.fires n.number old new exact carried; streams = stands_over w s r n.fires names behind same streams }
    comes_consistent Coming.Shelved r can carried names behind streams same =
        let n = comes_new w s Coming.Shelved r can in
        record { standing = by_change (comes Coming.Shelved r) s can refl; exact = over_exact w r n.fires n.number old new exact carried; streams = stands_over w s r n.fires names behind same streams }

    -- and the notes are left of goals that did not look at what it binds.
    pub comes_left : (from : Coming) (r : Record) → CanChange w (comes from r) → AreCarriedOver r old new → AreLeft (after w.state r).goals (Binds r) old.notes new.notes
    comes_left from r can carried = let n = comes_new w s from r can in over_left w r n.fires n.number old new exact carried
