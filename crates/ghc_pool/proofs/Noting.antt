-- What a note says of a goal.
use Rattle.ghc_pool.proofs.Words.{◌≡◌, Bool, sym, ap, ◌∙◌, Some, ◌↔◌, IsTrue, GoalName, Variables, Status, ready, waiting, Note, NotesByGoal, same_value, IsNotedReady, IsNotedWaiting}
use Rattle.std.specs.FinMap as finite

module _ (notes : NotesByGoal) (g : GoalName) (note : Note) (there : finite.get notes g ≡ Some note) (s : Status) (says : note.status ≡ s) (t : Bool) where
  other : (n : Note) → finite.get notes g ≡ Some n → n.status ≡ s
  other n k = ap (λ (z : Note). z.status) (same_value k there) ∙ says

  pub noted_ready : (IsTrue t ↔ (s ≡ ready)) → IsTrue t ↔ IsNotedReady notes g
  noted_ready h = (λ yes. (note, there, says ∙ h.0 yes), λ n. h.1 (sym (other n.0 n.1) ∙ n.2))

  pub noted_waiting : (IsTrue t ↔ ((xs : Variables) × (s ≡ waiting xs))) → IsTrue t ↔ IsNotedWaiting notes g
  noted_waiting h = (λ yes. let w = h.0 yes in (note, w.0, there, says ∙ w.1), λ n. h.1 (n.1, sym (other n.0 n.2) ∙ n.3))
