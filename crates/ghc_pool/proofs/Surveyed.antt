-- What the goals that are ready, and those that have failed, give a run.
use Rattle.ghc_pool.proofs.Words.{◌≡◌, ◌↔◌, ℕ, List, [], ◌∷◌, refl, ap, ◌∙◌, inl, Option, eqb, eqb-true, eqb-false, length, true, false, arith, GoalName, Fault, In, IsAcyclic, value_at, GoalNames, ready, failed, NotesByGoal, IsNotedAs, World, IsFull, AreExactIn, Spies, Stop, IsInQuestion, HasFailed, Holds, is_quiet}
use Rattle.std.specs.FinSet as set
use Rattle.ghc_pool.specs.Runs.{IsReady}
use Rattle.ghc_pool.proofs.Standings.{none_untried, note_stands, stands_noted}

module _ (w : World) (notes : NotesByGoal) (untried : GoalNames) (acyclic : IsAcyclic (value_at w.state.store)) (exact : AreExactIn w notes untried) (settled : untried ≡ set.empty) (root : Option GoalName) where
  -- the goals that are noted as ready, of which those in question are ready
  module _ (goals : List GoalName) (noted : (g : GoalName) → In g goals ↔ IsNotedAs notes g ready) where
    pub is_ready_one : (g : GoalName) → In g goals → IsInQuestion root w.kept g → IsReady root w g
    is_ready_one g i asked = let n = (noted g).0 i in (asked, note_stands w notes untried acyclic exact settled g n.0 ready n.1 n.2)

    pub ready_there : (g : GoalName) → IsReady root w g → In g goals
    ready_there g r = (noted g).1 (stands_noted w notes untried acyclic exact settled g ready (λ e. cc) r.1)

  -- the goals that are noted as failed, of which those in question have failed
  module _ (goals : List GoalName) (noted : (g : GoalName) → In g goals ↔ ((f : Fault) × IsNotedAs notes g (failed f))) where
    pub is_failed_one : (g : GoalName) → In g goals → IsInQuestion root w.kept g → HasFailed root w g
    is_failed_one g i asked = let n = (noted g).0 i in (asked, (n.0, note_stands w notes untried acyclic exact settled g n.1.0 (failed n.0) n.1.1 n.1.2))

    pub none_failed : ((g : GoalName) → In g goals → ¬ IsInQuestion root w.kept g) → (g : GoalName) → ¬ HasFailed root w g
    none_failed unasked g f = unasked g ((noted g).1 (f.1.0, stands_noted w notes untried acyclic exact settled g (failed f.1.0) (λ e. cc) f.1.1)) f.0

  -- none is ready, so nothing is left to do
  pub quiet_holds : (Starved : Type 0) (spies : Spies) (limit taken : ℕ) → ¬ IsFull w → ((g : GoalName) → ¬ IsReady root w g) → ((g : GoalName) → ¬ HasFailed root w g) → Holds Starved spies root limit taken w notes Stop.Quiet
  quiet_holds Starved spies limit taken room unready unfailed =
      is_quiet room (record { tried = λ g q. none_untried w notes untried acyclic exact settled g; unready = unready; unfailed = unfailed })

-- a list that is not empty has an element
pub some_member : (list : List GoalName) → ¬ (list ≡ []) → (g : GoalName) × In g list
some_member [] other = absurd (other refl)
some_member (g ∷ list) other = (g, inl refl)

-- whether a list is empty, by its length
pub empty_is : (list : List GoalName) (n : ℕ) → n ≡ length list → eqb n 0 ≡ true → list ≡ []
empty_is [] n e t = refl
empty_is (g ∷ list) n e t = absurd (let zero = eqb-true n 0 t in omega (arith, zero, e))

pub empty_not : (list : List GoalName) (n : ℕ) → n ≡ length list → eqb n 0 ≡ false → ¬ (list ≡ [])
empty_not list n e t none = eqb-false n 0 t (e ∙ ap length none)
