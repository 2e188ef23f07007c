-- What is answered of an excerpt is answered in its world.
use Rattle.ghc_core.proofs.Words.{ℕ, ◌≡◌, List, inl, inr, sym, ◌∙◌, subst, Option, Some, None, VarName, Tree, GoalName, Goal, Goals, StoreValue, value_at, World}
use Rattle.std.specs.FinMap as finite
use Rattle.std.specs.declared.result.Result.{Result}
use Rattle.std.specs.declared.result.Result.TheVariants.{Ok, Err}
use Rattle.ghc_term.specs.declared.fault.Fault.{Fault}
use Rattle.ghc_term.specs.Answered.{Answered}
use Rattle.ghc_term.specs.Goal.{call}
use Rattle.ghc_flat.specs.Clause.{Program}
use Rattle.ghc_match.specs.Looked.{GoalLooksAt}
use Rattle.ghc_fire.specs.Attempt.{Answer, proposes, refused, Attempts}
use Rattle.ghc_fire.specs.Attempted.{AttemptsAt, IsProposed}
use Rattle.ghc_fire.specs.Proposal.{Proposal}
use Rattle.ghc_fire.proofs.Tries.{attempt_there}
use Rattle.ghc_core.specs.Proposes.{AttemptAnswers, IsProposedIn}
use Rattle.ghc_core.specs.Excerpt.{IsExcerpt}
use Rattle.ghc_core.specs.inner.CutOut.{IsCutOut}
use Rattle.ghc_match.proofs.LooksAtArguments.{call_looks}

-- what was cut out for the arguments of a call tells all that the call looks at
pub cut_tells : (P : Program) (S M : VarName → Option Tree) (f : List ℕ) (ts : List Tree) → IsCutOut S M ts → (x : VarName) → GoalLooksAt P M (call f ts) x → S x ≡ M x
cut_tells P S M f ts cut x l = let r = call_looks P f ts x l in cut r.0 x r.1 r.2

module _ (w : World) (g : GoalName) (P : Program) (b : Goal) (M : VarName → Option Tree) (e : IsExcerpt w g P b M) where
  module _ (G : Goals) (m : StoreValue) (here : finite.get G g ≡ Some b) (same : value_at m ≡ M) where
    there : (a : Answer) → AttemptsAt P G m g None a → AttemptAnswers w g None a
    there a h =
        let alone : Attempts P M (Some b) None a = subst (λ S. Attempts P S (Some b) None a) same (subst (λ o. Attempts P (value_at m) o None a) here h) in
        let full : Attempts P (value_at w.state.store) (Some b) None a = attempt_there P M (value_at w.state.store) b None a alone e.tells in
        subst (λ o. Attempts w.opening.program (value_at w.state.store) o None a) (sym e.there) (subst (λ Q. Attempts Q (value_at w.state.store) (Some b) None a) e.program full)

    pub answered_there : (result : Result Proposal Fault) → Answered (IsProposed P G m g None) (λ f. AttemptsAt P G m g None (refused f)) result → Answered (IsProposedIn w g None) (λ f. AttemptAnswers w g None (refused f)) result
    answered_there (Ok p) h = (record { named = h.0.named; there = e.there ∙ sym here ∙ h.0.there; proposed = there (proposes p.act p.effect) h.0.proposed }, h.1)
    answered_there (Err f) h = (h.0, elim h.1 [ inl mem ↦ inl mem | inr a ↦ inr (there (refused f) a) ])
