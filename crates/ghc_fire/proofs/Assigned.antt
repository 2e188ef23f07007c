-- Why a unification is refused; what an assignment does, or why it is refused, by the value of its expression.
use Rattle.ghc_fire.proofs.Words.{◌≡◌, ℤ, [], inl, inr, ◌⊎◌, Option, VarName, Fault, Memory, Tree, integer, Expression, Variables, Program, EndsIn, Number, Gains, Unifies, UnifyFails, clashes, cycles, Effect, IsOnChainsOf, Assigns, refused, UnificationAnswers, AssignmentAnswers}
use Rattle.ghc_fire.proofs.EachAnswer.{no_cycle}

-- a unification that is not solved
pub not_solved : (S : VarName → Option Tree) (l r : Tree) (f : Fault) → (f ≡ Memory) ⊎ UnifyFails S l r f → (f ≡ Memory) ⊎ ((P : Program) → UnificationAnswers P l r S (refused f))
not_solved S l r f (inl e) = inl e
not_solved S l r f (inr (clashes c)) = inr (λ P. UnificationAnswers.clashes c)
not_solved S l r f (inr (cycles c)) = inr (λ P. UnificationAnswers.cycles c)

module _ (S : VarName → Option Tree) (t : Tree) (b : Expression) where
  -- the fault is `Memory`, or the answer to the assignment
  abbrev pub IsAnswer : Fault → Type 0
  IsAnswer f = (f ≡ Memory) ⊎ ((P : Program) → AssignmentAnswers P t b S (refused f))

  module _ (v : ℤ) (worth : Number (EndsIn S) b v) where
    -- the unification with the value is refused
    pub not_unified : (f : Fault) → (f ≡ Memory) ⊎ UnifyFails S t (integer v) f → IsAnswer f
    not_unified f (inl e) = inl e
    not_unified f (inr (clashes c)) = inr (λ P. AssignmentAnswers.clashes v worth c)
    not_unified f (inr (cycles c)) = absurd (no_cycle S t v c)

    -- it is solved, and the chains of the expression are read too
    pub unified : (e : Effect) (rest : Variables) → Unifies S t (integer v) e.binds rest → Gains rest e.reads (IsOnChainsOf S b) → e.makes ≡ [] → e.fresh ≡ 0 → Assigns t b S e
    unified e rest u g makes fresh = (
      v,
      rest,
      worth,
      u,
      λ x. (λ c. elim ((g x).0 c) [ inl r ↦ inr r | inr p ↦ inl p ], λ h. (g x).1 (elim h [ inl p ↦ inr p | inr r ↦ inl r ])),
      makes,
      fresh,
    )
