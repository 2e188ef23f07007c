-- What an attempt says of the effects of an act: the one that it gives, or that there is none.
use Rattle.ghc_fire.proofs.Words.{◌≡◌, ◌≢◌, ◌⊎◌, Bool, ℕ, List, [], subst, inl, inr, Some, None, Option, Result, Ok, Err, ◌↔◌, IsTrue, IfOk, IfNone, VarName, Fault, Memory, Tree, Expression, Goal, call, unify, assign, IsAcyclic, Program, Act, ByClause as by_clause, Unified as unified, Assigned as assigned, Effect, Reduces, Unites, Assigns, HasEffect, no_step, proposes, refused, ChoiceAnswers, UnificationAnswers, AssignmentAnswers}
use Rattle.ghc_fire.proofs.Answering.{apart}
use Rattle.ghc_fire.proofs.Steps.{effect_once, effect_each}
use Rattle.ghc_fire.proofs.Tries.{attempt_once}

-- What an attempt with a clause chosen proposes is the reduction by it.
pub chosen : {n : ℕ} {P : Program} {f : List ℕ} {ts : List Tree} {k : ℕ} {S : VarName → Option Tree} {a : Act} {e : Effect} → ChoiceAnswers n P f ts k S (proposes a e) → Reduces P f ts k n S e
chosen (ChoiceAnswers.by_choice h) = h

module _ (S : VarName → Option Tree) (acyclic : IsAcyclic S) (fault : Fault) (no_memory : fault ≢ Memory) where
  -- An attempt with a clause chosen that is refused shows that the clause does not reduce the call.
  pub not_reduced : (n : ℕ) (P : Program) (f : List ℕ) (ts : List Tree) (k : ℕ) → (fault ≡ Memory) ⊎ ChoiceAnswers no_step P f ts k S (refused fault) → (e : Effect) → ¬ Reduces P f ts k n S e
  not_reduced n P f ts k (inl memory) e h = no_memory memory
  not_reduced n P f ts k (inr a) e h =
      let g = effect_each P (call f ts) (by_clause k) n no_step S e h in
      apart (attempt_once P S (Some (call f ts)) (Some k) (proposes (by_clause k) g.0) (refused fault) acyclic (ChoiceAnswers.by_choice g.1) a)

  -- So it is of a unification,
  pub not_united : (l r : Tree) → (fault ≡ Memory) ⊎ ((P : Program) → UnificationAnswers P l r S (refused fault)) → (e : Effect) → ¬ Unites l r S e
  not_united l r (inl memory) e h = no_memory memory
  not_united l r (inr a) e h = apart (attempt_once [] S (Some (unify l r)) None (proposes unified e) (refused fault) acyclic (UnificationAnswers.solves h) (a []))

  -- and of an assignment.
  pub not_assigned : (t : Tree) (b : Expression) → (fault ≡ Memory) ⊎ ((P : Program) → AssignmentAnswers P t b S (refused fault)) → (e : Effect) → ¬ Assigns t b S e
  not_assigned t b (inl memory) e h = no_memory memory
  not_assigned t b (inr a) e h = apart (attempt_once [] S (Some (assign t b)) None (proposes assigned e) (refused fault) acyclic (AssignmentAnswers.assigns h) (a []))

-- What is known of a search that finds no effect is weakened.
pub none_weaker : {E X A B : Type 0} (result : Result (Option X) E) → (A → B) → IfOk result (λ found. IfNone found A) → IfOk result (λ found. IfNone found B)
none_weaker (Ok None) f h = f h
none_weaker _ f h = tt

pub none_where : {E X A B : Type 0} (result : Result (Option X) E) → (A → B) → IfOk result (λ found. A) → IfOk result (λ found. IfNone found B)
none_where (Ok None) f h = f h
none_where _ f h = tt

-- An act that has an effect has another where that is the same.
pub same_or_not : {E : Type 0} (result : Result Bool E) (P : Program) (g : Goal) (a : Act) (n : ℕ) (S : VarName → Option Tree) (found e : Effect) → IsAcyclic S → HasEffect P g a n S found
    → IfOk result (λ same. IsTrue same ↔ (found ≡ e)) → IfOk result (λ yes. IsTrue yes ↔ HasEffect P g a n S e)
same_or_not (Ok b) P g a n S found e acyclic h k = (λ y. subst (HasEffect P g a n S) (k.0 y) h, λ d. k.1 (effect_once P g a n S found e acyclic h d))
same_or_not (Err b) P g a n S found e acyclic h k = tt
