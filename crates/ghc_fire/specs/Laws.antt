-- Laws of effects and of attempts.
use Rattle.std.specs.Prelude.{◌≡◌, ◌≢◌, ◌≤◌, ◌⊎◌, ℕ, IsTrue, Option, Some, None, Result, false}
use Rattle.std.specs.FinSet as set
use Rattle.ghc_term.specs.declared.fault.Fault.{Fault}
use Rattle.ghc_term.specs.declared.goal_name.GoalName.{GoalName}
use Rattle.ghc_term.specs.declared.var_name.VarName.{VarName}
use Rattle.ghc_term.specs.Answered.{Answered, IsExact}
use Rattle.ghc_term.specs.Tree.{Tree, variable, Occurs}
use Rattle.ghc_term.specs.Goal.{Goal, stream}
use Rattle.ghc_term.specs.Bindings.{Reaches, IsAcyclic}
use Rattle.ghc_term.specs.Lists.{In}
use Rattle.ghc_term.specs.Store.{StoreValue, value_at}
use Rattle.ghc_flat.specs.Clause.{Program}
use Rattle.ghc_flat.specs.Variables.{variables_of_goal, variables_of_goals}
use Rattle.ghc_flat.specs.Flat.{IsProgram, is_stream}
use Rattle.ghc_match.specs.Looked.{GoalLooksAt}
use Rattle.ghc_unify.specs.Unify.{with_bindings}
use Rattle.ghc_unify.specs.Laws.{IsCutDown, BindsAndReads}
use Rattle.ghc_fire.specs.Instance.{made}
use Rattle.ghc_fire.specs.declared.act.Act.{Act}
use Rattle.ghc_fire.specs.declared.act.Act.TheVariants.{ByClause as by_clause}
use Rattle.ghc_fire.specs.Effect.{Effect, HasEffect, no_step}
use Rattle.ghc_fire.specs.Goals.{Goals}
use Rattle.ghc_fire.specs.Attempt.{Answer, proposes, refused, AttemptsAs, Attempts}
use Rattle.ghc_fire.specs.Attempted.{AttemptsAt, IsProposed}
use Rattle.ghc_fire.specs.Proposal.{Proposal, under}

-- An effect is the same where bindings of variables that it did not read are taken away.
abbrev pub EffectIsLocal : Type 0
EffectIsLocal =
    (P : Program) (g : Goal) (a : Act) (n : ℕ) (S S' : VarName → Option Tree) (e : Effect) → HasEffect P g a n S e
    → IsCutDown (λ x. IsTrue (set.contains e.reads x)) S S' → HasEffect P g a n S' e

-- Stores that agree on what a call's step read give its clause one effect.
abbrev pub EffectIsOfWhatItRead : Type 0
EffectIsOfWhatItRead =
    (P : Program) (g : Goal) (k n : ℕ) (S S' : VarName → Option Tree) (e : Effect) → HasEffect P g (by_clause k) n S e
    → ((x : VarName) → IsTrue (set.contains e.reads x) → S' x ≡ S x) → HasEffect P g (by_clause k) n S' e

-- In an acyclic store an act has one effect at most.
abbrev pub EffectIsOne : Type 0
EffectIsOne =
    (P : Program) (g : Goal) (a : Act) (n : ℕ) (S : VarName → Option Tree) (e f : Effect) → IsAcyclic S
    → HasEffect P g a n S e → HasEffect P g a n S f → e ≡ f

-- What a step binds was unbound, and what it reads was bound.
abbrev pub EffectBindsAndReads : Type 0
EffectBindsAndReads =
    (P : Program) (g : Goal) (a : Act) (n : ℕ) (S : VarName → Option Tree) (e : Effect) → HasEffect P g a n S e → BindsAndReads S e.binds e.reads

-- An act that has an effect under one number has one under each, with the same reads and as many fresh variables.
abbrev pub EffectUnderEachNumber : Type 0
EffectUnderEachNumber =
    (P : Program) (g : Goal) (a : Act) (m n : ℕ) (S : VarName → Option Tree) (e : Effect) → HasEffect P g a m S e
    → (f : Effect) × HasEffect P g a n S f × (f.reads ≡ e.reads) × (f.fresh ≡ e.fresh)

-- No variable of step n is bound, or reached from the tail of the stream goal.
abbrev pub IsUnused : ℕ → Goal → (VarName → Option Tree) → Type 0
IsUnused n g S = (i : ℕ) → (S (made n i) ≡ None) × ((k : ℕ) (s : VarName) → g ≡ stream k s → ¬ Reaches S (variable s) (made n i))

-- A step keeps the store acyclic.
abbrev pub EffectKeepsAcyclic : Type 0
EffectKeepsAcyclic =
    (P : Program) (g : Goal) (a : Act) (n : ℕ) (S : VarName → Option Tree) (e : Effect) → IsAcyclic S → IsUnused n g S
    → HasEffect P g a n S e → IsAcyclic (with_bindings e.binds S)

-- In an acyclic store an attempt has one answer at most.
abbrev pub AttemptHasOneAnswer : Type 0
AttemptHasOneAnswer =
    (P : Program) (S : VarName → Option Tree) (g : Option Goal) (choice : Option ℕ) (a b : Answer) → IsAcyclic S
    → Attempts P S g choice a → Attempts P S g choice b → a ≡ b

-- In an acyclic store, what is answered for an attempt is exact: what it proposes, or why it is refused, unless memory was refused.
abbrev pub AttemptIsExact : Type 0
AttemptIsExact =
    (P : Program) (G : Goals) (s : StoreValue) (g : GoalName) (choice : Option ℕ) (result : Result Proposal Fault) → IsAcyclic (value_at s)
    → Answered (IsProposed P G s g choice) (λ f. AttemptsAt P G s g choice (refused f)) result → IsExact (IsProposed P G s g choice) (λ f. AttemptsAt P G s g choice (refused f)) result

-- In an acyclic finite store, under an accepted program, each attempt has an answer.
abbrev pub EachAttemptHasAnAnswer : Type 0
EachAttemptHasAnAnswer =
    (P : Program) (s : StoreValue) (g : Option Goal) (choice : Option ℕ) → IsProgram P → IsAcyclic (value_at s)
    → (a : Answer) × Attempts P (value_at s) g choice a

-- In an acyclic finite store, under an accepted program, each act on a goal has an effect or has none.
abbrev pub EachActHasAnEffectOrNone : Type 0
EachActHasAnEffectOrNone =
    (P : Program) (g : Goal) (a : Act) (n : ℕ) (s : StoreValue) → IsProgram P → IsAcyclic (value_at s)
    → ((e : Effect) × HasEffect P g a n (value_at s) e) ⊎ ((e : Effect) → ¬ HasEffect P g a n (value_at s) e)

-- In an acyclic finite store, under an accepted program, an act on a goal has this effect or it has not.
abbrev pub EachEffectIsDecided : Type 0
EachEffectIsDecided =
    (P : Program) (g : Goal) (a : Act) (n : ℕ) (s : StoreValue) (e : Effect) → IsProgram P → IsAcyclic (value_at s)
    → HasEffect P g a n (value_at s) e ⊎ (¬ HasEffect P g a n (value_at s) e)

-- Stores that agree on what a goal looks at answer an attempt at it alike.
abbrev pub AttemptIsOfWhatIsLookedAt : Type 0
AttemptIsOfWhatIsLookedAt =
    (P : Program) (S S' : VarName → Option Tree) (g : Goal) (choice : Option ℕ) (a : Answer) → Attempts P S (Some g) choice a
    → ((x : VarName) → GoalLooksAt P S g x → S' x ≡ S x) → Attempts P S' (Some g) choice a

-- The variable x is one of those that step n makes with this effect.
abbrev pub IsMadeBy : ℕ → Effect → VarName → Type 0
IsMadeBy n e x = (x.step ≡ n) × (1 ≤ x.place) × (x.place ≤ e.fresh)

-- The variable x stands in the goal, or in a value of the store, or the step makes it.
abbrev pub ComesFrom : ℕ → Goal → (VarName → Option Tree) → Effect → VarName → Type 0
ComesFrom n g S e x = In x (variables_of_goal g) ⊎ ((y : VarName) × (t : Tree) × (S y ≡ Some t) × Occurs x t) ⊎ IsMadeBy n e x

-- What the step binds, the variables of the values, and those of the goals that it makes, come from the goal, the store or the step.
pub record VariablesCome (n : ℕ) (g : Goal) (S : VarName → Option Tree) (e : Effect) : Type 0 where
  pub bound : (x : VarName) (t : Tree) → value_at e.binds x ≡ Some t → ComesFrom n g S e x × ((y : VarName) → Occurs y t → ComesFrom n g S e y)
  pub made : (x : VarName) → In x (variables_of_goals e.makes) → ComesFrom n g S e x

-- The variables of each step come so.
abbrev pub EffectVariables : Type 0
EffectVariables =
    (P : Program) (g : Goal) (a : Act) (n : ℕ) (s : StoreValue) (e : Effect) → IsProgram P → IsAcyclic (value_at s)
    → HasEffect P g a n (value_at s) e → VariablesCome n g (value_at s) e

-- No variable of step m stands in the goal, or in a value of the store.
pub record HasNoVariableOf (m : ℕ) (g : Goal) (S : VarName → Option Tree) : Type 0 where
  pub goal : (x : VarName) → In x (variables_of_goal g) → x.step ≢ m
  pub values : (y : VarName) (t : Tree) → S y ≡ Some t → (x : VarName) → Occurs x t → x.step ≢ m

-- The effect of a reduction under any number is, as step n has it, its effect as step n.
abbrev pub EffectUnderANumber : Type 0
EffectUnderANumber =
    (P : Program) (g : Goal) (a : Act) (n : ℕ) (S : VarName → Option Tree) (e : Effect) → is_stream g ≡ false → HasNoVariableOf no_step g S
    → HasEffect P g a no_step S e → HasEffect P g a n S (under n e)

-- What an attempt at a goal proposes is, as step n has it, the effect of the act as step n.
abbrev pub ProposalIsEffect : Type 0
ProposalIsEffect =
    (P : Program) (g : Goal) (choice : Option ℕ) (a : Act) (n : ℕ) (S : VarName → Option Tree) (e : Effect) → HasNoVariableOf no_step g S
    → Attempts P S (Some g) choice (proposes a e) → HasEffect P g a n S (under n e)

-- What an attempt proposes as step n is the effect of the act as step n, and an attempt under any number proposes the same act.
abbrev pub ProposalAsAStep : Type 0
ProposalAsAStep =
    (P : Program) (g : Goal) (choice : Option ℕ) (a : Act) (n : ℕ) (S : VarName → Option Tree) (e : Effect) → AttemptsAs n P S (Some g) choice (proposes a e)
    → HasEffect P g a n S e × ((f : Effect) × Attempts P S (Some g) choice (proposes a f))
