-- Refusals: each cause, reported alone, and no cause where what is asked for can be done.
use Rattle.ghc_core.proofs.Words.{◌≡◌, ◌≢◌, ℕ, ◌≤◌, List, Option, length, refl, sym, ◌∙◌, subst, inl, inr, Some, None, GoalName, VarName, Fault, Tree, IsValue, value_at, EndsIn, kept_limit, Goal, Record, IsThere, Fires, IsKeptAs, IsNotKept, IsFirstConsequence, Proposal, World, IsFull, IsKnown, IsToldWhere, OrElse, UndoFails, LacksGoal, IsShelvedWith, RedoFails, IsStreamAt, StreamFails, StillHolds, CommitFails, arith}
use Rattle.std.specs.FinMap as finite

-- A cause tells one fault at most.
abbrev pub TellsOne : (Fault → Type 0) → Type 0
TellsOne Cause = (f g : Fault) → Cause f → Cause g → f ≡ g

pub told_once : (told : Fault) (Holds : Type 0) → TellsOne (IsToldWhere told Holds)
told_once told Holds f g p q = p.0 ∙ sym q.0

-- Causes of which each tells one fault at most tell one, in their order.
pub first_once : (First Next : Fault → Type 0) → TellsOne First → TellsOne Next → TellsOne (OrElse First Next)
first_once First Next first next f g p q = grind arith

-- what a map has and has not at a key
pub has_not : {A : Type 0} {x : A} {o : Option A} → o ≡ Some x → o ≡ None → ⊥
has_not p q = cc

-- a map has one value at a key
pub value_once : {A : Type 0} {x y : A} {o : Option A} → o ≡ Some x → o ≡ Some y → x ≡ y
value_once p q = cc

-- a step that fires and names a goal finds it
pub finds : (w : World) (r : Record) (g : GoalName) → Fires w.opening.program w.state r → r.goal ≡ Some g → (b : Goal) × (r.consumed ≡ Some b) × (finite.get w.state.goals g ≡ Some b)
finds w r g f e = subst (λ z. IsThere w.state.goals z r.consumed) e f.0

pub not_kept : {kept : List Record} {n : ℕ} → IsNotKept kept n → UndoFails kept n Fault.NotKept
not_kept none = record { first = inl (refl, none) }

pub has_consequence : {kept : List Record} {n : ℕ} (r b : Record) → IsKeptAs kept n r → IsFirstConsequence kept r b → UndoFails kept n (Fault.HasConsequence b.number)
has_consequence r b kept first = record { first = inr ((λ f none. none.1 r kept.0 kept.1), (r, b, refl, kept, first)) }

-- the goal of a shelved step, if it has one, is there
abbrev pub GoalIsThere : World → Record → Type 0
GoalIsThere w r = (g : GoalName) → r.goal ≡ Some g → finite.get w.state.goals g ≢ None

pub has_goal : (w : World) (n : ℕ) (r : Record) → finite.get w.shelf n ≡ Some r → GoalIsThere w r → ¬ IsShelvedWith w n (LacksGoal w.state.goals)
has_goal w n r on there (s, at, (g, named, gone)) = there g (subst (λ (q : Record). q.goal ≡ Some g) (value_once at on) named) gone

pub not_shelved : {w : World} {n : ℕ} → finite.get w.shelf n ≡ None → RedoFails w n Fault.NotShelved
not_shelved none = record { first = inl (refl, none) }

pub no_goal : {w : World} {n : ℕ} (r : Record) (g : GoalName) → finite.get w.shelf n ≡ Some r → r.goal ≡ Some g → finite.get w.state.goals g ≡ None → RedoFails w n Fault.NoGoal
no_goal r g on named gone = record { first = inr ((λ f none. has_not on none.1), inl (refl, (r, on, (g, named, gone)))) }

is_known : (w : World) (n : ℕ) (r : Record) → finite.get w.shelf n ≡ Some r → IsKnown w r → ¬ IsShelvedWith w n (λ r. ¬ IsKnown w r)
is_known w n r on known (s, at, unknown) = unknown (subst (IsKnown w) (value_once on at) known)

pub no_variable : {w : World} {n : ℕ} (r : Record) → finite.get w.shelf n ≡ Some r → GoalIsThere w r → ¬ IsKnown w r → RedoFails w n Fault.NoVariable
no_variable {w} {n} r on there unknown = record { first = inr ((λ f none. has_not on none.1), inr ((λ f lacks. has_goal w n r on there lacks.1), inl (refl, (r, on, unknown)))) }

pub changed : {w : World} {n : ℕ} (r : Record) → finite.get w.shelf n ≡ Some r → GoalIsThere w r → IsKnown w r → ¬ Fires w.opening.program w.state r → RedoFails w n Fault.Changed
changed {w} {n} r on there known other = record {
  first = inr ((λ f none. has_not on none.1), inr ((λ f lacks. has_goal w n r on there lacks.1), inr ((λ f unknown. is_known w n r on known unknown.1), inl (refl, (r, on, other)))));
}

pub full : {w : World} {n : ℕ} (r : Record) → finite.get w.shelf n ≡ Some r → IsKnown w r → Fires w.opening.program w.state r → kept_limit ≤ length w.kept → RedoFails w n Fault.Full
full {w} {n} r on known fires many =
    let there : GoalIsThere w r = λ g named none. has_not (finds w r g fires named).2 none in
    let same = λ (s : Record) (at : finite.get w.shelf n ≡ Some s). subst (Fires w.opening.program w.state) (value_once on at) fires in
    let lacks = has_goal w n r on there in
    let known = is_known w n r on known in
    record { first = inr ((λ f q. has_not on q.1), inr ((λ f q. lacks q.1), inr ((λ f q. known q.1), inr ((λ f q. q.1.2 (same q.1.0 q.1.1)), (refl, many))))) }

pub no_stream : {w : World} {k : ℕ} → ((g : GoalName) (s : VarName) → ¬ IsStreamAt w k g s) → StreamFails w k Fault.NoStream
no_stream none = record { first = inl (refl, none) }

pub tail_bound : {w : World} {k : ℕ} (g : GoalName) (s : VarName) (e : Tree) → IsStreamAt w k g s → EndsIn (value_at w.state.store) s e → IsValue e → StreamFails w k Fault.TailBound
tail_bound g s e at ends value = record { first = inr ((λ f none. none.1 g s at), inl (refl, (g, s, e, at, ends, value))) }

pub stale : {w : World} {p : Proposal} → ¬ StillHolds w p → CommitFails w p Fault.Stale
stale none = record { first = inl (refl, none) }

pub no_room : {w : World} {p : Proposal} → StillHolds w p → IsFull w → CommitFails w p Fault.Full
no_room holds many = record { first = inr ((λ f none. none.1 holds), (refl, many)) }

-- A stream takes nothing for one reason, and a commit is refused for one.
pub stream_fails_once : {w : World} {k : ℕ} {f g : Fault} → StreamFails w k f → StreamFails w k g → f ≡ g
stream_fails_once {f = f} {g = g} p q = first_once _ _ (told_once _ _) (first_once _ _ (told_once _ _) (told_once _ _)) f g p.first q.first

pub commit_fails_once : {w : World} {p : Proposal} {f g : Fault} → CommitFails w p f → CommitFails w p g → f ≡ g
commit_fails_once {f = f} {g = g} p q = first_once _ _ (told_once _ _) (told_once _ _) f g p.first q.first
