-- The step that is prepared of a proposal, and what it answers.
use Rattle.ghc_core.proofs.Words.{◌≡◌, ◌⊎◌, ℕ, List, refl, Option, Some, Result, IfOk, IfErr, GoalName, Fault, IsAcyclic, value_at, Answered, proposes, proposal_as, State, Record, Shelf, Opening, Entry, World, IsFull, HasRoom, IsStanding, record_as, next_record, AttemptAnswers, IsFiredNext, StillHolds, IsCommitOf, CommitFails, IsStepOf, StepFails, arith}
use Rattle.std.specs.FinMap as finite
use Rattle.ghc_term.specs.declared.fault.Fault.TheVariants as fault
use Rattle.ghc_fire.specs.Proposal.{Proposal}
use Rattle.ghc_fire.specs.Firing.{Firing}
use Rattle.ghc_records.specs.Record.{record_of}
use Rattle.ghc_core.proofs.Naming.{known_of_act}
use Rattle.ghc_core.proofs.Refusing as refusing
use Rattle.ghc_core.proofs.Committing.{next_step, answered_holds, step_no_room}

-- what is known of a next step that has this record
abbrev pub IsNext : World → Record → Result Record Fault → Type 0
IsNext w r result = IfOk result (λ q. q ≡ r) × IfOk result (λ _. HasRoom w) × IfErr result (λ f. (f ≡ fault.Memory) ⊎ ((f ≡ fault.Full) × IsFull w))

answered : (Gives : Record → Type 0) (Refuses : Fault → Type 0) (w : World) (r : Record) (result : Result Record Fault) → IsNext w r result
    → (HasRoom w → Gives r) → (IsFull w → Refuses fault.Full) → Answered Gives Refuses result
answered Gives Refuses w r result next gives refuses = grind arith

-- The next step of a proposal that was made again answers a commit of the proposal.
pub commit_answered : (w : World) (p again : Proposal) (result : Result Record Fault) → IsStanding w → StillHolds w p → finite.get w.state.goals again.goal ≡ Some again.consumed
    → (again.goal ≡ p.goal) × (again.act ≡ p.act) × (again.effect ≡ p.effect) → IsNext w (next_record w again) result → Answered (IsCommitOf w p) (CommitFails w p) result
commit_answered w p again result standing holds there same next =
    answered (IsCommitOf w p) (CommitFails w p) w (next_record w again) result next
    (λ room. rw (same.0, same.1, same.2) (next_step w p again.consumed standing holds (rw same.0 at there) room)) (refusing.no_room holds)

-- The next step, which was fired as that step, answers for the step of its goal.
pub step_answered : (w : World) (acyclic : IsAcyclic (value_at w.state.store)) (g : GoalName) (choice : Option ℕ) (f : Firing) (result : Result Record Fault) → IsFiredNext w g choice f
    → IsNext w (record_of f) result → Answered (IsStepOf w g choice) (StepFails w g choice) result
step_answered w acyclic g choice f result fired next =
    let P = w.opening.program in
    let p = fired.0 in
    let made = fired.1 in
    let S = value_at w.state.store in
    let there : finite.get w.state.goals p.goal ≡ Some p.consumed = rw made.named made.there in
    let attempted = rw made.there at made.proposed in
    let effect = proposal_as P p.consumed choice p.act w.next S p.effect attempted in
    let q : Proposal = record { goal = p.goal; consumed = p.consumed; act = p.act; effect = effect.1.0 } in
    let proposed : AttemptAnswers w g choice (proposes q.act q.effect) = rw made.there effect.1.1 in
    let holds : StillHolds w q = answered_holds w q choice p.consumed there (rw made.named proposed) in
    answered (IsStepOf w g choice) (StepFails w g choice) w (record_as w.next p) result (rw fired.2 at next)
    (λ room. (q, made.named, proposed, (holds, (refl, ((p.consumed, refl, there), effect.0), room, known_of_act P w.opening.query w.kept (record_as w.next p) p.consumed w.next S p.effect effect.0), refl, refl))) (λ full. step_no_room w acyclic g choice (q, made.named, proposed, full))

-- Worlds are the same where their parts are.
pub same_world : (o : Opening) {s t : State} {rs qs : List Record} {x y : Shelf} (n : ℕ) {es fs : List Entry} → s ≡ t → rs ≡ qs → x ≡ y → es ≡ fs
    → ◌≡◌ {A = World} (record { opening = o; state = s; kept = rs; shelf = x; next = n; journal = es })
    (record { opening = o; state = t; kept = qs; shelf = y; next = n; journal = fs })
same_world o n p q r u i = record { opening = o; state = p i; kept = q i; shelf = r i; next = n; journal = u i }
