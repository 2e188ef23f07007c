-- What the texts of replies say.
use Rattle.ghc_console.proofs.CitedWords.{◌≡◌, ◌≢◌, ◌⊎◌, inl, inr, refl, sym, subst, subst₂, ap, ◌∙◌, List, [], ◌∷◌, ◌++◌, append_assoc, ℕ, codes, Result, Ok, Err, IfOk, OnErr, MatchResult, Option, Fault, GoalName, Proposal, Record, World, Comes as comes, Coming, IsCommitOf, StepFails, Port, port_text, ports_text, Settled, TellsChange, takes, full, RepliesToStep, steps, fails, refusal}
use Rattle.ghc_term.specs.declared.fault.Fault.TheVariants as fault
use Rattle.ghc_console.specs.Replies.{Takes}
pub use Rattle.ghc_trace.proofs.CausePlaces.{on_ok}

-- What is known of an answer leads to more about it.
pub if_ok : {T E : Type 0} (r : Result T E) {P Q R : T → Type 0} → IfOk r P → IfOk r Q → ((t : T) → P t → Q t → R t) → IfOk r R
if_ok (Ok t) p q f = f t p q
if_ok (Err e) p q f = tt

-- What holds in each case leads to more about both.
pub either : {T E : Type 0} (r : Result T E) {P R : T → Type 0} {Q S : Type 0} → IfOk r P → OnErr r Q → ((t : T) → P t → R t) → (Q → S) → MatchResult r R (λ _. S)
either (Ok t) p q f g = f t p
either (Err e) p q f g = g q

-- The reply to a step that is refused is its refusal.
pub step_refused : (w v : World) (g : GoalName) (choice : Option ℕ) (f : Fault) (text : List ℕ) → v ≡ w → (f ≡ fault.Memory) ⊎ StepFails w g choice f → text ≡ refusal f → f ≢ fault.Memory
    → RepliesToStep w g choice text v
step_refused w v g choice f text same (inl m) told kept = absurd (kept m)
step_refused w v g choice f text same (inr why) told kept = elim why.first [
  | inl q ↦ fails f q told same
  | inr (_, (is, (p, named, answer, is_full))) ↦ steps p named answer (subst (λ x. Takes w p x v) (sym (told ∙ ap refusal is)) (subst (Takes w p (refusal fault.Full)) (sym same) (full is_full)))
]

-- A step that was taken.
pub step_taken : (w v : World) (p : Proposal) (r : Record) (text : List ℕ) → IsCommitOf w p r → TellsChange w (comes Coming.Next r) text v → Takes w p text v
step_taken w v p r text commit told =
    subst (Takes w p text) (sym told.2) (takes r commit told.1.1 (subst₂ (λ u front. Settled w u front text) told.2 told.1.2 told.3))

-- Ports stand one after another.
pub ports_joined : (ps qs : List Port) → ports_text (ps ++ qs) ≡ ports_text ps ++ ports_text qs
ports_joined [] qs = refl
ports_joined (p ∷ ps) qs = ap (λ l. port_text p ++ (codes "\n" ++ l)) (ports_joined ps qs) ∙ sym (append_assoc (port_text p) (codes "\n" ++ ports_text ps) (ports_text qs))
