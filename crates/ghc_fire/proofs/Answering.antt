-- An attempt has no other answer than the one that is given.
use Rattle.ghc_fire.proofs.Words.{◌≡◌, ℕ, sym, ◌∙◌, Option, Fault, GoalName, IsAcyclic, StoreValue, value_at, exact, Program, Act, Effect, Goals, Proposal, Answer, proposes, refused, AttemptsAt, IsProposed, AttemptIsExact}
use Rattle.std.specs.FinMap as finite
use Rattle.ghc_fire.proofs.Tries.{attempt_once}

pub same_act : {a b : Act} {e f : Effect} → proposes a e ≡ proposes b f → a ≡ b
same_act p = cc

pub same_effect : {a b : Act} {e f : Effect} → proposes a e ≡ proposes b f → e ≡ f
same_effect p = cc

pub same_fault : {f g : Fault} → refused f ≡ refused g → f ≡ g
same_fault p = cc

pub apart : {a : Act} {e : Effect} {f : Fault} → ¬ (proposes a e ≡ refused f)
apart p = cc

module _ (P : Program) (G : Goals) (s : StoreValue) (g : GoalName) (choice : Option ℕ) (acyclic : IsAcyclic (value_at s)) where
  once : (a b : Answer) → AttemptsAt P G s g choice a → AttemptsAt P G s g choice b → a ≡ b
  once a b p q = attempt_once P (value_at s) (finite.get G g) choice a b acyclic p q

  one_proposal : (p q : Proposal) → IsProposed P G s g choice p → IsProposed P G s g choice q → p ≡ q
  one_proposal p q h k =
      let names : p.goal ≡ q.goal = h.named ∙ sym k.named in
      let goals : p.consumed ≡ q.consumed = cc in
      let answers = once (proposes p.act p.effect) (proposes q.act q.effect) h.proposed k.proposed in
      let acts : p.act ≡ q.act = same_act answers in
      let effects : p.effect ≡ q.effect = same_effect answers in
      λ i. record { goal = names i; consumed = goals i; act = acts i; effect = effects i }

pub attempt_exact : AttemptIsExact
attempt_exact P G s g choice result acyclic answer =
    exact (one_proposal P G s g choice acyclic) (λ e f h k. same_fault (once P G s g choice acyclic (refused e) (refused f) h k))
    (λ p f h k. apart (once P G s g choice acyclic (proposes p.act p.effect) (refused f) h.proposed k)) result answer
