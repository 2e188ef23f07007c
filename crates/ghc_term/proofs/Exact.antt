-- A call whose answer is one gives it, unless memory was refused.
use Rattle.ghc_term.proofs.Words.{◌≡◌, inl, inr, Result, Ok, Err, AnsweredUnless, IsExactUnless}

pub exact : {A E : Type 0} {SaysMemory : E → Type 0} {Gives : A → Type 0} {Refuses : E → Type 0} → ((a b : A) → Gives a → Gives b → a ≡ b) → ((d e : E) → Refuses d → Refuses e → d ≡ e)
    → ((a : A) (e : E) → Gives a → ¬ Refuses e) → (result : Result A E) → AnsweredUnless SaysMemory Gives Refuses result → IsExactUnless SaysMemory Gives Refuses result
exact one reason never (Ok b) answer = record { gives = λ a h. one b a answer.0 h; refuses = λ e h. absurd (never b e answer.0 h) }
exact one reason never (Err d) answer = elim answer.1 [
  | inl memory ↦ record { gives = λ a h. memory; refuses = λ e h. inr memory }
  | inr refuses ↦ record { gives = λ a h. absurd (never a d h refuses); refuses = λ e h. inl (reason d e refuses h) }
]
