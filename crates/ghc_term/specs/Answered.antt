-- Calls whose answer memory alone can hide.
use Rattle.std.specs.Prelude.{◌≡◌, ◌⊎◌, Result, IfOk, IfErr, IsErrAnd, MatchResult}
use Rattle.ghc_term.specs.declared.fault.Fault.{Fault}

-- The result is one that is to be given, or a refusal with its reason; or it is a refusal that says that memory was refused.
abbrev pub AnsweredUnless : {A E : Type 0} → (E → Type 0) → (A → Type 0) → (E → Type 0) → Result A E → Type 0
AnsweredUnless SaysMemory Gives Refuses result = IfOk result Gives × IfErr result (λ e. SaysMemory e ⊎ Refuses e)

-- The same where refusals are faults.
abbrev pub Answered : {A : Type 0} → (A → Type 0) → (Fault → Type 0) → Result A Fault → Type 0
Answered Gives Refuses result = AnsweredUnless (λ f. f ≡ Fault.Memory) Gives Refuses result

-- Where one is to be given, it is the result, and where there is a reason to refuse, that is; or the result says that memory was refused.
pub record IsExactUnless {A E : Type 0} (SaysMemory : E → Type 0) (Gives : A → Type 0) (Refuses : E → Type 0) (result : Result A E) : Type 0 where
  pub gives : (a : A) → Gives a → MatchResult result (λ b. b ≡ a) SaysMemory
  pub refuses : (e : E) → Refuses e → IsErrAnd result (λ d. (d ≡ e) ⊎ SaysMemory d)

-- The same where refusals are faults.
abbrev pub IsExact : {A : Type 0} → (A → Type 0) → (Fault → Type 0) → Result A Fault → Type 0
IsExact Gives Refuses result = IsExactUnless (λ f. f ≡ Fault.Memory) Gives Refuses result
