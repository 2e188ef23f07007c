use Rattle.ghc_depend.proofs.Words.{◌↔◌, ◌≡◌, ℕ, Some, subst, AreDistinct, Record, List, numbers, StepBinds}
use Rattle.ghc_depend.proofs.Sourcing.{no_binder, binder_at}
use Rattle.ghc_depend.proofs.sources.place_of_binder.Goals as goal

pub returns-in_err-binder : goal.returns-in_err-binder
returns-in_err-binder c = rw c.from_residual.ensures (
    no_binder c.args.records.now.slots (subst (λ l. AreDistinct (numbers l)) c.len-count.ensures.slots c.len-count.ensures.distinct) c.args.x c.binder_of.result
    (subst (λ (l : List Record). (n : ℕ) → (c.binder_of.result ≡ Some n) ↔ StepBinds l n c.args.x) c.len-count.ensures.slots c.binder_of.ensures) c.in_err-binder.was)

pub returns : goal.returns
returns c =
    binder_at c.args.records.now.slots (subst (λ l. AreDistinct (numbers l)) c.len-count.ensures.slots c.len-count.ensures.distinct) c.args.x c.binder_of.result
    (subst (λ (l : List Record). (n : ℕ) → (c.binder_of.result ≡ Some n) ↔ StepBinds l n c.args.x) c.len-count.ensures.slots c.binder_of.ensures) c.in_ok-binder.binder c.in_ok-binder.was c.place_of.result c.place_of.ensures.found
    (rw c.len-count.ensures.slots at c.place_of.ensures.none)
