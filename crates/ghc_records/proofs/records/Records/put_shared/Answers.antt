use Rattle.ghc_records.proofs.Words.{◌≢◌, sym, subst, In}
use Rattle.ghc_records.proofs.records.Records.put_shared.Goals as goal

pub put-requires-clause-new : goal.put-requires-clause-new
put-requires-clause-new c r j =
    subst (λ s. r.number ≢ s.number) (sym c.in_ok-step.ensures) (c.requires.new r (subst (In r) c.reserve.ensures.held j))
