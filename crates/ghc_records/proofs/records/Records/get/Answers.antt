use Rattle.ghc_records.proofs.Words.{◌≢◌, subst, IfNone, In, Record}
use Rattle.ghc_records.proofs.records.Records.get.Goals as goal

pub returns-clause-none : goal.returns-clause-none
returns-clause-none c = subst (λ t. IfNone c.get.result ((r : Record) → In r t.held → r.number ≢ c.args.number)) c.self.view_is c.get.ensures.none
