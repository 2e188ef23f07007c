use Rattle.ghc_records.proofs.Words.{◌≡◌, subst, ◌↔◌, Some, option_copied, StandsIn}
use Rattle.ghc_records.proofs.records.Records.at.Goals as goal

pub returns : goal.returns
returns c r = subst (λ t. (option_copied c.at.result ≡ Some r) ↔ StandsIn t.slots c.args.place r) c.self.view_is (c.at.ensures r)
