use Rattle.ghc_records.proofs.Words.{◌≡◌, ap, ◌∙◌, subst, ◌↔◌, Some, option_copied, StandsIn}
use Rattle.ghc_records.proofs.table.slots.Slots.at.Goals as goal

pub returns : goal.returns
returns c r = subst (λ l. (option_copied c.record_in.result ≡ Some r) ↔ StandsIn l c.args.place r) (c.as_slice.ensures.value ∙ ap (λ t. t.held) c.self.view_is) (c.record_in.ensures r)
