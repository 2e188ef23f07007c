use Rattle.ghc_records.proofs.Words.{length, ap, ◌∙◌, subst, AreDistinct, numbers, held_in}
use Rattle.ghc_records.proofs.table.slots.Slots.len.Goals as goal

pub returns-clause-count : goal.returns-clause-count
returns-clause-count c = c.self.invariant.1 ∙ ap (λ t. length (held_in t.held)) c.self.view_is

pub returns-clause-distinct : goal.returns-clause-distinct
returns-clause-distinct c = subst (λ t. AreDistinct (numbers (held_in t.held))) c.self.view_is c.self.invariant.0
