use Rattle.ghc_term.proofs.Words.{sym, ap, ◌∙◌, length, in_order}
use Rattle.std.specs.FinMap as finite
use Rattle.ghc_term.proofs.MapsLemmas.{entries_len}
use Rattle.ghc_term.proofs.bindings.Bindings.entries.Goals as goal

pub returns-clause-once : goal.returns-clause-once
returns-clause-once c = ap length c.entries.ensures ∙ sym (entries_len (in_order c.self.inside.held) c.self.invariant) ∙ ap finite.len c.self.view_is
