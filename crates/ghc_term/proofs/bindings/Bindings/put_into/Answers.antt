use Rattle.ghc_term.proofs.Words.{◌≤◌, sym, ap, ◌∙◌, subst, in_order}
use Rattle.std.specs.FinMap as finite
use Rattle.ghc_term.proofs.MapsLemmas.{entries_len}
use Rattle.ghc_term.proofs.WithBinds.{as_entries}
use Rattle.ghc_term.proofs.bindings.Bindings.put_into.Goals as goal

pub put_into-requires : goal.put_into-requires
put_into-requires c = subst (λ n. n ≤ c.args.map.now.room) (sym (ap finite.len c.self.view_is) ∙ entries_len (in_order c.self.inside.held) c.self.invariant) c.requires

pub returns : goal.returns
returns c = c.put_into.ensures ∙ as_entries (in_order c.self.inside.held) c.args.self c.args.map.now.held c.self.view_is
