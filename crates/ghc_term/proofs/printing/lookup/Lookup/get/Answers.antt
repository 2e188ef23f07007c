use Rattle.ghc_term.proofs.Words.{sym, ap, ◌∙◌, value_at, name_cmp}
use Rattle.std.specs.FinMap as finite
use Rattle.ghc_term.specs.inner.Lookup.{held_in}
use Rattle.ghc_term.proofs.printing.lookup.Lookup.get.Goals as goal

pub returns-in-Nowhere : goal.returns-in-Nowhere
returns-in-Nowhere c = sym (ap (λ l. value_at (held_in l) c.args.x) c.in-Nowhere.is ∙ finite.get-empty name_cmp c.args.x)

pub returns-in-In : goal.returns-in-In
returns-in-In c = c.get.ensures ∙ sym (ap (λ l. value_at (held_in l) c.args.x) c.in-In.is)
