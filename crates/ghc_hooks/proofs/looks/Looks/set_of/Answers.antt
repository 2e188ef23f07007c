use Rattle.ghc_hooks.proofs.Words.{◌∙◌, ap, value_is, same, name_total, name_antisymmetric, none_in}
use Rattle.std.specs.FinMap as finite
use Rattle.ghc_term.proofs.Entries.{same_is}
use Rattle.ghc_hooks.proofs.looks.Looks.set_of.Goals as goal

pub returns-then-is_empty : goal.returns-then-is_empty
returns-then-is_empty c = none_in c.self.inside.several.entries c.args.x (c.is_empty.ensures.0 c.if-is_empty.true) ∙ ap (λ m. finite.get m.several c.args.x) c.self.view_is

pub returns : goal.returns
returns c = c.get.ensures.value ∙ value_is name_total name_antisymmetric same same_is c.args.x c.self.inside.several.entries ∙ ap (λ m. finite.get m.several c.args.x) c.self.view_is
