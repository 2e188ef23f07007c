use Rattle.ghc_term.proofs.ListsLemmas.{not_both}
use Rattle.ghc_flat.proofs.Tests.{not_among}
use Rattle.ghc_flat.proofs.guards.test_of_variable.Goals as goal

pub returns-then-not-is_among : goal.returns-then-not-is_among
returns-then-not-is_among c = not_among c.args.count c.args.name.now c.args.x (λ a. not_both c.is_among.result c.if-not-is_among.true (c.is_among.ensures.1 a))
