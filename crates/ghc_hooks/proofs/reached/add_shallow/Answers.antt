use Rattle.ghc_term.specs.Store.{value_at}
use Rattle.ghc_hooks.proofs.AtOnce.{seen_structure}
use Rattle.ghc_hooks.proofs.reached.add_shallow.Goals as goal

pub returns-in-Struct : goal.returns-in-Struct
returns-in-Struct c =
    seen_structure (value_at c.args.store.now.held) c.args.reached.now c.add_leaves.new.reached _ c.in-Struct.arguments.now c.args.term.now c.in-Struct.ensures.shown c.add_leaves.result c.add_leaves.ensures
