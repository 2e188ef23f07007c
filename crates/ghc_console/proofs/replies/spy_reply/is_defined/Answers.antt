use Rattle.ghc_core.proofs.AskedGoals.{defined_told}
use Rattle.ghc_console.proofs.replies.spy_reply.is_defined.Goals as goal

pub returns : goal.returns
returns c = defined_told c.args.program.now c.args.name.now c.args.arity c.clauses_for.result.now c.is_empty.result c.clauses_for.ensures c.is_empty.ensures
