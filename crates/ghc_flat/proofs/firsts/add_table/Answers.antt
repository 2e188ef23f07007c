use Rattle.ghc_flat.proofs.Words.{sym}
use Rattle.ghc_flat.proofs.FirstArguments.{table_added}
use Rattle.ghc_flat.proofs.firsts.add_table.Goals as goal

pub returns-in-Ok : goal.returns-in-Ok
returns-in-Ok c f n is old =
    table_added c.args.clauses.now f n c.in-Some.first.now c.args.numbers.now c.in_ok-table.table c.args.tables.now.entries c.insert.new.self.entries (sym c.in-Some.ensures.value) is c.in_ok-table.ensures c.in-Ok.ensures.updates.0 old
