use Rattle.ghc_records.proofs.table.use_index.UseIndex.take_named.Goals as goal

pub returns-clause-users : goal.returns-clause-users
returns-clause-users c = rw (← c.self.view_is) (rw (c.variables-named.ensures, c.act.ensures, c.number-number.ensures) at c.take_from_under_makers.ensures)
