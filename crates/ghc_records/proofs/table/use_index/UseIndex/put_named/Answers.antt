use Rattle.ghc_records.proofs.table.use_index.UseIndex.put_named.Goals as goal

pub put_under_makers-requires : goal.put_under_makers-requires
put_under_makers-requires c m made =
    rw c.number-number.ensures (rw (← c.self.view_is) at (c.requires m (rw (c.variables-named.ensures, c.act.ensures) at made)))

pub returns-clause-users : goal.returns-clause-users
returns-clause-users c = rw (← c.self.view_is) (rw (c.variables-named.ensures, c.act.ensures, c.number-number.ensures) at c.put_under_makers.ensures)
