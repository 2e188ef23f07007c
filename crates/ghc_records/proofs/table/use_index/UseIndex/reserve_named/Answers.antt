use Rattle.ghc_records.proofs.Words.{on_ok_weaker}
use Rattle.ghc_records.proofs.table.use_index.UseIndex.reserve_named.Goals as goal

pub returns-clause-users : goal.returns-clause-users
returns-clause-users c = rw (← c.self.view_is) c.reserve_under_makers.ensures.held

pub returns-clause-room : goal.returns-clause-room
returns-clause-room c =
    on_ok_weaker c.reserve_under_makers.result
    (λ room m n made. room m n (rw (c.variables-named.ensures, c.act.ensures) made)) c.reserve_under_makers.ensures.room

pub returns-clause-kept : goal.returns-clause-kept
returns-clause-kept c m n can = c.reserve_under_makers.ensures.kept m n (rw (← c.self.view_is) at can)
