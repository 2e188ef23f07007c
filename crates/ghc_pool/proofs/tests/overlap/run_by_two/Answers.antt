use mir.Syntax.{named}
use denote.RattleType.{RattleType}
use denote.Ref.{NamedLft, ShrRef}
use denote.Param.{param}
use denote.Struct.Field.{row_field}
use denote.Param.Send.{IsSync, shr_sync}
use denote.Param.SendFields.{declared_sync, as_row_sync}
use Rattle.std.proofs.sync.atomic.AtomicU64.TheSendSync as word
use Rattle.ghc_pool.specs.contracts.tests.overlap.Holding as holding
use Rattle.ghc_pool.proofs.tests.overlap.run_by_two.Goals as goal

holding_sync : (a : NamedLft) (R : RattleType) → IsSync R → IsSync (holding.the_row a R)
holding_sync a R y = declared_sync (holding.the_type a R) (as_row_sync (row_field (ShrRef a.mir a.lft R)) (shr_sync a.mir a.lft R y), (word.the_sync, (word.the_sync, tt)))

pub run_together-requires-sync-G : goal.run_together-requires-sync-G
run_together-requires-sync-G g c κs within = record { shared = (holding_sync (record { mir = named 3; lft = κs.1.1.1.1.0 }) (param 0 g.row.R) c.type_bounds.sync-R).shared }
