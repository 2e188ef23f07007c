use mir.Syntax.{named}
use denote.RattleType.{RattleType}
use denote.Ref.{NamedLft, ShrRef}
use denote.Param.{param}
use denote.Struct.Field.{row_field}
use denote.Param.Send.{IsSync, shr_sync}
use denote.Param.SendFields.{declared_sync, as_row_sync}
use Rattle.std.proofs.sync.atomic.AtomicU64.TheSendSync as word
use Rattle.ghc_pool.proofs.Telling.{told_all}
use Rattle.ghc_pool.specs.contracts.tests.undoing.Undoing as undoing
use Rattle.ghc_pool.proofs.tests.undoing.round_of_one.Goals as goal

undoing_sync : (a : NamedLft) (R : RattleType) → IsSync R → IsSync (undoing.the_row a R)
undoing_sync a R y = declared_sync (undoing.the_type a R) (as_row_sync (row_field (ShrRef a.mir a.lft R)) (shr_sync a.mir a.lft R y), (word.the_sync, (word.the_sync, (word.the_sync, tt))))

pub round-requires-sync-G : goal.round-requires-sync-G
round-requires-sync-G g c κs within = record { shared = (undoing_sync (record { mir = named 5; lft = κs.1.1.1.1.1.0 }) (param 1 g.row.R) c.type_bounds.sync-R).shared }

pub returns-in-Ok : goal.returns-in-Ok
returns-in-Ok g c = record { all = λ n k all. told_all g.N.Naming.opened _ _ _ n k c.args.passes.items c.in-Ok.ended.1.workers.items c.in-Ok.ended.0.items c.in-Ok.ensures.told all }
