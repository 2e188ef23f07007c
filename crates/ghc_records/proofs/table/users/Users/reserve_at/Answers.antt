use Rattle.std.proofs.lemmas.Result.{on_ok_weaker}
use Rattle.ghc_records.proofs.Giving.{can_named}
use Rattle.ghc_records.proofs.table.users.Users.reserve_at.Goals as goal

pub returns-then-has_place-clause-room : goal.returns-then-has_place-clause-room
returns-then-has_place-clause-room c = can_named c.args.self.now c.args.self.now c.args.step c.in-Some.step 0 c.in-Some.is (c.has_place.ensures c.if-has_place.true)

pub returns-clause-room : goal.returns-clause-room
returns-clause-room c = on_ok_weaker c.reserve.result (can_named c.args.self.now c.reserve.new.self c.args.step c.in-Some.step 0 c.in-Some.is) c.reserve.ensures.room
