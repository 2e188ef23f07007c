use Rattle.ghc_records.proofs.Giving.{taken_named}
use Rattle.ghc_records.proofs.table.users.Users.take_at.Goals as goal

pub returns : goal.returns
returns c = taken_named c.args.self.now c.take.new.self c.args.step c.in-Some.step c.args.user c.in-Some.is c.take.ensures
