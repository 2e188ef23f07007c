use Rattle.ghc_records.proofs.Giving.{put_named}
use Rattle.ghc_records.proofs.table.users.Users.put_at.Goals as goal

pub returns-clause-users : goal.returns-clause-users
returns-clause-users c = put_named c.args.self.now c.put.new.self c.args.step c.in-Some.step c.args.user c.in-Some.is c.put.ensures.users
