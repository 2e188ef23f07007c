use Rattle.std.proofs.lemmas.List.{nil_from_length}
use Rattle.ghc_records.proofs.NearUsers.{grown_users, grown_can}
use Rattle.ghc_records.proofs.table.users.Users.widen.Goals as goal

pub returns-clause-held : goal.returns-clause-held
returns-clause-held c = grown_users c.self.inside.near.items c.grow.new.sets.items c.self.inside.far.entries c.args.self.now c.self.view_is (nil_from_length c.self.inside.far.entries (c.is_empty.ensures.0 c.if-not-is_empty.false)) c.grow.ensures.grown

pub returns-clause-kept : goal.returns-clause-kept
returns-clause-kept c = grown_can c.self.inside.near.items c.grow.new.sets.items c.self.inside.far.entries c.args.self.now c.self.view_is (nil_from_length c.self.inside.far.entries (c.is_empty.ensures.0 c.if-not-is_empty.false)) c.grow.ensures.grown
