use Rattle.ghc_records.proofs.Words.{is_ok, ap, refl, done}
use Rattle.ghc_records.proofs.NumberSets.{succeeds_with, number_put}
use Rattle.ghc_records.proofs.table.number_set.put_tabled.Goals as goal

pub unwrap-requires : goal.unwrap-requires
unwrap-requires c = succeeds_with c.insert.result c.args.table.now.keys c.args.table.now.keys c.args.number refl c.insert.ensures.succeeds c.insert.ensures.absent c.requires

pub returns-clause-numbers : goal.returns-clause-numbers
returns-clause-numbers c n = number_put c.args.table.now.keys c.insert.new.self.keys c.args.number (done c.insert.result (ap is_ok c.unwrap.ensures) c.insert.ensures.updates).0 n
