use Rattle.std.proofs.Common.{◌∙◌}
use Rattle.ghc_reader.proofs.NameTables.{spelled_more}
use Rattle.ghc_reader.proofs.lexer.names.Names.name.Goals as goal

pub invariant_of-self-2 : goal.invariant_of-self-2
invariant_of-self-2 c = record {
  spelled = spelled_more c.insert.result c.args.self.now.known c.insert.new.self c.args.spelling c.in_ok-share.field-0 c.args.self.now.spelled (c.in_ok-share.ensures.same ∙ c.in_ok-name.ensures.bytes) c.insert.ensures.updates c.insert.ensures.err;
}
