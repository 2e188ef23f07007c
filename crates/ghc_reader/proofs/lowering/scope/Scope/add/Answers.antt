use Rattle.std.proofs.Common.{refl, sym, ◌∙◌}
use Rattle.ghc_reader.proofs.Names.{table_inserted, called_last}
use Rattle.ghc_reader.proofs.lowering.scope.Scope.add.Goals as goal

pub invariant_of-self-else-is_err : goal.invariant_of-self-else-is_err
invariant_of-self-else-is_err c =
    table_inserted c.put.result c.self.inside.places c.put.new.places c.self.inside.names.items c.push.new.self.items c.args.name.now c.in_ok-share.field-0 c.args.name.now c.in-Some.place c.len.result (sym c.is_err.ensures.value ∙ c.if-is_err.false) c.self.invariant refl c.in_ok-share.ensures.same c.in_ok-push.ensures.items c.in-Some.ensures (c.len.ensures ∙ c.self.inside.names.ok.0) c.requires.named c.put.ensures.put

pub returns-clause-called : goal.returns-clause-called
returns-clause-called c = called_last c.self.inside.names.items c.push.new.self.items c.in_ok-share.field-0 c.args.name.now c.in-Some.place c.len.result c.in_ok-share.ensures.same c.in_ok-push.ensures.items c.in-Some.ensures (c.len.ensures ∙ c.self.inside.names.ok.0)
