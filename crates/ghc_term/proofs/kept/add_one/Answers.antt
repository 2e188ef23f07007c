use Rattle.ghc_term.proofs.Words.{sym, ◌∙◌, on_ok_weaker}
use Rattle.ghc_term.proofs.VariableLists.{is_there}
use Rattle.ghc_term.proofs.Gathered.{one_there, one_pushed}
use Rattle.ghc_term.proofs.kept.add_one.Goals as goal

pub returns-then-is_some : goal.returns-then-is_some
returns-then-is_some c = one_there c.args.into.now c.args.x (is_there c.place_of.result c.args.into.now c.args.x (sym c.is_some.ensures ∙ c.if-is_some.true) c.place_of.ensures.found)

pub returns : goal.returns
returns c = on_ok_weaker c.push.result (one_pushed c.args.into.now c.push.new.self c.args.x) c.push.ensures.ok
