use Rattle.ghc_hooks.proofs.Words.{on_ok_weaker, arith}
use Rattle.ghc_hooks.proofs.Hearing.{taken_over, members_added}
use Rattle.ghc_hooks.proofs.heard.join.Goals as goal

pub returns-then-len-eq0 : goal.returns-then-len-eq0
returns-then-len-eq0 c = grind (arith, taken_over)

pub returns : goal.returns
returns c = on_ok_weaker c.add_all.result (members_added c.args.gathered.now c.add_all.new.gathered c.args.other c.members.result.now c.members.ensures.all) c.add_all.ensures
