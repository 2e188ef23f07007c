use Rattle.ghc_match.proofs.Words.{rules, to_z-of_z, leaf}
use mir.Val.{SFits}
use mir.Syntax.{w64}
use Rattle.ghc_match.proofs.EndsLemmas.{once_at}
use Rattle.ghc_match.proofs.TasksLemmas.{operated}
use Rattle.ghc_match.proofs.number.operate.Goals as goal

pub returns : goal.returns
returns c =
    let first : SFits w64 c.in-Some.x = search rules in
    let second : SFits w64 c.in-Some-integer_at.y = search rules in
    let n = rw (← to_z-of_z w64 c.in-Some.x first) at c.in-Some.ensures in
    let m = rw (← to_z-of_z w64 c.in-Some-integer_at.y second) at c.in-Some-integer_at.ensures in
    operated (once_at c.args.scope c.args.store.now.held) c.args.operator (leaf c.args.left.now) (leaf c.args.right.now) _ _ c.apply.result n m c.apply.ensures
