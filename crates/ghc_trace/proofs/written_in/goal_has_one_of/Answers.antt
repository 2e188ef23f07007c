use Rattle.ghc_trace.proofs.Words.{◌≡◌, Goal, call, unify, assign, stream, refl}
use Rattle.ghc_core.proofs.Redone.{if_ok}
use Rattle.ghc_term.specs.Tree.{variable}
use Rattle.ghc_trace.proofs.WrittenIn.{in_one, of_goal, of_variable}
use Rattle.ghc_trace.proofs.written_in.goal_has_one_of.Goals as goal

pub returns-in-Call : goal.returns-in-Call
returns-in-Call c =
    let b : Goal = call c.in-Call.field-0.now c.in-Call.arguments.now in
    let shown : b ≡ c.args.goal.now = c.in-Call.ensures in
    if_ok c.one_has_one_of.result c.one_has_one_of.ensures (λ has is. of_goal c.args.xs.now b c.args.goal.now has shown is)

pub returns-in-Unify : goal.returns-in-Unify
returns-in-Unify c =
    let b : Goal = unify c.in-Unify.left.now c.in-Unify.right.now in
    let shown : b ≡ c.args.goal.now = c.in-Unify.ensures in
    if_ok c.one_of_two_has.result c.one_of_two_has.ensures (λ has is. of_goal c.args.xs.now b c.args.goal.now has shown is)

pub returns-in-Assign : goal.returns-in-Assign
returns-in-Assign c =
    let b : Goal = assign c.in-Assign.target.now c.in-Assign.value.now in
    let shown : b ≡ c.args.goal.now = c.in-Assign.ensures in
    if_ok c.assignment_has.result c.assignment_has.ensures (λ has is. of_goal c.args.xs.now b c.args.goal.now has shown is)

pub returns-in-Stream : goal.returns-in-Stream
returns-in-Stream c =
    let b : Goal = stream c.in-Stream.field-0 c.in-Stream.tail in
    let shown : b ≡ c.args.goal.now = c.in-Stream.ensures in
    of_goal c.args.xs.now b c.args.goal.now c.contains.result shown (in_one c.args.xs.now (variable c.in-Stream.tail) c.contains.result (of_variable c.args.xs.now c.in-Stream.tail (variable c.in-Stream.tail) c.contains.result refl c.contains.ensures))
