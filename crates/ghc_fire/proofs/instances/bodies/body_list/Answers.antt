use Rattle.ghc_fire.proofs.Words.{◌≡◌, map, sym, ap, ◌∙◌, node, trees, replace, renamed, IfOk-weaker}
use Rattle.std.proofs.Common.{take_all}
use Rattle.ghc_fire.proofs.Rebuilding.{replace_trees}
use Rattle.ghc_fire.proofs.instances.bodies.body_list.Goals as goal

pub returns : goal.returns
returns c =
    let s = renamed c.args.head_variables c.args.theta.now c.args.number in
    let ts = c.args.arguments.now in
    let all : c.loop-argument.made.items ≡ map (replace s) ts = c.loop-argument.invariant ∙ ap (map (replace s)) (take_all c.loop-argument.argument-index ts c.loop-argument-test.false) in
    let made = ap trees all ∙ sym (replace_trees s ts) in
    IfOk-weaker c.structure.result _ _ (λ t e. e ∙ (λ i. node (c.in_ok-share.ensures.same i) (made i))) c.structure.ensures
