use Rattle.ghc_fire.proofs.Words.{◌≡◌, map, sym, ap, ◌∙◌, node, trees, replace, replacement}
use Rattle.std.proofs.Common.{take_all}
use Rattle.ghc_fire.proofs.Rebuilding.{replace_trees}
use Rattle.ghc_fire.proofs.instances.leaves.replace_flat.Goals as goal

pub returns : goal.returns
returns c =
    let s = replacement c.args.by in
    let ts = c.args.arguments.now in
    let all : c.loop-argument.replaced.items ≡ map (replace s) ts = c.loop-argument.invariant ∙ ap (map (replace s)) (take_all c.loop-argument.argument-index ts c.loop-argument-test.false) in
    let made = ap trees all ∙ sym (replace_trees s ts) in
    c.in_ok-structure.ensures ∙ (λ i. node (c.in_ok-share.ensures.same i) (made i))
