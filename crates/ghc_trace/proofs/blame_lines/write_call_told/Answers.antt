use Rattle.ghc_trace.proofs.Words.{◌++◌, ap, ◌∙◌, append_assoc, string_bytes}
use Rattle.ghc_trace.proofs.BlameTold.{call_told, goal_named}
use Rattle.ghc_trace.proofs.blame_lines.write_call_told.Goals as goal

pub returns-in-Err-clause-too_long : goal.returns-in-Err-clause-too_long
returns-in-Err-clause-too_long c e rs t about =
    let d = c.args.told.now in
    let b = c.goal_of-goal.result.now in
    (b, goal_named d.core.now.world rs t d.target c.args.call.now b (c.goal_of-goal.ensures rs t about), c.write_call_given.ensures.too_long (c.in-Err.is ∙ e) rs t about)

pub returns-clause-text : goal.returns-clause-text
returns-clause-text c rs t about =
    let d = c.args.told.now in
    let w = d.core.now.world in
    let old = string_bytes c.args.out.now in
    let g = c.in-Ok.ensures.text rs t about in
    let l = c.in_ok-write_left.ensures.text rs t about in
    let told = call_told w rs t d.target c.args.call.now c.goal_of-goal.result.now g.0 l.0 (c.goal_of-goal.ensures rs t about) g.1 l.1 in
    (told.0, told.1, told.2, told.3, l.2 ∙ ap (λ m. m ++ l.0) g.2 ∙ append_assoc old g.0 l.0 ∙ ap (λ m. old ++ m) told.4)
