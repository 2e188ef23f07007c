use Rattle.std.proofs.lemmas.Option.{slice_get-get_or}
use Rattle.std.proofs.lemmas.List.{length-take-le}
use Rattle.ghc_trace.proofs.Words.{◌≡◌, ◌+◌, ◌<◌, ◌++◌, [], ◌∷◌, List, ℕ, take, length, get_or, slice_get, Some, sym, subst, ap, ◌∙◌, append_assoc, append-nil, take_more, take_all, in_get, arith, common_steps, string_bytes, Goal, In}
use Rattle.ghc_trace.specs.BlameLines.{AreMadeGoals, TellsMadeGoal, and_goal, no_goal, only}
use Rattle.ghc_trace.proofs.BlameMade.{goal_at}
use Rattle.ghc_trace.proofs.blame_lines.write_all_made.Goals as goal

pub loop-index-init : goal.loop-index-init
loop-index-init c = record { lines = λ rs t about of. ([], no_goal, sym (append-nil (string_bytes c.args.out.now))); begun = grind (arith, common_steps) }

pub loop-index-preserved : goal.loop-index-preserved
loop-index-preserved c = record {
  lines = λ rs t about of.
      let d = c.args.told.now in
      let w = only d.core.now.world rs t in
      let n = c.args.step in
      let goals = c.args.goals.now in
      let i = c.loop-index.index in
      let old = string_bytes c.args.out.now in
      let b = c.index-goals-index.result in
      let low : i < length goals = omega arith in
      let is : get_or goals i b ≡ b = sym c.index-goals-index.is in
      let at : slice_get goals i ≡ Some b = slice_get-get_or goals i b low ∙ ap Some is in
      let before = c.loop-index.invariant.lines rs t about of in
      let q = c.in-Ok.ensures.text rs t about (goal_at d.core.now.world.opening.query rs n goals i b of at) in
      let more : take (i + 1) goals ≡ take i goals ++ b ∷ [] = take_more goals i b low ∙ ap (λ z. take i goals ++ z ∷ []) is in
      let count : length (take i goals) ≡ i = length-take-le i goals (omega (arith, low)) in
      subst (λ (l : List Goal). (text : List ℕ) × AreMadeGoals w d.target n l text × (string_bytes c.write_made.new.out ≡ old ++ text)) (sym more) (
        before.0 ++ q.0,
        and_goal b q.0 before.1 (subst (λ k. TellsMadeGoal w d.target (record { step = n; place = k + 1 }) b q.0) (sym count) q.1),
        q.2 ∙ ap (λ t. t ++ q.0) before.2 ∙ append_assoc old before.0 q.0,
      );
  begun = grind (arith, common_steps);
}

pub returns-in-Err-clause-too_long : goal.returns-in-Err-clause-too_long
returns-in-Err-clause-too_long c e =
    let goals = c.args.goals.now in
    let b = c.index-goals-index.result in
    (b, subst (λ z. In z goals) (sym c.index-goals-index.is) (in_get goals c.loop-index.index b (omega arith)), c.write_made.ensures.too_long (c.in-Err.is ∙ e))

pub returns-clause-text : goal.returns-clause-text
returns-clause-text c rs t about of =
    let d = c.args.told.now in
    subst (λ (l : List Goal). (text : List ℕ) × AreMadeGoals (only d.core.now.world rs t) d.target c.args.step l text × (string_bytes c.loop-index.out ≡ string_bytes c.args.out.now ++ text))
    (take_all c.loop-index.index c.args.goals.now (omega arith)) (c.loop-index.invariant.lines rs t about of)
