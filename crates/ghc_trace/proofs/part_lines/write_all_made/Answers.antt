use Rattle.std.proofs.lemmas.Option.{get_or_from_slice_get, slice_get_within}
use Rattle.std.proofs.lemmas.List.{length-take-le}
use Rattle.ghc_trace.proofs.Words.{◌≡◌, ◌+◌, ◌++◌, [], ◌∷◌, List, ℕ, take, length, sym, subst, ap, ◌∙◌, append_assoc, append-nil, take_more, arith, common_steps, string_bytes, Goal, stream}
use Rattle.ghc_trace.specs.PartLines.{AreMadeLines, TellsMade, and_made, none_made}
use Rattle.ghc_trace.proofs.part_lines.write_all_made.Goals as goal

pub loop-index-init : goal.loop-index-init
loop-index-init c = record { lines = ([], none_made, sym (append-nil (string_bytes c.args.out.now))); begun = grind (arith, common_steps) }

pub loop-index-preserved : goal.loop-index-preserved
loop-index-preserved c =
    let w = c.args.core.now.world in
    let n = c.args.step.now.number in
    let makes = c.args.step.now.effect.makes in
    let i = c.loop-index.index in
    let old = string_bytes c.args.out.now in
    let none : Goal = stream 0 (record { step = 0; place = 0 }) in
    let before = c.loop-index.invariant.lines in
    let q = c.in-Ok.ensures.text in
    let b = q.0 in
    let line = q.1 in
    let low = slice_get_within makes i b q.2 in
    let more : take (i + 1) makes ≡ take i makes ++ b ∷ [] = take_more makes i none low ∙ ap (λ z. take i makes ++ z ∷ []) (get_or_from_slice_get makes i b none q.2) in
    let count : length (take i makes) ≡ i = length-take-le i makes (omega (arith, low)) in
    record {
      lines = subst (λ (l : List Goal). (text : List ℕ) × AreMadeLines w n l text × (string_bytes c.write_made.new.out ≡ old ++ text)) (sym more) (
        before.0 ++ line,
        and_made b line before.1 (subst (λ k. TellsMade w (record { step = n; place = k + 1 }) b line) (sym count) q.3),
        q.4 ∙ ap (λ t. t ++ line) before.2 ∙ append_assoc old before.0 line,
      );
      begun = grind (arith, common_steps);
    }
