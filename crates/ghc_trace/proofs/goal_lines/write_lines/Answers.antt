use Rattle.ghc_trace.proofs.Words.{◌≡◌, ◌++◌, [], ◌∷◌, sym, ap, ◌∙◌, arith, append_assoc, append-nil, subst, string_bytes, common_steps, Named, AddsLines, lent}
use Rattle.ghc_trace.proofs.Lines.{adds_one, next_in, nothing_added}
use Rattle.ghc_trace.proofs.goal_lines.write_lines.Goals as goal

pub loop-name-init : goal.loop-name-init
loop-name-init c =
    let gives : c.into_iter-name-iterator.result ≡ c.args.goals.now.entries = c.into_iter-name-iterator.ensures.into_iter_gives.0 in
    record { rest = ([], sym (ap lent gives), nothing_added c.args.tries.now.notes c.args.store.now.held (string_bytes c.args.out.now)); begun = grind (arith, common_steps) }

pub write_line-requires : goal.write_line-requires
write_line-requires c = c.requires (c.in-Some.name.now, c.in-Some.goal.now.now) (next_in _ c.loop-name.invariant.rest.0 _ _ _ c.loop-name.invariant.rest.1 c.in-Some.ensures.steps)

pub loop-name-preserved : goal.loop-name-preserved
loop-name-preserved c =
    let goal : Named = (c.in-Some.name.now, c.in-Some.goal.now.now) in
    let rest = c.loop-name.invariant.rest in
    record {
      rest = (
        rest.0 ++ goal ∷ [],
        rest.1 ∙ ap (λ es. rest.0 ++ lent es) c.in-Some.ensures.steps ∙ sym (append_assoc rest.0 (goal ∷ []) (lent c.next.new.self)),
        adds_one c.args.tries.now.notes c.args.store.now.held rest.0 goal (string_bytes c.args.out.now) (string_bytes c.loop-name.out) (string_bytes c.write_line.new.out) rest.2 c.in-Ok.ensures.text,
      );
      begun = grind (arith, common_steps);
    }

pub returns-in-Err-clause-too_long : goal.returns-in-Err-clause-too_long
returns-in-Err-clause-too_long c e = (
  (c.in-Some.name.now, c.in-Some.goal.now.now),
  next_in _ c.loop-name.invariant.rest.0 _ _ _ c.loop-name.invariant.rest.1 c.in-Some.ensures.steps,
  c.write_line.ensures.too_long (c.in-Err.is ∙ e),
)

pub returns-clause-text : goal.returns-clause-text
returns-clause-text c =
    let rest = c.loop-name.invariant.rest in
    subst (λ goals. AddsLines c.args.tries.now.notes c.args.store.now.held goals (string_bytes c.args.out.now) (string_bytes c.loop-name.out)) (sym (rest.1 ∙ ap (λ es. rest.0 ++ lent es) c.in-None.ensures.steps.0 ∙ append-nil rest.0)) rest.2
