use Rattle.ghc_trace.proofs.Words.{◌∙◌, subst, string_bytes, In, AddsLines}
use Rattle.ghc_trace.proofs.Lines.{known, all_told, none_long, one_long}
use Rattle.ghc_trace.proofs.goal_lines.push_goals.Goals as goal

pub write_lines-requires : goal.write_lines-requires
write_lines-requires c goal i = known c.args.goals.now.held c.args.tries.now.notes c.requires goal (subst (In goal) c.in_ok-ordered.ensures i)

pub returns-in-Ok-clause-text : goal.returns-in-Ok-clause-text
returns-in-Ok-clause-text c =
    all_told c.args.goals.now.held c.args.tries.now.notes c.args.store.now.held (string_bytes c.args.out.now) (string_bytes c.write_lines.new.out) (subst (λ goals. AddsLines c.args.tries.now.notes c.args.store.now.held goals (string_bytes c.args.out.now) (string_bytes c.write_lines.new.out)) c.in_ok-ordered.ensures c.in-Ok.ensures.text)

pub returns-in-Ok-clause-short : goal.returns-in-Ok-clause-short
returns-in-Ok-clause-short c =
    none_long c.args.goals.now.held c.args.tries.now.notes c.args.store.now.held (string_bytes c.args.out.now) (string_bytes c.write_lines.new.out) (subst (λ goals. AddsLines c.args.tries.now.notes c.args.store.now.held goals (string_bytes c.args.out.now) (string_bytes c.write_lines.new.out)) c.in_ok-ordered.ensures c.in-Ok.ensures.text)

pub returns-clause-too_long : goal.returns-clause-too_long
returns-clause-too_long c e =
    let long = c.write_lines.ensures.too_long (c.in-Err.is ∙ e) in
    one_long c.args.goals.now.held c.args.store.now.held long.0 (subst (In long.0) c.in_ok-ordered.ensures long.1) long.2
