use Rattle.ghc_trace.proofs.Words.{refl, arith, string_bytes, common_steps, goal_line}
use Rattle.ghc_trace.proofs.Lines.{not_long}
use Rattle.ghc_trace.proofs.goal_lines.write_line.Goals as goal

pub returns-clause-text : goal.returns-clause-text
returns-clause-text c =
    let status = c.in_ok-write_status.ensures.text in
    let text = string_bytes c.in_ok-text.text in (
      goal_line c.args.name status.0 text,
      record {
        tells = record { status = status.0; has = status.1; text = text; shown = c.in_ok-text.ensures.text; written = refl };
        short = not_long c.args.store.now.held c.args.goal.now text c.in_ok-text.ensures.text c.in_ok-text.ensures.short;
      },
      grind (arith, common_steps),
    )
