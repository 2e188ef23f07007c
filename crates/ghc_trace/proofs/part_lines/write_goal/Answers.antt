use Rattle.ghc_trace.proofs.Words.{arith, string_bytes, common_steps}
use Rattle.ghc_trace.proofs.part_lines.write_goal.Goals as goal

pub returns-clause-text : goal.returns-clause-text
returns-clause-text c = (string_bytes c.in_ok-text.text, (c.in_ok-text.ensures.text, c.in_ok-text.ensures.short), grind (arith, common_steps))
