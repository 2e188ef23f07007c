use Rattle.ghc_trace.proofs.Words.{◌++◌, codes, refl, arith, common_steps, subst, StoreValue}
use Rattle.ghc_records.specs.Journal.{step_of}
use Rattle.ghc_records.specs.StepText.{step_text}
use Rattle.ghc_trace.specs.PartLines.{IsShown}
use Rattle.ghc_trace.proofs.part_lines.write_gave.Goals as goal

pub returns-clause-text : goal.returns-clause-text
returns-clause-text c =
    let line = c.in-Ok.ensures.text in
    let made = c.in-Ok-write_all_made.ensures.text in (
      codes "gave " ++ (line.0 ++ (codes "\n" ++ (made.0 ++ (step_text (step_of c.args.step.now) ++ codes "\n")))),
      (line.0, made.0, subst (λ (s : StoreValue). IsShown s c.args.goal.now line.0) c.store.ensures line.1, made.1, refl),
      grind (arith, common_steps),
    )
