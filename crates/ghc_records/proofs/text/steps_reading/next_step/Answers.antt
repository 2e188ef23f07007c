use Rattle.ghc_records.proofs.Words.{refl, subst, SaysStep, pieces_of}
use Rattle.ghc_records.proofs.CutLemmas.{line_is}
use Rattle.ghc_records.proofs.text.steps_reading.next_step.Goals as goal

pub returns-in-Ok-None-clause-none : goal.returns-in-Ok-None-clause-none
returns-in-Ok-None-clause-none c = λ other s stands says.
    let same = line_is (pieces_of c.args.text.now) 0 c.args.text.now c.in-Some.line.now c.in-Some.rest.now other refl c.in-Some.ensures.found stands in
    (rw c.in-Ok-None.field-0-is at c.in-Ok-None.ensures.none) s (subst (λ l. SaysStep l s) same says)
