use Rattle.ghc_fire.proofs.Words.{value_at}
use Rattle.ghc_fire.proofs.FoundEffects.{same_or_not}
use Rattle.ghc_fire.proofs.recorded.has_effect.Goals as goal

pub returns-in-Some-clause-answer : goal.returns-in-Some-clause-answer
returns-in-Some-clause-answer c =
    let a = c.args in
    let has = rw c.in-Some.is at c.in_ok-found.ensures.some in
    same_or_not c.same.result a.program.now a.goal.now a.act.now a.number (value_at a.store.now.held)
    c.in-Some.found a.effect.now c.acyclic.ensures has c.same.ensures
