use Rattle.ghc_core.proofs.Words.{subst, next_record}
use Rattle.ghc_core.proofs.Preparing.{IsNext, commit_answered}
use Rattle.ghc_core.proofs.core_state.Core.prepare.Goals as goal

pub returns-in-Ok-clause-answer : goal.returns-in-Ok-clause-answer
returns-in-Ok-clause-answer c =
    let w = c.args.self.now.world in
    let same = c.in-Ok.ensures.stays.world in
    let next = subst (λ v. IsNext v (next_record v c.in-Ok.again) c.as_next.result) same (c.as_next.ensures.step, c.as_next.ensures.room, c.as_next.ensures.fault) in
    commit_answered w c.args.proposal.now c.in-Ok.again c.as_next.result c.stands.ensures.standing c.in-Ok.ensures.holds c.in-Ok.ensures.there c.in-Ok.ensures.same next
