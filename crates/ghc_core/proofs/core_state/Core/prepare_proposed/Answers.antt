use Rattle.ghc_core.proofs.Words.{refl, subst, next_record}
use Rattle.ghc_core.proofs.Preparing.{IsNext, commit_answered}
use Rattle.ghc_core.proofs.core_state.Core.prepare_proposed.Goals as goal

pub returns-clause-answer : goal.returns-clause-answer
returns-clause-answer c =
    let w = c.args.self.now.world in
    let p = c.args.proposal in
    let seen = c.if-not-holds_as_it_was.false in
    let next = subst (λ v. IsNext v (next_record v p) c.as_next.result) c.count_firing.ensures.stays.world (c.as_next.ensures.step, c.as_next.ensures.room, c.as_next.ensures.fault) in
    commit_answered w p p c.as_next.result c.stands.ensures.standing (c.holds_as_it_was.ensures.holds seen) (c.holds_as_it_was.ensures.there seen) (refl, refl, refl) next
