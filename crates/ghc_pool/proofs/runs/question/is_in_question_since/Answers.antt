use Rattle.std.proofs.Common.{refl}
use Rattle.ghc_pool.proofs.Asked.{made_since}
use Rattle.ghc_pool.proofs.runs.question.is_in_question_since.Goals as goal

pub returns-then-goal-since : goal.returns-then-goal-since
returns-then-goal-since c =
    (λ yes. made_since c.args.root c.args.core.now.world c.args.since c.stands.ensures.standing c.requires.took c.args.goal c.requires.there.0 c.requires.there.1 c.if-goal-since.true, λ q. refl)
