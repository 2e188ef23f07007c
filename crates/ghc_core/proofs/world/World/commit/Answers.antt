use Rattle.ghc_core.proofs.Words.{sym, inr, no_hand, Comes as comes, Coming}
use Rattle.ghc_term.proofs.ListsLemmas.{not_both}
use Rattle.ghc_core.proofs.Replying.{hand_commits, hand_gives_up, hand_was_empty}
use Rattle.ghc_core.proofs.world.World.commit.Goals as goal

pub returns-then-not-has-clause-answer : goal.returns-then-not-has-clause-answer
returns-then-not-has-clause-answer c = no_hand (λ i. not_both c.has.result c.if-not-has.true (c.has.ensures.1 i))

pub returns-in_default-clause-answer : goal.returns-in_default-clause-answer
returns-in_default-clause-answer c =
    hand_was_empty _ _ _ (c.has.ensures.0 c.if-not-has.false) c.release.new.self (sym c.in_default.ensures.value) c.in_default.ensures.left

pub returns-in-Ok-clause-answer : goal.returns-in-Ok-clause-answer
returns-in-Ok-clause-answer c =
    hand_commits _ _ _ (c.has.ensures.0 c.if-not-has.false) c.in-Some.proposal c.in-Ok.number _
    c.release.new.self (sym c.in-Some.ensures.value) c.in-Ok.ensures.answer.0 c.in-Some.ensures.left

pub returns-in-Ok-clause-moves : goal.returns-in-Ok-clause-moves
returns-in-Ok-clause-moves c = let moved = c.in-Ok.ensures.notes in
    inr (record { change = comes Coming.Next moved.0; possible = moved.1.1; changed = moved.2; notes = moved.3 })

pub returns-clause-answer : goal.returns-clause-answer
returns-clause-answer c =
    hand_gives_up _ _ _ (c.has.ensures.0 c.if-not-has.false) c.in-Some.proposal c.in-Err.fault _ _
    (sym c.in-Some.ensures.value) c.in-Err.ensures.answer.1 c.in-Err.ensures.stays.world c.in-Some.ensures.left

pub returns-in-Ok-clause-counted : goal.returns-in-Ok-clause-counted
returns-in-Ok-clause-counted c =
    (λ _. c.in-Ok.ensures.counted, λ none. absurd (none (c.has.ensures.0 c.if-not-has.false, (c.in-Some.proposal, sym c.in-Some.ensures.value))))

pub returns-clause-counted : goal.returns-clause-counted
returns-clause-counted c =
    (λ _. c.in-Err.ensures.counted, λ none. absurd (none (c.has.ensures.0 c.if-not-has.false, (c.in-Some.proposal, sym c.in-Some.ensures.value))))
