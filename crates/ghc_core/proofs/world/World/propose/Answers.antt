use Rattle.ghc_core.proofs.Words.{refl, Ok, Err, no_hand, no_memory, IsHand}
use Rattle.ghc_term.proofs.ListsLemmas.{not_both}
use Rattle.ghc_core.proofs.Replying.{hand_holds, hand_refused}
use Rattle.ghc_core.proofs.CertainRefusals.{no_hand_proposed, attempt_refused_anyway}
use Rattle.ghc_core.proofs.world.World.propose.Goals as goal

pub returns-then-not-has : goal.returns-then-not-has
returns-then-not-has c =
    let none : ¬ IsHand c.args.self.now.hands c.args.hand = λ i. not_both c.has.result c.if-not-has.true (c.has.ensures.1 i) in
    record {
      answer = no_hand none;
      anyway = λ f fails. no_hand_proposed c.args.self.now.core.world c.args.self.now.hands c.args.hand c.args.goal c.args.choice none fails;
      core = refl;
      counted = (λ there. absurd (none there), λ _. refl);
    }

pub returns-in-Err : goal.returns-in-Err
returns-in-Err c =
    let has = c.has.ensures.0 c.if-not-has.false in
    record {
      answer = hand_refused _ _ _ has c.args.goal c.args.choice c.in-Err.fault c.in-Err.ensures.answer.1;
      anyway = λ f fails.
          let said = attempt_refused_anyway _ _ _ c.args.goal _ (Err c.in-Err.fault) has c.in-Err.ensures.no_goal c.in-Err.ensures.no_clause fails in cc;
      core = refl;
      counted = (λ _. c.in-Err.ensures.counted, λ none. absurd (none has));
    }

pub returns-in-Ok-hold : goal.returns-in-Ok-hold
returns-in-Ok-hold c =
    let has = c.has.ensures.0 c.if-not-has.false in
    record {
      answer = hand_holds _ _ _ has c.args.goal c.args.choice c.in-Ok.proposal c.hold.new.self c.in-Ok.ensures.answer.0 c.in-Ok-hold.ensures.ok;
      anyway = λ f fails.
          let said = attempt_refused_anyway _ _ _ c.args.goal _ (Ok c.in-Ok.proposal) has c.in-Ok.ensures.no_goal c.in-Ok.ensures.no_clause fails in cc;
      core = refl;
      counted = (λ _. c.in-Ok.ensures.counted, λ none. absurd (none has));
    }

pub returns-in-Err-hold : goal.returns-in-Err-hold
returns-in-Err-hold c =
    let has = c.has.ensures.0 c.if-not-has.false in
    record {
      answer = rw c.in-Err-hold.ensures.err (no_memory tt);
      anyway = λ f fails.
          let said = attempt_refused_anyway _ _ _ c.args.goal _ (Ok c.in-Ok.proposal) has c.in-Ok.ensures.no_goal c.in-Ok.ensures.no_clause fails in cc;
      core = refl;
      counted = (λ _. c.in-Ok.ensures.counted, λ none. absurd (none has));
    }
