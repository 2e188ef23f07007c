use Rattle.ghc_records.proofs.Words.{◌≡◌, List, true, false, IfSome, IfNone, sym, ap, ◌∙◌, subst, Goal, Asked as asks, AreNewInOrder, SaysGoals}
use Rattle.ghc_records.proofs.AskingLines.{in_order_of, new_in_order}
use Rattle.ghc_records.proofs.text.asking_reading.read_asked.Goals as goal

pub returns-in-Ok-None-clause-none : goal.returns-in-Ok-None-clause-none
returns-in-Ok-None-clause-none c = λ gs says new. subst (λ o. IfNone o ((gs : List Goal) → ¬ SaysGoals c.args.text.now gs)) c.in-Ok-None.field-0-is c.in-Ok-None.ensures.none gs says

pub returns-then-not-are_in_order-clause-none : goal.returns-then-not-are_in_order-clause-none
returns-then-not-are_in_order-clause-none c = λ gs says new.
    let ask = c.in-Ok-Some.ask in
    let one = subst (λ o. IfSome o (λ ask. (gs : List Goal) → SaysGoals c.args.text.now gs → gs ≡ ask)) c.in-Ok-Some.field-0-is c.in-Ok-Some.ensures.one in
    let here = in_order_of ask c.variables.result.now c.args.step c.variables.ensures (subst (AreNewInOrder c.args.step) (one gs says) new) in
    let clash : true ≡ false = sym (c.are_in_order.ensures.1 here) ∙ c.if-not-are_in_order.true in
    cc

pub returns-clause-some : goal.returns-clause-some
returns-clause-some c =
    let ask = c.in-Ok-Some.ask in (
      ask,
      ap asks c.in_ok-asked.ensures,
      subst (λ o. IfSome o (λ ask. SaysGoals c.args.text.now ask)) c.in-Ok-Some.field-0-is c.in-Ok-Some.ensures.some,
      new_in_order ask c.variables.result.now c.args.step c.variables.ensures (c.are_in_order.ensures.0 c.if-not-are_in_order.false),
    )
