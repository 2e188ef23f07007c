use Rattle.ghc_records.proofs.Words.{sym, subst, arith, none_weaker, Act, SaysAct}
use Rattle.ghc_records.proofs.Saying.{act_apart, no_act}
use Rattle.ghc_records.proofs.text.step_reading.step_behind.Goals as goal

pub returns-in_default-clause-none : goal.returns-in_default-clause-none
returns-in_default-clause-none c = no_act c.args.step c.args.bytes.now (omega (arith, c.ranges.step)) c.in_default.ensures.none

pub returns-in-Some-read_goal_name-clause-none : goal.returns-in-Some-read_goal_name-clause-none
returns-in-Some-read_goal_name-clause-none c = none_weaker c.step_with.result (λ (none : (act : Act) → ¬ SaysAct c.in-Some.act.now act). λ s says.
    let (_, act) = act_apart c.args.step c.args.bytes.now c.in-Some.word.now c.in-Some.act.now s (omega (arith, c.ranges.step))
    c.in-Some.ensures.found c.in-Some.ensures.plain says in
    none s.act (subst (λ l. SaysAct l s.act) (sym act) says.says)) c.step_with.ensures.none

pub returns-in-None-clause-none : goal.returns-in-None-clause-none
returns-in-None-clause-none c = λ s says.
    c.in-None.ensures.none says.goal says.goal_numbers.0 says.goal_numbers.1
    (act_apart c.args.step c.args.bytes.now c.in-Some.word.now c.in-Some.act.now s (omega (arith, c.ranges.step)) c.in-Some.ensures.found c.in-Some.ensures.plain says).0
