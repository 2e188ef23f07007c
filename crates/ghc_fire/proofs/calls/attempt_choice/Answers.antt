use Rattle.ghc_fire.proofs.Words.{◌≡◌, inr, rules, Clause, IsClause, IsFor, ChoiceAnswers}
use Rattle.ghc_fire.proofs.Calling.{has_clause}
use Rattle.ghc_fire.proofs.Steps.{clause_once}
use Rattle.ghc_fire.proofs.calls.attempt_choice.Goals as goal

pub returns-in_default-clause-fault : goal.returns-in_default-clause-fault
returns-in_default-clause-fault c = inr (ChoiceAnswers.no_clause (λ d ic is. c.in_default.ensures.none d ic))

pub returns-then-ne-clause-fault : goal.returns-then-ne-clause-fault
returns-then-ne-clause-fault c =
    let other : (d : Clause) → IsClause c.args.program.now c.args.number d → ¬ IsFor c.args.name.now c.args.arguments.now d = λ d id for.
    let same : d ≡ c.in-Some.clause.now = clause_once c.args.program.now id c.in-Some.ensures.found in
    search rules in
    inr (ChoiceAnswers.no_clause other)

pub returns-in-Refuses-clause-fault : goal.returns-in-Refuses-clause-fault
returns-in-Refuses-clause-fault c =
    let is : IsFor c.args.name.now c.args.arguments.now c.in-Some.clause.now = search rules in
    inr (ChoiceAnswers.no_match c.in-Some.ensures.found is (rw c.in-Refuses.is at c.in_ok-verdict.ensures))

pub returns-in-Waits-clause-fault : goal.returns-in-Waits-clause-fault
returns-in-Waits-clause-fault c =
    let is : IsFor c.args.name.now c.args.arguments.now c.in-Some.clause.now = search rules in
    let waits = rw c.in-Waits.is at c.in_ok-verdict.ensures in
    inr (ChoiceAnswers.waits c.in-Some.ensures.found is waits.1)

pub returns-in-Reduces-clause-no_clause : goal.returns-in-Reduces-clause-no_clause
returns-in-Reduces-clause-no_clause c none =
    let is : IsFor c.args.name.now c.args.arguments.now c.in-Some.clause.now = search rules in
    absurd (has_clause c.args.program.now c.args.name.now c.args.arguments.now _ c.args.number c.in-Some.clause.now c.in-Some.ensures.found is none)

pub returns-in-Reduces-clause-proposed : goal.returns-in-Reduces-clause-proposed
returns-in-Reduces-clause-proposed c =
    let is : IsFor c.args.name.now c.args.arguments.now c.in-Some.clause.now = search rules in
    let v = rw c.in-Reduces.is at c.in_ok-verdict.ensures in
    ChoiceAnswers.by_choice (v.1 c.args.program.now c.args.name.now c.args.number c.in-Some.ensures.found is)
