use Rattle.ghc_fire.proofs.Words.{rules}
use Rattle.ghc_fire.specs.Attempted.{IsProposedAs}
use Rattle.ghc_fire.specs.Proposal.{Proposal}
use Rattle.ghc_fire.proofs.attempting.fire_as.Goals as goal

pub returns-in_ok-fired-in-Some-clause-answer : goal.returns-in_ok-fired-in-Some-clause-answer
returns-in_ok-fired-in-Some-clause-answer c =
    let f = c.in_ok-fired-in-Some.fired.value in
    let p : Proposal = record { goal = c.args.goal; consumed = c.in-Some.consumed.now; act = f.act; effect = f.effect } in
    let is : IsProposedAs c.args.step c.args.program.now c.args.goals.now.held c.args.store.now.held c.args.goal c.args.choice p = search rules in
    ((p, is, c.in_ok-fired-in-Some.ensures.fired), search rules)
