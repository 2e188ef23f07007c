use Rattle.ghc_core.proofs.Words.{◌≡◌, inl, inr, refl, subst, sym, choice_of, IsReduction}
use Rattle.ghc_core.proofs.Committing.{not_refused, same_again, answered_holds}
use Rattle.ghc_core.proofs.changes.recheck.recheck.Goals as goal

pub returns-in-Err-clause-fault : goal.returns-in-Err-clause-fault
returns-in-Err-clause-fault c = elim c.stale_unless_memory.ensures [
  | inl q ↦ inl q.1
  | inr q ↦ inr (
    q.1,
    λ holds. elim c.in-Err.ensures.answer.1 [
      | inl memory ↦ q.0 memory
      | inr t ↦ not_refused c.args.core.now.world c.stands.ensures.orderly.acyclic c.args.proposal.now c.in-Err.fault holds
          (rw (c.goal.ensures, c.clause_of-choice.ensures, c.act.ensures) at t)
    ],
  )
]

pub returns-in-Ok-true-clause-holds : goal.returns-in-Ok-true-clause-holds
returns-in-Ok-true-clause-holds c =
    let act : c.in-Ok.again.act ≡ c.args.proposal.now.act = c.in-Ok-true.ensures.acts c.in-Ok-true.field-0-test in
    let effect : c.in-Ok.again.effect ≡ c.args.proposal.now.effect = c.in-Ok-true.ensures.effects c.in-Ok-true.field-0-test in
    let there = rw c.goal.ensures at c.in-Ok.ensures.answer.0.there in
    let answers = rw (c.goal.ensures, c.clause_of-choice.ensures, c.act.ensures) at c.in-Ok.ensures.answer.0.proposed in
    answered_holds c.args.core.now.world c.args.proposal.now (choice_of c.args.proposal.now.act) c.in-Ok.again.consumed there (rw (act, effect) at answers)

pub returns-in-Ok-false-clause-fault : goal.returns-in-Ok-false-clause-fault
returns-in-Ok-false-clause-fault c = inr (
  refl,
  λ holds.
      let answers = rw (c.goal.ensures, c.clause_of-choice.ensures, c.act.ensures) at c.in-Ok.ensures.answer.0.proposed in
      let same = same_again c.args.core.now.world c.stands.ensures.orderly.acyclic c.args.proposal.now c.in-Ok.again.act c.in-Ok.again.effect holds answers in
      c.in-Ok-false.ensures.no c.in-Ok-false.field-0-test (subst IsReduction (sym same.0) holds.1) same.0 same.1,
)
