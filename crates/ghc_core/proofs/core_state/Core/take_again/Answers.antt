use Rattle.ghc_core.proofs.Words.{sym, ap, ◌∙◌, subst, World, IsNextStep, with_step, Binds}
use Rattle.ghc_core.proofs.Loading.{none_noted}
use Rattle.ghc_core.proofs.Resuming.{step_carried, step_refused}
use Rattle.ghc_core.proofs.core_state.Core.take_again.Goals as goal

pub returns-in_default-clause-refused : goal.returns-in_default-clause-refused
returns-in_default-clause-refused c _ = step_refused c.args.self.now.world c.args.step.now (rw c.in_default.is at c.in_ok-addition.ensures.none)

pub take_next-requires : goal.take_next-requires
take_next-requires c =
    let next = rw c.in-Some.is at c.in_ok-addition.ensures.next in
    record { found = subst (λ (v : World). IsNextStep v c.in-Some.addition) (sym c.in_ok-addition.ensures.world) next }

pub returns-clause-carried : goal.returns-clause-carried
returns-clause-carried c _ =
    let w : World = c.args.self.now.world in
    let r = c.in-Some.addition in
    step_carried w c.take_next.new.self.world c.args.step.now r c.stands.ensures.standing (rw c.in-Some.is at c.in_ok-addition.ensures.next)
    (rw c.in-Some.is at c.in_ok-addition.ensures.step)
    (c.in_ok-take_next.ensures.ok.1 ∙ ap (with_step r) c.in_ok-addition.ensures.world)

pub returns-clause-notes : goal.returns-clause-notes
returns-clause-notes c none _ =
    none_noted c.take_next.new.self.world.state.goals (Binds c.in-Some.addition) c.next_as.new.self.notes c.take_next.new.self.notes c.in_ok-take_next.ensures.notes (c.in_ok-addition.ensures.notes ∙ none)
