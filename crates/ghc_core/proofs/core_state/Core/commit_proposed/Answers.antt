use Rattle.ghc_core.proofs.Words.{subst, ap, ◌∙◌, AreLeft, Binds, World, with_step}
use Rattle.ghc_core.proofs.core_state.Core.commit_proposed.Goals as goal

pub returns-clause-answer : goal.returns-clause-answer
returns-clause-answer c =
    let same = c.in_ok-addition.ensures.stays.world in
    let step = c.in_ok-addition.addition in
    let taken = c.in_ok-number.ensures.ok in
    ((step, c.in_ok-addition.ensures.answer.0, taken.0 ∙ ap (λ (w : World). w.next) same, taken.1 ∙ ap (with_step step) same), tt)

pub returns-clause-notes : goal.returns-clause-notes
returns-clause-notes c =
    let before = c.in_ok-addition.ensures.stays in
    let step = c.in_ok-addition.addition in (
      step,
      c.in_ok-addition.ensures.answer.0,
      c.in_ok-number.ensures.ok.1 ∙ ap (with_step step) before.world,
      subst (λ notes. AreLeft c.take_next.new.self.world.state.goals (Binds step) notes c.take_next.new.self.notes) before.notes c.in_ok-number.ensures.notes,
    )
