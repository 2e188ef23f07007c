use Rattle.ghc_core.proofs.Words.{subst, sym, ap, ◌∙◌, AreLeft, Binds, World, IsReplay, with_step}
use Rattle.ghc_core.proofs.core_state.Core.commit.Goals as goal

pub returns-in_err-addition-clause-replay : goal.returns-in_err-addition-clause-replay
returns-in_err-addition-clause-replay c = subst (λ (w : World). IsReplay w w.kept w.state) (sym c.in_err-addition.ensures.stays.world) c.stands.ensures.replay

pub returns-in_err-number-clause-replay : goal.returns-in_err-number-clause-replay
returns-in_err-number-clause-replay c = subst (λ (w : World). IsReplay w w.kept w.state) (sym (c.in_err-number.ensures.stays.world ∙ c.in_ok-addition.ensures.stays.world)) c.stands.ensures.replay

pub returns-clause-answer : goal.returns-clause-answer
returns-clause-answer c =
    let same = c.in_ok-addition.ensures.stays.world in
    let step = c.in_ok-addition.addition in
    let taken = c.in_ok-number.ensures.ok in
    ((step, c.in_ok-addition.ensures.answer.0, taken.0 ∙ ap (λ (w : World). w.next) same, taken.1 ∙ ap (with_step step) same), tt)

pub returns-clause-notes : goal.returns-clause-notes
returns-clause-notes c =
    let before = c.in_ok-addition.ensures.stays in
    let step = c.in_ok-addition.addition in (
      step,
      c.in_ok-addition.ensures.answer.0,
      c.in_ok-number.ensures.ok.1 ∙ ap (with_step step) before.world,
      subst (λ notes. AreLeft c.take_next.new.self.world.state.goals (Binds step) notes c.take_next.new.self.notes) before.notes c.in_ok-number.ensures.notes,
    )
