use Rattle.ghcdb.proofs.CitedWords.{inl, inr, sym, ap, ◌∙◌, subst, GivesBack, loads, of_text, of_step}
use Rattle.ghcdb.proofs.Opened.{told_of_history}
use Rattle.ghcdb.proofs.opening.loaded.Goals as goal

-- the text of the history was refused
pub returns-in-Err-clause-answer : goal.returns-in-Err-clause-answer
returns-in-Err-clause-answer c = (
  tt,
  told_of_history c.args.started c.args.text.now c.refused.result c.in-Err.fault c.refused.ensures.part c.refused.ensures.fault (elim c.in-Err.ensures.answer.1 [
    | inl m ↦ inl m
    | inr h ↦ inr (of_text c.requires.version h)
  ]),
)

-- a step of it was refused
pub returns-in-Err-load-clause-answer : goal.returns-in-Err-load-clause-answer
returns-in-Err-load-clause-answer c = (
  tt,
  told_of_history c.args.started c.args.text.now c.refused-in-Err-load.result c.in-Err-load.fault c.refused-in-Err-load.ensures.part c.refused-in-Err-load.ensures.fault (elim c.in-Err-load.ensures.answer.1 [
    | inl m ↦ inl m
    | inr h ↦ inr (of_step c.in-Ok.history c.in-Ok.ensures.answer.0 h)
  ]),
)

pub returns-in-Ok-load-clause-answer : goal.returns-in-Ok-load-clause-answer
returns-in-Ok-load-clause-answer c =
    let made = c.new-in-Ok-load in
    let loaded = c.in-Ok-load.core.world in
    let spied = made.ensures.spies ∙ c.new.ensures in
    let gives = loads c.in-Ok.history c.in-Ok.ensures.answer.0 c.in-Ok-load.ensures.answer.0 in (
      subst (λ w. GivesBack c.args.started c.args.text.now w made.result.spies) (sym (ap (λ k. k.world) made.ensures.core))
          (subst (λ spies. GivesBack c.args.started c.args.text.now loaded spies) (sym spied) gives),
      tt,
    )
