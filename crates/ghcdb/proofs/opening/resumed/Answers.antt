use Rattle.ghcdb.proofs.CitedWords.{inl, inr, refl, sym, ap, ◌∙◌, subst, spied_of, GivesBack, resumes, of_chronicle, of_entry}
use Rattle.ghcdb.proofs.Opened.{told_of_history}
use Rattle.ghcdb.proofs.opening.resumed.Goals as goal

-- the text of the chronicle was refused
pub returns-in-Err-clause-answer : goal.returns-in-Err-clause-answer
returns-in-Err-clause-answer c = (
  tt,
  told_of_history c.args.started c.args.text.now c.refused.result c.in-Err.fault c.refused.ensures.part c.refused.ensures.fault (elim c.in-Err.ensures.1 [
    | inl m ↦ inl m
    | inr h ↦ inr (of_chronicle c.requires.version h)
  ]),
)

pub resume-requires-clause-opening : goal.resume-requires-clause-opening
resume-requires-clause-opening c = (c.what_is_read_can_be_resumed.ensures c.args.text.now c.in-Ok.chronicle c.in-Ok.ensures.0).opening

pub resume-requires-clause-entries : goal.resume-requires-clause-entries
resume-requires-clause-entries c = (c.what_is_read_can_be_resumed.ensures c.args.text.now c.in-Ok.chronicle c.in-Ok.ensures.0).entries

pub resume-requires-clause-spies : goal.resume-requires-clause-spies
resume-requires-clause-spies c = (c.what_is_read_can_be_resumed.ensures c.args.text.now c.in-Ok.chronicle c.in-Ok.ensures.0).spies

-- a line of it was refused as it was carried out
pub returns-in-Err-resume-clause-answer : goal.returns-in-Err-resume-clause-answer
returns-in-Err-resume-clause-answer c = (
  tt,
  told_of_history c.args.started c.args.text.now c.refused-in-Err-resume.result c.in-Err-resume.fault c.refused-in-Err-resume.ensures.part c.refused-in-Err-resume.ensures.fault (elim c.in-Err-resume.ensures.answer.1 [
    | inl m ↦ inl m
    | inr h ↦ inr (of_entry c.in-Ok.chronicle c.in-Ok.ensures.0 h)
  ]),
)

-- no memory for the spies
pub returns-in-Err-of-clause-answer : goal.returns-in-Err-of-clause-answer
returns-in-Err-of-clause-answer c = (tt, told_of_history c.args.started c.args.text.now c.refused-in-Err-of.result _ c.refused-in-Err-of.ensures.part c.refused-in-Err-of.ensures.fault (inl refl))

pub returns-in-Ok-of-clause-answer : goal.returns-in-Ok-of-clause-answer
returns-in-Ok-of-clause-answer c =
    let left = c.in-Ok-resume.core.world in
    let spied = c.new.ensures.spies ∙ c.in-Ok-of.ensures ∙ ap spied_of c.spies.ensures in
    let gives = resumes c.in-Ok.chronicle c.in-Ok.ensures.0 c.in-Ok-resume.ensures.answer.0 in (
      subst (λ w. GivesBack c.args.started c.args.text.now w c.new.result.spies) (sym (ap (λ k. k.world) c.new.ensures.core))
          (subst (λ spies. GivesBack c.args.started c.args.text.now left spies) (sym spied) gives),
      tt,
    )
