use Rattle.ghcdb.proofs.CitedWords.{◌⊎◌, sym, subst, inl, inr, refl, IsStartRefusal, IsOutOfMemory, for_program, for_query, of_program, of_query}
use Rattle.ghcdb.proofs.IsStarted.{told}
use Rattle.ghcdb.proofs.start.start.Goals as goal

pub returns-in-Err : goal.returns-in-Err
returns-in-Err c =
    record {
      answer = (tt, elim c.in-Err.ensures.answer.1 [ inl m ↦ inl (for_program (record { fault = m; part_is = refl })) | inr r ↦ inr (of_program refl r) ]);
    }

pub returns-in-Err-read_query : goal.returns-in-Err-read_query
returns-in-Err-read_query c =
    record {
      answer = (
        tt,
        elim c.in-Err-read_query.ensures.answer.1 [
          | inl m ↦ inl (for_query c.in-Ok.written c.in-Ok.ensures.answer.0 (record { fault = m; part_is = refl }))
          | inr r ↦ inr (of_query c.in-Ok.written c.in-Ok.ensures.answer.0 refl r)
        ],
      );
    }

pub returns-in-Err-judge : goal.returns-in-Err-judge
returns-in-Err-judge c =
    let said =
    told c.args.program.now c.args.query.now c.in-Ok.written c.in-Ok-read_query.query c.in-Err-judge.refused c.in-Ok.ensures.answer.0 c.in-Ok-read_query.ensures.answer.0 c.in-Err-judge.ensures.refused in
    record { answer = (tt, subst (λ r. IsOutOfMemory c.args.program.now r ⊎ IsStartRefusal c.args.program.now c.args.query.now r) (sym c.refusal_of.ensures) said) }
