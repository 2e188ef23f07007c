use Rattle.ghcdb.proofs.Opened.{refused_at_start, refused_for_lines, opened_fresh, opened_loaded, answer_for}
use Rattle.ghcdb.proofs.opening.open.Goals as goal

pub returns-in-Err : goal.returns-in-Err
returns-in-Err c = record { answer = (tt, refused_at_start _ _ _ c.in-Err.refusal c.in-Err.ensures.answer.1) }

pub returns-in-Err-read_clause_lines : goal.returns-in-Err-read_clause_lines
returns-in-Err-read_clause_lines c = record { answer = (tt, refused_for_lines _ _ _ c.in-Err-read_clause_lines.fault c.in-Err-read_clause_lines.ensures.1) }

pub returns-in-None : goal.returns-in-None
returns-in-None c =
    record {
      answer = answer_for _ _ _ _ _ c.in-None.is (opened_fresh _ _ c.in-Ok.started _ c.in-Ok.ensures.answer.0 c.in-Ok-read_clause_lines.ensures.0 c.fresh.result c.fresh.ensures.answer c.fresh.ensures.lines);
    }

pub returns-in-Some : goal.returns-in-Some
returns-in-Some c =
    record {
      answer = answer_for _ _ _ _ _ c.in-Some.is (opened_loaded _ _ c.in-Ok.started _ c.in-Ok.ensures.answer.0 c.in-Ok-read_clause_lines.ensures.0 c.in-Some.text.now c.given_back.result c.given_back.ensures.answer c.given_back.ensures.lines);
    }
