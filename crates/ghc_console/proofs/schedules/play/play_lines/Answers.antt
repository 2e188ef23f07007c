use Rattle.ghc_console.proofs.CitedWords.{◌∙◌, err_from_is_err_and, refl}
use Rattle.ghc_console.proofs.SchedulePlays.{known_broken, known_kept, known_last, known_on, known_start, known_stopped}
use Rattle.ghc_console.proofs.SessionLoop.{kept_then, taken_kept}
use Rattle.ghc_console.proofs.schedules.play.play_lines.Goals as goal

pub loop-init : goal.loop-init
loop-init g c = (tt, tt, rw c.new-ahead.ensures (known_start _ _ _), refl)

pub next_line-requires : goal.next_line-requires
next_line-requires g c = record { ask = λ d none kept more. c.requires.prompt d none }

pub returns-in-Err-clause-played : goal.returns-in-Err-clause-played
returns-in-Err-clause-played g c = known_stopped _ _ _ _ _ _ _ c.loop.invariant.2 c.in-Err.ensures.written

pub returns-in-Ok-None-clause-played : goal.returns-in-Ok-None-clause-played
returns-in-Ok-None-clause-played g c =
    let end = rw c.in-Ok-None.field-0-is at c.in-Ok-None.ensures.line in
    known_last _ _ _ _ _ _ _ _ c.write_last.result (known_kept _ _ _ _ _ _ _ c.loop.invariant.2 c.in-Ok-None.ensures.written) end.0 c.core.ensures c.write_last.ensures.told

pub returns-in_err-play_line-clause-played : goal.returns-in_err-play_line-clause-played
returns-in_err-play_line-clause-played g c =
    let read = c.in-Ok-Some.ensures in
    let taken = rw c.in-Ok-Some.field-0-is at read.line in
    let played = c.in_err-play_line.ensures.played in
    rw (err_from_is_err_and c.from_residual.result c.from_residual.ensures.1).1 (known_broken _ _ _ _ _ _ _ _ _ _ c.loop.invariant.2 taken (λ bytes says.
    (played.reply, record { line = c.in-Ok-Some.line; says = says; heard = played.heard }, (played.told.0, kept_then _ _ _ _ read.written played.told.1))))

pub loop-preserved : goal.loop-preserved
loop-preserved g c =
    let read = c.in-Ok-Some.ensures in
    let taken = rw c.in-Ok-Some.field-0-is at read.line in
    let line = c.in_ok-play_line.ensures in
    let left = taken_kept _ c.next_line.new.self _ _ _ taken line.reads.unread in (
      tt,
      tt,
      known_on _ _ _ _ _ _ _ _ _ _ c.loop.invariant.2 left (λ bytes says.
          (line.played.reply, record { line = c.in-Ok-Some.line; says = says; heard = line.played.heard }, kept_then _ _ _ _ read.written line.played.told)),
      line.ends ∙ read.count ∙ c.loop.invariant.3,
    )
