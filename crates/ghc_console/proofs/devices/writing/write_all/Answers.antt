use Rattle.ghc_console.proofs.CitedWords.{◌∙◌, err_from_is_err_and}
use Rattle.ghc_console.proofs.WriteLoop.{front, onward}
use Rattle.ghc_console.proofs.devices.writing.write_all.Goals as goal

pub loop-rest-preserved : goal.loop-rest-preserved
loop-rest-preserved g c =
    let wrote = c.in_ok-n.ensures in (
      onward _ _ _ _ _ _ _ _ c.loop-rest.invariant.0 c.in_ok-n.n _ _ _ wrote.bytes wrote.unread wrote.count,
      wrote.earlier ∙ c.loop-rest.invariant.1,
      wrote.latest ∙ c.loop-rest.invariant.2,
    )

pub returns-in_err-n-clause-bytes : goal.returns-in_err-n-clause-bytes
returns-in_err-n-clause-bytes g c = rw (err_from_is_err_and c.from_residual.result c.from_residual.ensures.1).1 (front _ _ _ _ _ _ _ _ c.loop-rest.invariant.0 _ c.in_err-n.ensures.bytes)
