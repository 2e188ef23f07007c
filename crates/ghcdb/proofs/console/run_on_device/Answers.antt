use Rattle.ghcdb.proofs.Tells.{told_begun, told_kept}
use Rattle.ghcdb.proofs.console.run_on_device.Goals as goal

pub returns-in-Ok-flush-clause-told : goal.returns-in-Ok-flush-clause-told
returns-in-Ok-flush-clause-told g c =
    let told = rw c.in-Ok.is at c.session-debugger.ensures.text in
    rw c.flush.ensures.earlier (told_kept _ _ _ _ _ _ _ _ told c.flush.ensures.written)

pub returns-in-Err-flush-clause-told : goal.returns-in-Err-flush-clause-told
returns-in-Err-flush-clause-told g c =
    let told = rw c.in-Ok.is at c.session-debugger.ensures.text in
    rw c.flush.ensures.earlier (told_begun _ _ _ _ _ _ (told_kept _ _ _ _ _ _ _ _ told c.flush.ensures.written))
