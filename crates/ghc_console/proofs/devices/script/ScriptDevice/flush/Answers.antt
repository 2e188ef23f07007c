use Rattle.ghc_console.proofs.CitedWords.{sym, append-nil}
use Rattle.ghc_console.proofs.devices.script.ScriptDevice.flush.Goals as goal

pub returns-clause-tail : goal.returns-clause-tail
returns-clause-tail g c = (_, sym (append-nil _))
