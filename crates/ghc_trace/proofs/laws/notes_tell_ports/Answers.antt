use Rattle.ghc_trace.proofs.Telling.{ports_told}
use Rattle.ghc_trace.proofs.laws.notes_tell_ports.Goals as goal

pub returns : goal.returns
returns c = ports_told
