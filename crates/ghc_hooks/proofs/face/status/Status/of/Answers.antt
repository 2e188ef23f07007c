use Rattle.ghc_hooks.proofs.Words.{sym, ap, is_stream, is_stream_goal}
use Rattle.ghc_hooks.proofs.face.status.Status.of.Goals as goal

pub returns-in-Stream : goal.returns-in-Stream
returns-in-Stream c = is_stream_goal (sym (ap is_stream c.in-Stream.ensures))
