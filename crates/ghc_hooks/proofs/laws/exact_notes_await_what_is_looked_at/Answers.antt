use Rattle.ghc_hooks.proofs.LookedAt.{exact_awaits}
use Rattle.ghc_hooks.proofs.laws.exact_notes_await_what_is_looked_at.Goals as goal

pub returns : goal.returns
returns c = exact_awaits
