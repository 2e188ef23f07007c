use Rattle.ghc_hooks.proofs.Words.{◌∙◌, ap, status_of}
use Rattle.ghc_hooks.proofs.Unblocking.{waiting_gone}
use Rattle.ghc_hooks.proofs.unblocked.Unblocked.remove.Goals as goal

pub returns-in-Waiting : goal.returns-in-Waiting
returns-in-Waiting c notes are noted = waiting_gone notes c.args.self.now c.args.self.now are c.args.goal c.in-Waiting.field-0 (noted.0, noted.1, noted.2 ∙ ap status_of c.in-Waiting.is)

pub returns-in-Ready : goal.returns-in-Ready
returns-in-Ready c notes are noted = c.take_out.ensures notes are

pub returns-in-Failed : goal.returns-in-Failed
returns-in-Failed c notes are noted = c.take_out-in-Failed.ensures notes are
