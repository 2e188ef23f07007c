use Rattle.ghc_shared.proofs.Words.{List, length, ap, arith, Entry}
use Rattle.ghc_shared.proofs.AnsweredCalls.{entries_length}
use Rattle.ghc_shared.proofs.telling.CoreGrowing.len.Goals as goal

pub returns-clause-length : goal.returns-clause-length
returns-clause-length c = omega (arith, c.len.ensures.length, ap (λ (l : List Entry). length l) c.journal.ensures, entries_length c.args.self.now.world.journal)

pub returns-clause-legal : goal.returns-clause-legal
returns-clause-legal c = (c.args.self.now.world, c.stands.ensures.legal)
