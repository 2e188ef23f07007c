use Rattle.ghc_pool.proofs.Words.{subst, None, Err, Fault, World, IsProposal}
use Rattle.ghc_pool.proofs.Telling.{opposite}
use Rattle.ghc_pool.proofs.deciding.Deciding.note_unproposed.Goals as goal

pub starve-requires-clause-starved : goal.starve-requires-clause-starved
starve-requires-clause-starved g c = subst (λ (f : Fault). (w : World) × IsProposal g.N.Naming.opened w c.args.goal None (Err f)) (c.is_memory.ensures.0 c.if-is_memory.true) c.requires.refused

pub note_refused-requires-clause-refused : goal.note_refused-requires-clause-refused
note_refused-requires-clause-refused g c =
    let said = c.requires.refused in
    (said.0, c.args.fault.now, (λ e. opposite c.is_memory.result (c.is_memory.ensures.1 e) c.if-is_memory.false), said.1)
