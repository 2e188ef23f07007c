use Rattle.ghc_pool.proofs.Words.{subst, None, Err, Fault, World, IsProposal}
use Rattle.ghc_pool.proofs.Telling.{opposite}
use Rattle.ghc_pool.proofs.deciding.Deciding.plan_without.Goals as goal

pub returns-then-is_memory : goal.returns-then-is_memory
returns-then-is_memory g c = subst (λ (f : Fault). (w : World) × IsProposal g.N.Naming.opened w c.args.goal None (Err f)) (c.is_memory.ensures.0 c.if-is_memory.true) c.requires

pub returns : goal.returns
returns g c =
    let said = c.requires in
    (said.0, c.args.fault.now, (λ e. opposite c.is_memory.result (c.is_memory.ensures.1 e) c.if-is_memory.false), said.1)
