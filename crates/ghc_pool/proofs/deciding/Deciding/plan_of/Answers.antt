use Rattle.ghc_pool.proofs.Words.{sym, subst, IsSpied}
use Rattle.ghc_pool.proofs.Telling.{spied_goal, unspied_step, opposite}
use Rattle.ghc_pool.proofs.deciding.Deciding.plan_of.Goals as goal

pub returns-then-is_spied : goal.returns-then-is_spied
returns-then-is_spied g c =
    let spies = c.args.self.now.spies.now in
    spied_goal g.N.Naming.opened spies c.args.goal c.args.proposal c.requires.proposed (subst (IsSpied spies) c.consumed.ensures (c.is_spied.ensures.0 c.if-is_spied.true))

pub returns : goal.returns
returns g c =
    let spies = c.args.self.now.spies.now in (
      c.requires.inside,
      unspied_step g.N.Naming.opened spies c.args.goal c.args.proposal c.requires.proposed (λ s. opposite c.is_spied.result (c.is_spied.ensures.1 (subst (IsSpied spies) (sym c.consumed.ensures) s)) c.if-is_spied.false),
      c.requires.woken,
    )
