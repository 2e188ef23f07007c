use Rattle.ghc_pool.proofs.Words.{subst, None, IsProposal}
use Rattle.ghc_pool.proofs.deciding.DecidingCraftPassCore.attempt.Goals as goal

pub returns : goal.returns
returns g c = λ name is.
    let w = c.args.excerpt.now.world in
    let said = c.attempt.ensures in
    (is.0, (w, subst (λ n. IsProposal g.N.Naming.opened w n None c.attempt.result) is.2 (record { of_opening = is.1; standing = said.standing; answer = said.answer; no_goal = said.no_goal; no_clause = said.no_clause })))
