use Rattle.ghc_core.proofs.Words.{subst, Core, IsStanding, AreExactIn}
use Rattle.ghc_core.proofs.Standing.{standing_replay, standing_well_made, standing_orderly, standing_apart}
use Rattle.ghc_core.proofs.Histories.{reached_legal}
use Rattle.ghc_core.proofs.Keeping.{reached_keeps}
use Rattle.ghc_core.proofs.Reaching.{reached_good}
use Rattle.ghc_core.proofs.core_state.Core.stands.Goals as goal

pub returns : goal.returns
returns c =
    let w = c.args.self.now.world in
    let s = subst (λ (x : Core). IsStanding x.world) c.self.view_is c.self.invariant.standing in
    record {
      standing = s;
      replay = standing_replay w s;
      well_made = standing_well_made w s;
      named = (reached_good s).named;
      orderly = standing_orderly w s;
      no_step = standing_apart w s;
      exact = subst (λ (x : Core). AreExactIn x.world x.notes x.untried) c.self.view_is c.self.invariant.exact;
      legal = reached_legal s;
      keeps = reached_keeps s;
    }
