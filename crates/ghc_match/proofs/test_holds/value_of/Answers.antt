use Rattle.ghc_match.proofs.Words.{value_at, StandsAndEnds}
use Rattle.ghc_match.proofs.EndsLemmas.{no_value_told, stands_ends_once}
use Rattle.ghc_match.proofs.test_holds.value_of.Goals as goal

pub returns-in_default : goal.returns-in_default
returns-in_default c =
    let m = c.args.stands.now in
    let S = value_at c.args.store.now.held in
    no_value_told (StandsAndEnds m S c.args.x) c.end_of.result (stands_ends_once m S c.args.x) c.in_default.not-Value c.end_of.ensures
