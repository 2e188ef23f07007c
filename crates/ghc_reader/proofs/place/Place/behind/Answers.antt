use Rattle.std.proofs.Common.{◌≡◌, true, [], ◌∷◌, sym, rules}
use Rattle.ghc_reader.proofs.PlaceLemmas.{behind_other}
use Rattle.ghc_reader.proofs.place.Place.behind.Goals as goal

pub returns-else-eq : goal.returns-else-eq
returns-else-eq c =
    let other : ¬ (c.args.front.now.bytes.now ≡ 10 ∷ []) = search rules in
    sym (behind_other c.args.self true c.args.front.now.kind c.args.front.now.bytes.now c.requires.form other)
