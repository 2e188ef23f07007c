use Rattle.ghc_console.proofs.CitedWords.{◌≡◌, ◌≤◌, length, ap, ◌∙◌, arith}
use Rattle.ghc_core.proofs.Replayed.{replayed}
use Rattle.ghc_console.proofs.replies.rollbacks.write_kept.Goals as goal

pub overflow_cast-len : goal.overflow_cast-len
overflow_cast-len c =
    let few : length c.args.core.now.world.kept ≤ 1000000 = (replayed c.stands.ensures.standing).few in
    let same : c.len.result ≡ length c.args.core.now.world.kept = c.len.ensures.count ∙ ap (λ l. length l) c.records.ensures in
    omega (arith, few, same)
