use Rattle.ghc_console.proofs.CitedWords.{value_at}
use Rattle.ghc_console.proofs.LookReplies.{place_there}
use Rattle.ghc_console.proofs.replies.clause_lines.push_refusal.Goals as goal

pub unwrap-place-requires : goal.unwrap-place-requires
unwrap-place-requires c = place_there c.args.clause.now c.args.arguments.now (value_at c.args.store.now.held) c.in_ok-refusal_place.field-0 c.in_ok-refusal_place.ensures c.requires.refuses
