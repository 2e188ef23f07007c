use Rattle.std.proofs.lemmas.Str.{IsUtf8-from_ascii}
use Rattle.ghc_console.proofs.WordLemmas.{ascii_variable}
use Rattle.ghc_console.proofs.word.variable_word.Goals as goal

pub unreachable-requires : goal.unreachable-requires
unreachable-requires c = c.in-Err.ensures.cases.0 (IsUtf8-from_ascii c.args.word.now (ascii_variable c.args.word.now c.requires))
