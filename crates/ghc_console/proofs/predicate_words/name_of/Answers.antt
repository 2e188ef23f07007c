use Rattle.std.proofs.lemmas.Str.{IsUtf8-from_ascii}
use Rattle.ghc_console.proofs.PredicateWordLemmas.{ascii_name_word}
use Rattle.ghc_console.proofs.predicate_words.name_of.Goals as goal

pub unreachable-requires : goal.unreachable-requires
unreachable-requires c = c.in-Err.ensures.cases.0 (IsUtf8-from_ascii c.args.word.now (ascii_name_word c.args.word.now c.requires))
