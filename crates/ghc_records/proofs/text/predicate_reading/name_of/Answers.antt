use Rattle.std.proofs.lemmas.Str.{IsUtf8-from_ascii}
use Rattle.ghc_records.proofs.PredicateLines.{ascii_name}
use Rattle.ghc_records.proofs.text.predicate_reading.name_of.Goals as goal

pub unreachable-requires : goal.unreachable-requires
unreachable-requires c = c.in-Err.ensures.cases.0 (IsUtf8-from_ascii c.args.word.now (ascii_name c.args.word.now c.requires))
