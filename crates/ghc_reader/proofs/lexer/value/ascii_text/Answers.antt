use Rattle.std.proofs.lemmas.Str.{IsUtf8-from_ascii}
use Rattle.ghc_reader.proofs.Values.{ok_from_cases}
use Rattle.ghc_reader.proofs.lexer.value.ascii_text.Goals as goal

pub unwrap-requires : goal.unwrap-requires
unwrap-requires c = ok_from_cases _ _ _ c.from_utf8.result c.from_utf8.ensures.cases (IsUtf8-from_ascii c.args.bytes.now c.requires)
