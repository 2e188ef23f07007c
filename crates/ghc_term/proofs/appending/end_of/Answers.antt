use Rattle.ghc_term.proofs.Words.{string_bytes, IsUtf8-string_bytes, is_utf8-from_IsUtf8}
use Rattle.ghc_term.proofs.appending.end_of.Goals as goal

pub returns-clause-text : goal.returns-clause-text
returns-clause-text c = is_utf8-from_IsUtf8 (string_bytes c.args.out.now) (IsUtf8-string_bytes c.args.out.now)
