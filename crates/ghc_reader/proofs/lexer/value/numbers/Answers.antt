use Rattle.std.proofs.Common.{inl, inr}
use Rattle.ghc_reader.proofs.Values.{not_numbered}
use Rattle.ghc_reader.proofs.lexer.value.numbers.Goals as goal

pub returns-in_default-number : goal.returns-in_default-number
returns-in_default-number c = not_numbered _ _ _ c.in-Some.ensures (inl c.in_default-number.ensures)

pub returns-in_default-number-2 : goal.returns-in_default-number-2
returns-in_default-number-2 c = not_numbered _ _ _ c.in-Some.ensures (inr c.in_default-number-2.ensures)
