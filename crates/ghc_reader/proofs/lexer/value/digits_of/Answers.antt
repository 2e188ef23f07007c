use Rattle.ghc_reader.proofs.Words.{sym, ◌∙◌, false≢true}
use Rattle.ghc_reader.proofs.Values.{no_second_number, reserved_ends, test_from_empty}
use Rattle.ghc_reader.proofs.lexer.value.digits_of.Goals as goal

pub returns-in_default-split_number : goal.returns-in_default-split_number
returns-in_default-split_number c = no_second_number _ _ _ c.in-Some.ensures c.in_default-split_number.ensures

pub returns-else-is_empty : goal.returns-else-is_empty
returns-else-is_empty c reserved =
    let ended = test_from_empty _ _ c.is_empty.ensures (reserved_ends _ _ _ _ _ c.in-Some.ensures c.in-Some-split_number.ensures reserved) in
    absurd (false≢true (sym c.if-is_empty.false ∙ ended))
