use Rattle.ghc_records.proofs.Words.{◌≡◌, ◌≤◌, drop, is_ascii_digit, list_all, digits_value, digits_value_after}
use Rattle.ghc_records.proofs.text.cutting.value_of.Given as goal

abbrev pub invariant-loop-byte : goal.invariant-loop-byte
invariant-loop-byte l = record {
  small : l.value ≤ 4294967295;
  value : digits_value_after 10 l.value (drop l.byte-index l.word) ≡ digits_value 10 l.word;
  digits : list_all is_ascii_digit (drop l.byte-index l.word) ≡ list_all is_ascii_digit l.word;
}
