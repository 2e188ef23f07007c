use Rattle.ghc_records.proofs.ToldHistories.{told_history, told_in_range}
use Rattle.ghc_records.proofs.WrittenTexts.{is_told}
use Rattle.ghc_records.proofs.text.history_laws.written_histories_are_read_again.Goals as goal

pub returns : goal.returns
returns c = record {
  written = is_told c.printed_terms_are_read_again.ensures.each;
  only = told_history;
  again = λ text h told. is_told c.printed_terms_are_read_again.ensures.each h (told_history text h told) (told_in_range c.printed_terms_are_read_again.ensures.only text h told);
}
