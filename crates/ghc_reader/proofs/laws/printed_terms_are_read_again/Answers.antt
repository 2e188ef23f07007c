use Rattle.ghc_reader.proofs.ReadTerms.{read_is_input}
use Rattle.ghc_reader.proofs.ReadAgain.{term_is_spelled, input_is_read, read_no_longer, printed_is_read}
use Rattle.ghc_reader.proofs.laws.printed_terms_are_read_again.Goals as goal

pub returns : goal.returns
returns c = record {
  spelled = term_is_spelled;
  only = read_is_input;
  each = input_is_read;
  written = λ text u read. input_is_read u (read_is_input text u read);
  no_longer = read_no_longer;
  printed = printed_is_read;
}
