use Rattle.ghc_records.proofs.ToldChronicles.{can_be_told}
use Rattle.ghc_records.proofs.WrittenChronicles.{chronicle_is_told}
use Rattle.ghc_records.proofs.text.chronicle_laws.written_chronicles_are_read_again.Goals as goal

pub returns : goal.returns
returns c =
    let terms = c.printed_terms_are_read_again.ensures in
    let goals = c.printed_goals_are_read_again.ensures in
    record {
      written = chronicle_is_told terms.each goals.read_again;
      only = can_be_told terms.only goals.writable;
      again = λ text x told. chronicle_is_told terms.each goals.read_again x (can_be_told terms.only goals.writable text x told);
    }
