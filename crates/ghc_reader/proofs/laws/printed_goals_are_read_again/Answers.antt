use Rattle.ghc_reader.proofs.PrintedAgain.{goals_again, goals_read, asked_is_body}
use Rattle.ghc_reader.proofs.PrintedApart.{goals_apart}
use Rattle.ghc_reader.proofs.SoundGoals.{read_writable}
use Rattle.ghc_reader.proofs.laws.printed_goals_are_read_again.Goals as goal

pub returns : goal.returns
returns c = record {
  said = λ gs w. (goals_again gs w).said;
  read_again = goals_read;
  only = goals_apart;
  writable = read_writable;
  asked = asked_is_body;
}
