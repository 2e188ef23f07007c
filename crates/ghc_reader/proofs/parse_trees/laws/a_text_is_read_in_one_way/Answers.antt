use Rattle.ghc_reader.proofs.OneMeaning.{read_in_one_way}
use Rattle.ghc_reader.proofs.parse_trees.laws.a_text_is_read_in_one_way.Goals as goal

pub returns : goal.returns
returns c = read_in_one_way
