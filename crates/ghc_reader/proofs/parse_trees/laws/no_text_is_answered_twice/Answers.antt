use Rattle.ghc_reader.specs.Tests.{a_program, a_query, a_term, an_ask, a_body}
use Rattle.ghc_reader.proofs.Whole.{one_query}
use Rattle.ghc_reader.proofs.OneReading.{answered_once, one_program_tree, one_input_tree}
use Rattle.ghc_reader.proofs.parse_trees.laws.no_text_is_answered_twice.Goals as goal

pub returns : goal.returns
returns c = λ text. (answered_once a_program one_program_tree text, answered_once a_query one_query text, answered_once a_term one_input_tree text, answered_once an_ask one_query text, answered_once a_body one_query text)
