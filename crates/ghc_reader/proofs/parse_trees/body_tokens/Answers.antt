use Rattle.ghc_reader.specs.declared.lexer.value.Reserved.TheVariants.{Allowed}
use Rattle.ghc_reader.proofs.OneReading.{any_tokens_found, cut_refusals}
use Rattle.ghc_reader.proofs.parse_trees.body_tokens.Goals as goal

pub returns-clause-found : goal.returns-clause-found
returns-clause-found c = any_tokens_found Allowed c.args.text.now c.all_tokens.result (λ l. l.tokens.items) (λ l. l.places.items) c.all_tokens.ensures.found

pub returns-clause-fault : goal.returns-clause-fault
returns-clause-fault c = cut_refusals Allowed c.args.text.now c.all_tokens.result c.all_tokens.ensures.fault
