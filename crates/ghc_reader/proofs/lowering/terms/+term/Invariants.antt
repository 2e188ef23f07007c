use Rattle.ghc_reader.proofs.Words.{take, variables_of_list, views, SaysAll, MeetsAll}
use Rattle.ghc_reader.proofs.lowering.terms.+term.Given as goal

abbrev pub invariant-lower_terms-loop-term : goal.invariant-lower_terms-loop-term
invariant-lower_terms-loop-term l = record {
  says : SaysAll l.scope (views (take l.term-index l.terms)) l.lowered.items;
  met : MeetsAll l.initial.scope (variables_of_list l.lowered.items) l.scope;
}
