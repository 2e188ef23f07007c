use Rattle.ghc_reader.proofs.Words.{arith, ap, ◌∙◌, common_steps, view, names}
use Rattle.ghc_reader.proofs.AmountLemmas.{names_more, names_list}
use Rattle.ghc_reader.proofs.limits.names.+names.Goals as goal

pub push_term-returns-in_ok-push_terms-in-List : goal.push_term-returns-in_ok-push_terms-in-List
push_term-returns-in_ok-push_terms-in-List t c =
    grind (arith, common_steps, ap (λ u. names (view u)) c.in-List.is ∙ names_list c.in-List.items c.in-List.tail)

pub push_terms-loop-term-preserved : goal.push_terms-loop-term-preserved
push_terms-loop-term-preserved t c =
    grind (arith, common_steps, names_more c.args.terms.now c.loop-term.term-index c.term-item.result c.loop-term-test.true c.term-item.is)
