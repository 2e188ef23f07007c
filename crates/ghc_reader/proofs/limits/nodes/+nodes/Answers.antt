use Rattle.ghc_reader.proofs.Words.{◌<◌, arith, ap, ◌∙◌, common_steps, view, views, nodes, nodes_of}
use Rattle.ghc_reader.proofs.AmountLemmas.{nodes_more, nodes_within, nodes_list}
use Rattle.ghc_reader.proofs.limits.nodes.+nodes.Goals as goal

pub without_nodes-returns-in_err-left-in-List : goal.without_nodes-returns-in_err-left-in-List
without_nodes-returns-in_err-left-in-List t c =
    grind (arith, common_steps, ap (λ u. nodes (view u)) c.in-List.is ∙ nodes_list c.in-List.items c.in-List.tail)

pub without_nodes-returns-in_err-without_all-in-List :
    goal.without_nodes-returns-in_err-without_all-in-List
without_nodes-returns-in_err-without_all-in-List t c =
    grind (arith, common_steps, ap (λ u. nodes (view u)) c.in-List.is ∙ nodes_list c.in-List.items c.in-List.tail)

pub without_nodes-returns-in_ok-without_all-in-List :
    goal.without_nodes-returns-in_ok-without_all-in-List
without_nodes-returns-in_ok-without_all-in-List t c =
    grind (arith, common_steps, ap (λ u. nodes (view u)) c.in-List.is ∙ nodes_list c.in-List.items c.in-List.tail)

pub without_all-loop-term-preserved : goal.without_all-loop-term-preserved
without_all-loop-term-preserved t c =
    grind (arith, common_steps, nodes_more c.args.terms.now c.loop-term.term-index c.term-item.result c.loop-term-test.true c.term-item.is)

pub without_all-returns-in_err-left : goal.without_all-returns-in_err-left
without_all-returns-in_err-left t c =
    let within = nodes_within c.args.terms.now c.loop-term.term-index c.term-item.result c.loop-term-test.true c.term-item.is in
    let less : c.args.count < nodes_of (views c.args.terms.now) = omega (arith, within, c.loop-term.invariant, c.in_err-left.ensures) in
    rw c.from_residual.ensures less
