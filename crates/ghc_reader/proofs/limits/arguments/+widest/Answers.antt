use Rattle.ghc_reader.proofs.Words.{sym, ap, ◌∙◌, vec_len, max, view, views, widest, widest_of}
use Rattle.ghc_reader.proofs.AmountLemmas.{max_is, widest_more, widest_list, widest_structure}
use Rattle.ghc_reader.proofs.limits.arguments.+widest.Goals as goal

pub widest-returns-in-Structure : goal.widest-returns-in-Structure
widest-returns-in-Structure t c =
    let here = ap (λ u. widest (view u)) c.in-Structure.is ∙ widest_structure c.in-Structure.field-0 c.in-Structure.arguments in
    c.max.ensures ∙ ap (λ n. max n c.widest_of.result) c.len.ensures ∙ ap (max (vec_len c.in-Structure.arguments)) (c.widest_of.ensures ∙ ap (λ l. widest_of (views l)) c.deref.ensures.value) ∙ sym here

pub widest-returns-in-List : goal.widest-returns-in-List
widest-returns-in-List t c =
    let here = ap (λ u. widest (view u)) c.in-List.is ∙ widest_list c.in-List.items c.in-List.tail in
    c.max-in-List.ensures ∙ ap (λ n. max n c.widest.result) (c.widest_of-in-List.ensures ∙ ap (λ l. widest_of (views l)) c.deref-in-List.ensures.value) ∙ ap (max (widest_of (views c.in-List.items.items))) (c.widest.ensures ∙ ap (λ u. widest (view u)) c.deref-in-List-2.ensures) ∙ sym here

pub widest_of-loop-term-preserved : goal.widest_of-loop-term-preserved
widest_of-loop-term-preserved t c =
    let next = widest_more c.args.terms.now c.loop-term.term-index c.term-item.result c.loop-term-test.true c.term-item.is in
    c.max-most.ensures ∙ max_is _ _ ∙ ap (λ n. max n c.widest.result) c.loop-term.invariant ∙ ap (max (widest_of (views _))) c.widest.ensures ∙ sym next
