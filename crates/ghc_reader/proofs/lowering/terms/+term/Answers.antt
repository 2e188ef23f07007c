use Rattle.std.proofs.lemmas.Result.{IfOk-weaker}
use Rattle.ghc_reader.proofs.TermsLowered.{says_more, meets_more, structure_meets, list_says, list_meets}
use Rattle.ghc_reader.proofs.lowering.terms.+term.Goals as goal

pub lower_term-returns-in_ok-share-in-Structure-clause-met : goal.lower_term-returns-in_ok-share-in-Structure-clause-met
lower_term-returns-in_ok-share-in-Structure-clause-met t c =
    IfOk-weaker c.structure.result _ _ (λ u e. structure_meets c.args.scope.now c.lower_terms.new.scope c.in_ok-share-in-Structure.field-0 c.in_ok-arguments-in-Structure.arguments.items u e c.in_ok-arguments-in-Structure.ensures.met) c.structure.ensures

pub lower_term-returns-in_ok-end-in-List-clause-says : goal.lower_term-returns-in_ok-end-in-List-clause-says
lower_term-returns-in_ok-end-in-List-clause-says t c =
    let us = c.in_ok-elements-in-List in
    IfOk-weaker c.cells.result _ _
    (λ u e. list_says c.args.term.now c.in-List.elements c.in-List.tail c.deref-in-List.result.now c.deref-in-List-2.result.now c.lower_terms-in-List.new.scope c.lower_term.new.scope us.elements.items c.in_ok-end-in-List.end u c.in-List.is c.deref-in-List.ensures.value c.deref-in-List-2.ensures e us.ensures.says c.in_ok-end-in-List.ensures.met c.in_ok-end-in-List.ensures.says)
    c.cells.ensures

pub lower_term-returns-in_ok-end-in-List-clause-met : goal.lower_term-returns-in_ok-end-in-List-clause-met
lower_term-returns-in_ok-end-in-List-clause-met t c =
    let us = c.in_ok-elements-in-List in
    IfOk-weaker c.cells.result _ _
    (λ u e. list_meets c.args.scope.now c.lower_terms-in-List.new.scope c.lower_term.new.scope us.elements.items c.in_ok-end-in-List.end u e us.ensures.met c.in_ok-end-in-List.ensures.met)
    c.cells.ensures

pub lower_terms-loop-term-preserved : goal.lower_terms-loop-term-preserved
lower_terms-loop-term-preserved t c =
    let u = c.in_ok-lower_term in
    record {
      says = says_more c.args.terms.now c.loop-term.term-index c.term-item.result c.loop-term.scope c.lower_term.new.scope c.loop-term.lowered.items c.push.new.self.items u.field-0 c.loop-term-test.true c.term-item.is c.in_ok-push.ensures.items c.loop-term.invariant.says u.ensures.says u.ensures.met;
      met = meets_more c.args.scope.now c.loop-term.scope c.lower_term.new.scope c.loop-term.lowered.items c.push.new.self.items u.field-0 c.in_ok-push.ensures.items c.loop-term.invariant.met u.ensures.met;
    }
