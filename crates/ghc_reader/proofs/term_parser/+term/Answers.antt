use Rattle.ghc_reader.proofs.Words.{[], ◌∷◌, ◌++◌, length, sym, ap, ◌∙◌, subst, arith, rules, to_z-of_z, IfOk-weaker, view, Arguments, Term, arguments, term, EndsTerm, EndsArguments, Fault}
use mir.Val.{SFits}
use mir.Syntax.{w64}
use Rattle.ghc_reader.specs.declared.source.SourceTerm.TheVariants as tree
use Rattle.ghc_reader.specs.declared.token.Token.TheVariants as token
use Rattle.ghc_reader.proofs.Loops.{terms_one, terms_more}
use Rattle.ghc_reader.proofs.TermFaults as faults
use Rattle.ghc_reader.proofs.TermFounds as founds
use Rattle.ghc_reader.proofs.TermFounds.{passes}
use Rattle.ghc_reader.proofs.term_parser.+term.Goals as goal

-- arguments
pub arguments-returns-in_default-clause-found : goal.arguments-returns-in_default-clause-found
arguments-returns-in_default-clause-found t c = founds.found_without c.args.tokens.now c.new.result.items c.new.ensures.items c.in_default.ensures

pub arguments-returns-in_err-args-clause-fault : goal.arguments-returns-in_err-args-clause-fault
arguments-returns-in_err-args-clause-fault t c =
    passes c.from_residual.result c.in_err-args.field-0.0 _ _ c.from_residual.ensures.1
    (λ n f. subst (λ ts. Fault Arguments arguments EndsArguments ts n) (sym c.in-Some.ensures) (faults.terms_in_arguments c.in-Some.inside.now n f))
    c.in_err-args.ensures.fault

pub arguments-returns-in-None-clause-fault : goal.arguments-returns-in-None-clause-fault
arguments-returns-in-None-clause-fault t c = founds.at_close c.args.tokens.now c.in-Some.inside.now c.in_ok-args.rest.now _ c.in-Some.ensures c.in_ok-args.ensures.found c.in-None.ensures

pub arguments-returns-in-Some-eat-clause-found : goal.arguments-returns-in-Some-eat-clause-found
arguments-returns-in-Some-eat-clause-found t c = founds.found_within c.args.tokens.now c.in-Some.inside.now c.in_ok-args.rest.now c.in-Some-eat.after.now _ c.in-Some.ensures c.in_ok-args.ensures.found c.in-Some-eat.ensures

-- list
pub list-returns-in-Some-clause-found : goal.list-returns-in-Some-clause-found
list-returns-in-Some-clause-found t c = founds.found_empty c.args.tokens.now c.in-Some.after.now c.in-Some.ensures

pub list-returns-in_err-items-clause-fault : goal.list-returns-in_err-items-clause-fault
list-returns-in_err-items-clause-fault t c =
    passes c.from_residual.result c.in_err-items.field-0.0 _ _ c.from_residual.ensures.1
    (λ n f. faults.terms_in_rest c.args.tokens.now n c.in_default.ensures f) c.in_err-items.ensures.fault

pub list-returns-in-Some-eat-clause-found : goal.list-returns-in-Some-eat-clause-found
list-returns-in-Some-eat-clause-found t c = founds.found_whole c.args.tokens.now c.in_ok-items.rest.now c.in-Some-eat.after.now c.in_ok-items.items c.in_ok-end.end c.in_ok-items.ensures.found c.in-Some-eat.ensures c.in_ok-end.ensures.ok

pub list-returns-in_default-eat-2-clause-fault : goal.list-returns-in_default-eat-2-clause-fault
list-returns-in_default-eat-2-clause-fault t c = founds.at_list_end c.args.tokens.now c.in_ok-items.rest.now _ c.in_ok-items.ensures.found c.in_default-eat.ensures c.in_default-eat-2.ensures

pub list-returns-in_err-tail-clause-fault : goal.list-returns-in_err-tail-clause-fault
list-returns-in_err-tail-clause-fault t c =
    let found = c.in_ok-items.ensures.found in
    passes c.from_residual-in_err-tail.result c.in_err-tail.field-0.0 _ _ c.from_residual-in_err-tail.ensures.1
    (λ n f. rw (found.spelled, c.in-Some-eat-2.ensures) (faults.term_in_rest found.derivation c.in-Some-eat-2.behind.now n f))
    c.in_err-tail.ensures.fault

pub list-returns-in-None-clause-fault : goal.list-returns-in-None-clause-fault
list-returns-in-None-clause-fault t c = founds.at_tail_end c.args.tokens.now c.in_ok-items.rest.now c.in-Some-eat-2.behind.now c.in_ok-tail.rest.now _ _ c.in_ok-items.ensures.found c.in-Some-eat-2.ensures c.in_ok-tail.ensures.found c.in-None.ensures

pub list-returns-in_ok-new-in-Some-eat-3-clause-found : goal.list-returns-in_ok-new-in-Some-eat-3-clause-found
list-returns-in_ok-new-in-Some-eat-3-clause-found t c =
    founds.found_partial c.args.tokens.now c.in_ok-items.rest.now c.in-Some-eat-2.behind.now c.in_ok-tail.rest.now c.in-Some-eat-3.after.now c.in_ok-items.items c.in_ok-tail.tail c.in_ok-new-in-Some-eat-3.field-0 c.in_ok-items.ensures.found c.in-Some-eat-2.ensures c.in_ok-tail.ensures.found c.in-Some-eat-3.ensures c.in_ok-new-in-Some-eat-3.ensures.ok

-- term
pub term-returns-in_default-clause-fault : goal.term-returns-in_default-clause-fault
term-returns-in_default-clause-fault t c = rw c.in_default.ensures (faults.no_term_here [] tt)

pub term-returns-in_err-args-in-Name-clause-fault : goal.term-returns-in_err-args-in-Name-clause-fault
term-returns-in_err-args-in-Name-clause-fault t c =
    let e = c.in-Some.ensures ∙ ap (λ x. x ∷ c.in-Some.behind.now) c.in-Name.is in
    passes c.from_residual-in_err-args-in-Name.result c.in_err-args-in-Name.field-0.0 _ _ c.from_residual-in_err-args-in-Name.ensures.1
    (λ n f. subst (λ ts. Fault Term term EndsTerm ts n) (sym e) (faults.arguments_in_term c.in-Name.name c.in-Some.behind.now n f))
    c.in_err-args-in-Name.ensures.fault

pub term-returns-in_ok-share-in-Variable-clause-found : goal.term-returns-in_ok-share-in-Variable-clause-found
term-returns-in_ok-share-in-Variable-clause-found t c =
    founds.found_variable c.args.tokens.now c.in-Some.behind.now c.in_ok-share-in-Variable.field-0 (c.in-Some.ensures ∙ ap (λ x. x ∷ c.in-Some.behind.now) (c.in-Variable.is ∙ ap token.Variable (sym c.in_ok-share-in-Variable.ensures.same)))

pub term-returns-in_ok-share-in-Name-clause-found : goal.term-returns-in_ok-share-in-Name-clause-found
term-returns-in_ok-share-in-Name-clause-found t c =
    founds.found_call c.args.tokens.now c.in-Some.behind.now c.in_ok-args-in-Name.rest.now c.in_ok-share-in-Name.field-0 c.in_ok-args-in-Name.args (c.in-Some.ensures ∙ ap (λ x. x ∷ c.in-Some.behind.now) (c.in-Name.is ∙ ap token.Name (sym c.in_ok-share-in-Name.ensures.same))) c.in_ok-args-in-Name.ensures.found

pub term-returns-in-None-clause-fault : goal.term-returns-in-None-clause-fault
term-returns-in-None-clause-fault t c = founds.at_mark c.args.tokens.now c.in-Some.behind.now _ (c.in-Some.ensures ∙ ap (λ x. x ∷ c.in-Some.behind.now) c.in-Mark.is) c.in-None.ensures

pub term-returns-in-Some-eat-clause-found : goal.term-returns-in-Some-eat-clause-found
term-returns-in-Some-eat-clause-found t c =
    IfOk-weaker c.list.result _ _ (λ x f. founds.found_list c.args.tokens.now c.in-Some-eat.inside.now x.1.now (view x.0) c.in-Some-eat.ensures f) c.list.ensures.found

pub term-returns-in-Some-eat-clause-fault : goal.term-returns-in-Some-eat-clause-fault
term-returns-in-Some-eat-clause-fault t c =
    founds.hands_on c.list.result _ _ (λ n f. subst (λ ts. Fault Term term EndsTerm ts n) (sym c.in-Some-eat.ensures) (faults.rest_in_term c.in-Some-eat.inside.now n f)) c.list.ensures.fault

-- terms
pub terms-returns-in_err-first-clause-fault : goal.terms-returns-in_err-first-clause-fault
terms-returns-in_err-first-clause-fault t c =
    passes c.from_residual.result c.in_err-first.field-0.0 _ _ c.from_residual.ensures.1 (faults.first_in_terms c.args.tokens.now) c.in_err-first.ensures.fault

pub terms-loop-after-init : goal.terms-loop-after-init
terms-loop-after-init t c = record {
  read = terms_one c.args.tokens.now c.in_ok-first.rest.now c.push.new.self.items c.in_ok-first.first (c.in_ok-push.ensures.items ∙ ap (λ l. l ++ c.in_ok-first.first ∷ []) c.new-all.ensures.items) c.in_ok-first.ensures.found;
  shorter = c.in_ok-first.ensures.shorter;
}

pub terms-returns-in_err-next-clause-fault : goal.terms-returns-in_err-next-clause-fault
terms-returns-in_err-next-clause-fault t c =
    passes c.from_residual-in_err-next.result c.in_err-next.field-0.0 _ _ c.from_residual-in_err-next.ensures.1
    (λ n f. rw (c.loop-after.invariant.read.spelled, c.in-Some.ensures) (faults.next_in_terms c.loop-after.invariant.read.so_far c.in-Some.after.now n f))
    c.in_err-next.ensures.fault

pub terms-loop-after-preserved : goal.terms-loop-after-preserved
terms-loop-after-preserved t c = record {
  read = terms_more c.args.tokens.now c.loop-after.rest.now c.in-Some.after.now c.in_ok-next.behind.now c.loop-after.all.items c.push-in-Some.new.self.items c.in_ok-next.next c.loop-after.invariant.read c.in-Some.ensures c.in_ok-push-2.ensures.items c.in_ok-next.ensures.found;
  shorter = omega (arith, c.in_ok-next.ensures.shorter, ap length c.in-Some.ensures);
}

pub terms-returns-clause-found : goal.terms-returns-clause-found
terms-returns-clause-found t c = founds.found_terms c.args.tokens.now c.loop-after.rest.now _ c.loop-after.invariant.read c.in_default.ensures

pub term-returns-in-Integer-clause-found : goal.term-returns-in-Integer-clause-found
term-returns-in-Integer-clause-found t c =
    let fits : SFits w64 c.in-Integer.integer = search rules in
    subst (λ n. founds.TermFound c.args.tokens.now (view (tree.Integer n)) c.in-Some.behind.now) (sym (to_z-of_z w64 c.in-Integer.integer fits))
    (founds.found_integer c.args.tokens.now c.in-Some.behind.now c.in-Integer.integer (c.in-Some.ensures ∙ ap (λ x. x ∷ c.in-Some.behind.now) c.in-Integer.is))

pub term-returns-in-Comparison-clause-fault : goal.term-returns-in-Comparison-clause-fault
term-returns-in-Comparison-clause-fault t c = founds.at_other c.args.tokens.now c.in-Some.behind.now _ tt (c.in-Some.ensures ∙ ap (λ x. x ∷ c.in-Some.behind.now) c.in-Comparison.is)

pub term-returns-in-Sum-clause-fault : goal.term-returns-in-Sum-clause-fault
term-returns-in-Sum-clause-fault t c = founds.at_other c.args.tokens.now c.in-Some.behind.now _ tt (c.in-Some.ensures ∙ ap (λ x. x ∷ c.in-Some.behind.now) c.in-Sum.is)

pub term-returns-in-Product-clause-fault : goal.term-returns-in-Product-clause-fault
term-returns-in-Product-clause-fault t c = founds.at_other c.args.tokens.now c.in-Some.behind.now _ tt (c.in-Some.ensures ∙ ap (λ x. x ∷ c.in-Some.behind.now) c.in-Product.is)
