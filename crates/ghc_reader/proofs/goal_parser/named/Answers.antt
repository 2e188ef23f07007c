use Rattle.ghc_reader.proofs.Words.{◌∷◌, refl, sym, ap, ◌∙◌, subst, goal_view}
use Rattle.std.proofs.lemmas.Result.{IfOk-weaker}
use Rattle.ghc_reader.specs.declared.token.Token.TheVariants as token
use Rattle.ghc_reader.proofs.GoalFaults as faults
use Rattle.ghc_reader.proofs.GoalFounds as founds
use Rattle.ghc_reader.proofs.TermFounds as terms
use Rattle.ghc_reader.proofs.TermFounds.{passes, hands_on}
use Rattle.ghc_reader.proofs.goal_parser.named.Goals as goal

pub returns-in_err-arguments-clause-fault : goal.returns-in_err-arguments-clause-fault
returns-in_err-arguments-clause-fault c =
    passes c.from_residual.result c.in_err-arguments.field-0.0 _ _ c.from_residual.ensures.1
    (λ n f. subst (λ ts. founds.ItemFault ts n) (sym c.requires) (faults.arguments_in_item c.args.name.now c.args.behind.now n f))
    c.in_err-arguments.ensures.fault

pub returns-in-Some-clause-found : goal.returns-in-Some-clause-found
returns-in-Some-clause-found c =
    let left = terms.found_call c.args.tokens.now c.args.behind.now c.in_ok-arguments.rest.now c.in_ok-name.name c.in_ok-arguments.arguments (c.requires ∙ ap (λ n. token.Name n ∷ c.args.behind.now) (sym c.in_ok-name.ensures.same)) c.in_ok-arguments.ensures.found in
    IfOk-weaker c.equation.result _ _ (λ x f. founds.found_equation c.args.tokens.now c.in_ok-arguments.rest.now c.in-Some.after.now x.1.now _ (goal_view x.0) left c.in-Some.ensures f) c.equation.ensures.found

pub returns-in-Some-clause-fault : goal.returns-in-Some-clause-fault
returns-in-Some-clause-fault c =
    let left = terms.found_call c.args.tokens.now c.args.behind.now c.in_ok-arguments.rest.now c.in_ok-name.name c.in_ok-arguments.arguments (c.requires ∙ ap (λ n. token.Name n ∷ c.args.behind.now) (sym c.in_ok-name.ensures.same)) c.in_ok-arguments.ensures.found in
    hands_on c.equation.result _ _ (λ n f. founds.in_right c.args.tokens.now c.in_ok-arguments.rest.now c.in-Some.after.now _ n left c.in-Some.ensures f) c.equation.ensures.fault

pub returns-clause-found : goal.returns-clause-found
returns-clause-found c =
    founds.found_goal c.args.tokens.now c.args.behind.now c.in_ok-arguments.rest.now _ c.in_ok-name.name _ refl (c.requires ∙ ap (λ n. token.Name n ∷ c.args.behind.now) (sym c.in_ok-name.ensures.same)) c.in_ok-arguments.ensures.found c.in_default.ensures
