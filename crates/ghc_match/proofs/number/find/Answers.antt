use Rattle.ghc_match.proofs.Words.{rules, ◌∷◌, ◌++◌, [], sym, ap, ◌∙◌, subst, to_z-of_z, reverse, ◌↔◌, reverse-append, leaf, EndsAt, Makes, Find, Apply}
use mir.Val.{SFits}
use mir.Syntax.{w64}
use Rattle.ghc_match.proofs.EndsLemmas.{once_at}
use Rattle.ghc_match.proofs.TasksLemmas.{leaf_found, operation_opened}
use Rattle.ghc_match.proofs.number.find.Goals as goal

pub returns-in_ok-push-in-Leaf-clause-goes : goal.returns-in_ok-push-in-Leaf-clause-goes
returns-in_ok-push-in-Leaf-clause-goes c =
    let fits : SFits w64 c.in-Some.integer = search rules in
    leaf_found (once_at c.args.scope c.args.store.now.held) (leaf c.in-Leaf.term.now) c.in-Some.integer (reverse c.args.tasks.now.items) c.args.values.now.items c.push.new.self.items c.args.expression
    (sym c.in-Leaf.ensures) c.in-Some.ensures (c.in_ok-push-in-Leaf.ensures.items ∙ ap (λ z. c.args.values.now.items ++ z ∷ []) (to_z-of_z w64 c.in-Some.integer fits))

pub returns-in_ok-push-in-Operation-3-clause-goes :
    goal.returns-in_ok-push-in-Operation-3-clause-goes
returns-in_ok-push-in-Operation-3-clause-goes c k =
    let E = EndsAt c.args.scope c.args.store.now.held in
    let old = c.args.tasks.now.items in
    let o = Apply c.in-Operation.operator in
    let r = Find c.in-Operation.right in
    let l = Find c.in-Operation.left in
    let pushed = c.in_ok-push-in-Operation-3.ensures.items ∙ ap (λ ts. ts ++ l ∷ []) (c.in_ok-push-in-Operation-2.ensures.items ∙ ap (λ ts. ts ++ r ∷ []) c.in_ok-push-in-Operation.ensures.items) in
    let all = ap reverse pushed ∙ reverse-append ((old ++ o ∷ []) ++ r ∷ []) (l ∷ []) ∙ ap (λ ts. l ∷ ts) (reverse-append (old ++ o ∷ []) (r ∷ []) ∙ ap (λ ts. r ∷ ts) (reverse-append old (o ∷ []))) in
    subst (λ ts. Makes E (Find c.args.expression ∷ reverse old) (reverse c.args.values.now.items) k ↔ Makes E ts (reverse c.args.values.now.items) k) (sym all)
    (operation_opened (once_at c.args.scope c.args.store.now.held) c.in-Operation.operator c.in-Operation.left c.in-Operation.right c.args.expression (reverse old) (reverse c.args.values.now.items) c.in-Operation.ensures k)
