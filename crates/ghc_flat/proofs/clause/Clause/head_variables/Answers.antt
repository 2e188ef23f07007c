use Rattle.ghc_flat.proofs.Words.{◌∙◌, ◌+◌, sym, ap, subst, length, Clause, asked, variables_of_list, Rises, IsWellMade}
use Rattle.ghc_flat.proofs.FreshVariables.{fresh_numbered}
use Rattle.ghc_flat.proofs.clause.Clause.head_variables.Goals as goal

pub returns-clause-fresh : goal.returns-clause-fresh
returns-clause-fresh c i x e =
    let ok = subst IsWellMade c.self.view_is c.self.invariant.0 in
    let rises = subst (λ (k : Clause). Rises 0 (variables_of_list k.head)) c.self.view_is c.self.invariant.2 in
    let count = c.self.invariant.1 ∙ ap (λ (k : Clause). length (variables_of_list k.head)) c.self.view_is in
    fresh_numbered c.args.self.now rises ok.numbered ok.flat i x e ∙ ap (λ n. asked (n + i + 1)) (sym count)
