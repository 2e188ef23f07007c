use Rattle.ghc_flat.proofs.Words.{◌∙◌, Some, sym, subst, option_copied, AreNumbersWith}
use Rattle.ghc_flat.proofs.FirstArguments.{given_all, given_table}
use Rattle.ghc_flat.proofs.firsts.Firsts.candidates.Goals as goal

pub returns-then-numbers-le-MOST_TRIED : goal.returns-then-numbers-le-MOST_TRIED
returns-then-numbers-le-MOST_TRIED c P index tables = given_all P c.args.index.now _ _ _ _ index (c.all.ensures ∙ c.numbers-numbers.ensures)

pub returns-in_default : goal.returns-in_default
returns-in_default c P index tables = given_all P c.args.index.now _ _ _ _ index (c.all-in_default.ensures ∙ c.numbers-numbers.ensures)

pub returns-in-Some : goal.returns-in-Some
returns-in-Some c P index tables =
    let v = c.in-Some-Some in
    let serve = given_table P c.args.index.now c.args.self.now.tables.entries c.args.name.now c.args.arity v.first.now c.numbers-numbers.result.now c.in-Some.table.now v.end.now index tables c.numbers-numbers.ensures (sym v.ensures.value) (sym c.in-Some.ensures.value) in
    subst (λ o. AreNumbersWith P c.args.name.now c.args.arity (option_copied o) c.candidates.result) (sym v.is-1)
    (subst (AreNumbersWith P c.args.name.now c.args.arity (Some v.end.now)) (sym c.candidates.ensures) serve)

pub returns-in-None : goal.returns-in-None
returns-in-None c P index tables = given_all P c.args.index.now _ _ _ _ index (c.all-in-None.ensures ∙ c.numbers-numbers.ensures)
