use Rattle.ghc_term.proofs.Words.{◌≡◌, true, false, refl, ap, subst, ◌∙◌, IsSome, is_some}
use Rattle.ghc_term.proofs.Indexed.{value_is, inserted}
use Rattle.ghc_term.proofs.GoalNames.{goal_total, goal_antisymmetric, same, same_is}
use Rattle.ghc_term.proofs.table.goal_places.replace_other.Goals as goal

pub returns-in-Some-clause-held : goal.returns-in-Some-clause-held
returns-in-Some-clause-held c =
    let updates = (c.get_mut.follows.holds c.args.number).3 (subst IsSome c.in-Some.ensures.value refl) in
    inserted goal_total goal_antisymmetric same same_is c.args.others.now.entries (c.get_mut.follows.lender c.args.number).entries c.args.name c.args.number updates.0

pub returns-in_default-clause-held : goal.returns-in_default-clause-held
returns-in_default-clause-held c =
    let none = c.in_default.ensures.value ∙ value_is goal_total goal_antisymmetric same same_is c.args.name c.args.others.now.entries in
    absurd (let clash : false ≡ true = ap is_some none ∙ c.requires in cc)
