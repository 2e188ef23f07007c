use Rattle.ghc_term.proofs.Words.{◌++◌, ◌∷◌, [], sym, ap, ◌∙◌, subst, slice_get, map_of, In, AreDifferent}
use Rattle.std.specs.FinMap as finite
use Rattle.ghc_term.proofs.BindingLists.{same_keys, still_once, changed, once_more, added}
use Rattle.ghc_term.proofs.table.binding_table.BindingTable.insert.Goals as goal

pub invariant_of-self : goal.invariant_of-self
invariant_of-self c =
    same_keys c.self.inside.entries.items c.in-Some.place c.args.x c.args.value (ap (λ l. slice_get l c.in-Some.place) c.self.invariant ∙ c.in-Some.ensures.found) ∙ c.self.invariant

pub returns-in-Some-clause-once : goal.returns-in-Some-clause-once
returns-in-Some-clause-once c =
    still_once c.self.inside.entries.items c.in-Some.place c.args.x c.args.value (subst AreDifferent (sym c.self.invariant) c.place_of.ensures.different)
    (ap (λ l. slice_get l c.in-Some.place) c.self.invariant ∙ c.in-Some.ensures.found)

pub returns-in-Some-clause-ok : goal.returns-in-Some-clause-ok
returns-in-Some-clause-ok c =
    changed c.self.inside.entries.items c.in-Some.place c.args.x c.args.value (subst AreDifferent (sym c.self.invariant) c.place_of.ensures.different)
    (ap (λ l. slice_get l c.in-Some.place) c.self.invariant ∙ c.in-Some.ensures.found)
    ∙ ap (λ es. finite.insert (map_of es) c.args.x c.args.value) c.self.view_is

pub returns-in_ok-push-in-None-clause-once : goal.returns-in_ok-push-in-None-clause-once
returns-in_ok-push-in-None-clause-once c =
    once_more c.self.inside.entries.items c.push_reserved.new.self.items c.args.x c.args.value (subst AreDifferent (sym c.self.invariant) c.place_of.ensures.different)
    (λ i. c.in-None.ensures.none (subst (In c.args.x) c.self.invariant i))
    (c.push_reserved.ensures.items ∙ ap (λ l. l ++ (c.args.x, c.args.value) ∷ []) c.reserve.ensures.items)

pub returns-in_ok-push-in-None-clause-ok : goal.returns-in_ok-push-in-None-clause-ok
returns-in_ok-push-in-None-clause-ok c =
    added c.self.inside.entries.items c.push_reserved.new.self.items c.args.x c.args.value (λ i. c.in-None.ensures.none (subst (In c.args.x) c.self.invariant i))
    (c.push_reserved.ensures.items ∙ ap (λ l. l ++ (c.args.x, c.args.value) ∷ []) c.reserve.ensures.items)
    ∙ ap (λ es. finite.insert (map_of es) c.args.x c.args.value) c.self.view_is
