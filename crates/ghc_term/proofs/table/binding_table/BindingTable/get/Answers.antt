use Rattle.ghc_term.proofs.Words.{sym, ap, ◌∙◌, subst, Some, slice_get, map_of, In, value_at, AreDifferent}
use Rattle.std.specs.FinMap as finite
use Rattle.ghc_term.proofs.BindingLists.{entry_there, value_there, no_value}
use Rattle.ghc_term.proofs.Names.{name_total}
use Rattle.ghc_term.proofs.table.binding_table.BindingTable.get.Goals as goal

pub returns-in-Some : goal.returns-in-Some
returns-in-Some c =
    let es = c.self.inside.entries.items in
    let t = entry_there es c.in-Some.place c.args.x c.index.result.now (ap (λ l. slice_get l c.in-Some.place) c.self.invariant ∙ c.in-Some.ensures.found) in
    ap (λ p. Some p.1) c.index.ensures
    ∙ sym (value_there es c.in-Some.place _ (subst AreDifferent (sym c.self.invariant) c.place_of.ensures.different) t.0)
    ∙ ap (value_at (map_of es)) t.1 ∙ ap (λ l. value_at (map_of l) c.args.x) c.self.view_is

pub returns-in-None : goal.returns-in-None
returns-in-None c =
    sym (finite.get-from_entries name_total c.self.inside.entries.items c.args.x ∙ no_value c.self.inside.entries.items c.args.x (λ i. c.in-None.ensures.none (subst (In c.args.x) c.self.invariant i)))
    ∙ ap (λ l. value_at (map_of l) c.args.x) c.self.view_is
