use Rattle.ghc_term.proofs.Words.{◌≡◌, sym, ap, ◌∙◌, subst, IfSome, Some, slice_get, AreDifferent}
use Rattle.ghc_term.specs.inner.VariableList.{in_order}
use Rattle.ghc_term.proofs.VariableLists.{none_at, found_at, absent_at}
use Rattle.ghc_term.proofs.table.variable_list.VariableList.place_of.Goals as goal

pub returns-in-Tabled-clause-found : goal.returns-in-Tabled-clause-found
returns-in-Tabled-clause-found c =
    found_at c.get_index_of.result c.deref.result.now.keys _ c.args.x (ap (λ t. t.keys) c.deref.ensures ∙ ap in_order (sym c.in-Tabled.is) ∙ c.self.view_is) c.get_index_of.ensures.index

pub returns-in-Tabled-clause-none : goal.returns-in-Tabled-clause-none
returns-in-Tabled-clause-none c =
    absent_at c.get_index_of.result c.deref.result.now.keys _ c.args.x (ap (λ t. t.keys) c.deref.ensures ∙ ap in_order (sym c.in-Tabled.is) ∙ c.self.view_is) c.get_index_of.ensures.found

pub returns-in_default : goal.returns-in_default
returns-in_default c =
    let whole = c.as_slice.ensures ∙ c.self.view_is in record {
      found = subst (λ l. IfSome c.place_in.result (λ i. slice_get l i ≡ Some c.args.x)) whole c.place_in.ensures.found;
      none = none_at c.place_in.result c.as_slice.result.now _ c.args.x whole c.place_in.ensures.none;
      different = subst AreDifferent c.self.view_is c.self.invariant;
    }
