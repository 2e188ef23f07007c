use Rattle.ghc_term.proofs.Words.{List, [], ◌∷◌, sym, subst, value_at, Tree, variable, integer, node, VarName, Leads, at_integer, at_node, at_free, name_cmp}
use Rattle.std.specs.FinMap as finite
use Rattle.ghc_term.specs.inner.Lookup.{held_in}
use Rattle.ghc_term.proofs.printing.lookup.Lookup.end.Goals as goal

-- where nothing is bound a term leads to itself
leads_to_itself : (t : Tree) → (xs : List VarName) × Leads (value_at finite.empty) t xs t
leads_to_itself (variable x) = (x ∷ [], at_free (finite.get-empty name_cmp x))
leads_to_itself (integer k) = ([], at_integer)
leads_to_itself (node f ts) = ([], at_node)

pub returns-in-Nowhere : goal.returns-in-Nowhere
returns-in-Nowhere c =
    let t = c.args.term.now in
    subst (λ l. (xs : List VarName) × Leads (value_at (held_in l)) t xs t) (sym c.in-Nowhere.is) (leads_to_itself t)

pub returns-in-In : goal.returns-in-In
returns-in-In c =
    subst (λ l. (xs : List VarName) × Leads (value_at (held_in l)) c.args.term.now xs c.end.result.now) (sym c.in-In.is) c.end.ensures
