-- Variables with their bindings, as a few or many of them are kept.
use Rattle.std.specs.Prelude.{[], ◌∷◌}
use Rattle.ghc_term.specs.declared.bindings.Held.{Held}
use Rattle.ghc_term.specs.declared.bindings.Held.TheVariants.{Nothing, Near, One, Listed, Tabled}
use Rattle.ghc_term.specs.inner.BindingTable.{Entries}

-- the bindings in order
abbrev pub in_order : Held → Entries
in_order (Nothing a) = []
in_order (Near a b) = b ∷ []
in_order (One a b) = b ∷ []
in_order (Listed v) = v.items
in_order (Tabled t) = t.value
