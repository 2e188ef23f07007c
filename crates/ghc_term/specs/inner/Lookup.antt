-- Where the variables of a text are looked up.
use Rattle.std.specs.FinMap as finite
use Rattle.ghc_term.specs.declared.printing.lookup.Lookup.{Lookup}
use Rattle.ghc_term.specs.declared.printing.lookup.Lookup.TheVariants.{Nowhere, In}
use Rattle.ghc_term.specs.Store.{StoreValue}

-- what the variables are bound to there
abbrev pub held_in : Lookup → StoreValue
held_in Nowhere = finite.empty
held_in (In store) = store.now.held
