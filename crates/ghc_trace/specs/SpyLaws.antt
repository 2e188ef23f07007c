-- Laws of spies.
use Rattle.std.specs.Prelude.{◌≡◌}
use Rattle.ghc_trace.specs.Spies.{Spies, spied_of, spies_in_order}

-- A set of spies, listed in order, is the set of what is listed.
abbrev pub ListedSpiesComeBack : Type 0
ListedSpiesComeBack = (spies : Spies) → spied_of (spies_in_order spies) ≡ spies
