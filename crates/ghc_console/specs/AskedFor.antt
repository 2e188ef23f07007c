-- What the text after `ask` asks for.
use Rattle.std.specs.Prelude.{◌≡◌, ℕ, List}
use Rattle.ghc_term.specs.Goal.{Goal}
use Rattle.ghc_reader.specs.Read.{IsReadAsk}
use Rattle.ghc_reader.specs.WrittenAsk.{WrittenAsk}
use Rattle.ghc_fire.specs.Asked.{asked_of}
use Rattle.ghc_core.specs.World.{World}

-- IsReadAskFor w given gs: where the variables of the query have the names that they have in the world w, what is given is read as an ask for the goals gs.
abbrev pub IsReadAskFor : World → List ℕ → List Goal → Type 0
IsReadAskFor w given gs = (a : WrittenAsk) × IsReadAsk w.opening.names given a × (gs ≡ asked_of a)
