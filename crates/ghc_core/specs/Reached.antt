-- Sound openings, and the worlds to which changes lead.
use Rattle.std.specs.Prelude.{◌≡◌, ℕ, List, [], length}
use Rattle.ghc_term.specs.Variables.{variables_of_goals, firsts}
use Rattle.ghc_reader.specs.Written.{AreApart}
use Rattle.ghc_flat.specs.Clause.{Query}
use Rattle.ghc_flat.specs.Flat.{IsProgram, IsQuery}
use Rattle.ghc_records.specs.Journal.{Opening}
use Rattle.ghc_core.specs.declared.changes.Change.{Change}
use Rattle.ghc_core.specs.World.{World, Opens}
use Rattle.ghc_core.specs.Change.{CanChange, Changes}

-- Each variable of the query has a name, and no two have one name, but for `_`.
pub record AreNamesOf (query : Query) (names : List (List ℕ)) : Type 0 where
  pub named : length names ≡ length (firsts [] (variables_of_goals query))
  pub apart : AreApart names

-- The opening's program and query are accepted, and its names are those of the query's variables.
abbrev pub IsSound : Opening → Type 0
IsSound o = IsProgram o.program × IsQuery o.program o.query × AreNamesOf o.query o.names

-- A world is reached: from a sound opening, by changes that can be made.
pub data Reaches : World → Type 0 where
  from_opening : {o : Opening} {w : World} → IsSound o → Opens o w → Reaches w
  by_change : {w v : World} (change : Change) → Reaches w → CanChange w change → Changes w change v → Reaches v
