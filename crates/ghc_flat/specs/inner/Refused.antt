-- Which of the two texts a refusal of the checker is of.
use Rattle.std.specs.Prelude.{◌≡◌, ◌⊎◌, List}
use Rattle.ghc_term.specs.declared.fault.Fault.{Fault}
use Rattle.ghc_term.specs.declared.fault.Fault.TheVariants.{Memory}
use Rattle.ghc_reader.specs.Written.{WrittenClause}
use Rattle.ghc_flat.specs.declared.refused.Refused.{Refused}
use Rattle.ghc_flat.specs.declared.refused.Refused.TheVariants.{Program as program, Query as query}
use Rattle.ghc_flat.specs.Clause.{Query}
use Rattle.ghc_flat.specs.Checked.{HasClause, AreFaultless, IsProgramFault, IsQueryFault}

-- the fault of the text that is refused
abbrev pub fault_of : Refused → Fault
fault_of (program e) = e
fault_of (query e) = e

-- the refusal for what the query came to; refused memory counts as the program's
abbrev pub refused_of_query : Fault → Refused
refused_of_query Memory = program Memory
refused_of_query e = query e

-- The program is refused for its fault, or no memory is left; the query is refused for its fault where nothing is wrong with the program.
abbrev pub IsRefusedAs : List WrittenClause → Query → Refused → Type 0
IsRefusedAs ws gs (program e) = (e ≡ Memory) ⊎ IsProgramFault ws e
IsRefusedAs ws gs (query e) = AreFaultless (HasClause ws) ws × IsQueryFault ws gs e
