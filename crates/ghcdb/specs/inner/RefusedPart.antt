-- How refusals begin.
use Rattle.std.specs.Prelude.{ℕ, List, codes}
use Rattle.ghcdb.specs.declared.refused_part.RefusedPart.{RefusedPart}
use Rattle.ghcdb.specs.declared.refused_part.RefusedPart.TheVariants.{Program, Query, History, Schedule, Session}

-- what stands before the text of a refusal
abbrev pub prefix_of : RefusedPart → List ℕ
prefix_of Program = codes "program: "
prefix_of Query = codes "query: "
prefix_of History = codes "history: "
prefix_of Schedule = codes "schedule: "
prefix_of Session = codes "session: "
