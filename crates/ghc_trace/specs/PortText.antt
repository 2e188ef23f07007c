-- The texts of ports.
use Rattle.std.specs.Prelude.{ℕ, List, [], ◌∷◌, ◌++◌, codes}
use Rattle.ghc_term.specs.GoalText.{goal_text}
use Rattle.ghc_records.specs.StepText.{goal_name_text, step_text}
use Rattle.ghc_trace.specs.Ports.{Port, reduced, called, resumed}

-- a port: `REDU 1 0.1 by 2`, `CALL 1.1 X = Y` with the goal as written, or `RESU 0.2`
abbrev pub port_text : Port → List ℕ
port_text (reduced s) = codes "REDU " ++ step_text s
port_text (called g b) = codes "CALL " ++ (goal_name_text g ++ (codes " " ++ goal_text b))
port_text (resumed g) = codes "RESU " ++ goal_name_text g

-- ports, each with a line feed after it
abbrev pub ports_text : List Port → List ℕ
ports_text [] = []
ports_text (p ∷ ps) = port_text p ++ (codes "\n" ++ ports_text ps)
