use Rattle.ghc_trace.proofs.Words.{◌≡◌, ◌++◌, ℕ, List, VarName, string_bytes}
use Rattle.ghc_trace.specs.WhyNot.{AreLostLines}
use Rattle.ghc_trace.proofs.lost.write_all_lost.Given as goal

abbrev pub invariant-loop-name : goal.invariant-loop-name
invariant-loop-name l =
    (done : List VarName) × (done ++ l.name-iterator ≡ l.initial.name-iterator) × ((text : List ℕ) × AreLostLines l.core.world done text × (string_bytes l.out ≡ string_bytes l.fn.out ++ text))
