-- Laws of loading: a load has one answer, and what is saved is loaded again.
use Rattle.std.specs.Prelude.{◌≡◌, ℕ, List, map, Result, Ok, Err}
use Rattle.std.specs.FinMap as finite
use Rattle.ghc_term.specs.declared.fault.Fault.{Fault}
use Rattle.ghc_term.specs.Answered.{Answered, IsExact}
use Rattle.ghc_flat.specs.Clause.{Program, Query}
use Rattle.ghc_flat.specs.Flat.{IsProgram, IsQuery}
use Rattle.ghc_records.specs.Journal.{took, step_of}
use Rattle.ghc_records.specs.History.{History, IsHistory, loaded_opening}
use Rattle.ghc_core.specs.World.{Hands, World}
use Rattle.ghc_core.specs.Legal.{IsReachable}
use Rattle.ghc_core.specs.Load.{Loads, history_of}

-- What is answered for a history of the form on an accepted program and query is exact: the world that it leaves, or the line of the first step that is not possible, unless memory was refused.
abbrev pub LoadIsExact : Type 0
LoadIsExact =
    (P : Program) (query : Query) (names : List (List ℕ)) (h : History) (result : Result World Fault) → IsProgram P → IsQuery P query → IsHistory h
    → Answered (λ w. Loads ⊥ P query names h (Ok w)) (λ f. Loads ⊥ P query names h (Err f)) result
    → IsExact (λ w. Loads ⊥ P query names h (Ok w)) (λ f. Loads ⊥ P query names h (Err f)) result

-- The world with its kept steps loaded: state, kept steps and next number stay, the journal has an entry for each kept step and no other, and nothing is on the shelf.
abbrev pub reloaded : World → World
reloaded w = record w {
  opening = loaded_opening w.opening.program w.opening.query w.opening.names (history_of w);
  shelf = finite.empty;
  journal = map took (map step_of w.kept);
}

-- The history of a reachable world, loaded on the world's program and query, gives the world with its kept steps loaded, and nothing else: no step of it is refused.
abbrev pub SavedIsLoadedAgain : Type 0
SavedIsLoadedAgain =
    (w : World) (hands : Hands) → IsReachable w hands
    → Loads ⊥ w.opening.program w.opening.query w.opening.names (history_of w) (Ok (reloaded w))
    × ((result : Result World Fault) → Loads ⊥ w.opening.program w.opening.query w.opening.names (history_of w) result → result ≡ Ok (reloaded w))
