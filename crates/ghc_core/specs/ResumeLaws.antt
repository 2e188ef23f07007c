-- Laws of chronicles: carrying one out has one answer, that of a world is carried out again, and one that is carried out is written again.
use Rattle.std.specs.Prelude.{◌≡◌, ◌++◌, ℕ, List, Result, Ok, Err, ◌≤◌, length}
use Rattle.ghc_term.specs.declared.fault.Fault.{Fault}
use Rattle.ghc_term.specs.Answered.{Answered, IsExact}
use Rattle.ghc_flat.specs.Clause.{Program, Query}
use Rattle.ghc_records.specs.History.{IsHistory, loaded_opening}
use Rattle.ghc_records.specs.Journal.{history, opening_journal}
use Rattle.ghc_records.specs.declared.predicate.Predicate.{Predicate}
use Rattle.ghc_records.specs.Chronicle.{Chronicle, entry_limit, next_behind, spy_limit}
use Rattle.ghc_records.specs.ChronicleText.{TellsChronicle}
use Rattle.ghc_core.specs.World.{Hands, World}
use Rattle.ghc_core.specs.Reached.{IsSound}
use Rattle.ghc_core.specs.Legal.{IsReachable, Leaves}
use Rattle.ghc_core.specs.Resume.{IsCarriedOut, ArePredicatesOf, Resumes, chronicle_of_world}

-- What is answered for a chronicle on a sound opening is exact: the world that it leaves, or the line at which it is refused, unless memory was refused.
abbrev pub ResumeIsExact : Type 0
ResumeIsExact =
    (P : Program) (query : Query) (names : List (List ℕ)) (c : Chronicle) (result : Result World Fault) → IsSound (loaded_opening P query names c.opening) → IsHistory c.opening
    → Answered (λ w. Resumes P query names c ⊥ (Ok w)) (λ f. Resumes P query names c ⊥ (Err f)) result
    → IsExact (λ w. Resumes P query names c ⊥ (Ok w)) (λ f. Resumes P query names c ⊥ (Err f)) result

-- What a chronicle leaves that is carried out on a sound opening is what the legal history of its opening and its entries leaves.
abbrev pub CarriedOutIsLegal : Type 0
CarriedOutIsLegal =
    (P : Program) (query : Query) (names : List (List ℕ)) (c : Chronicle) (w : World) → IsSound (loaded_opening P query names c.opening) → IsCarriedOut P query names c w
    → Leaves (history (loaded_opening P query names c.opening) (opening_journal (loaded_opening P query names c.opening) ++ c.entries)) w

-- The chronicle of a reachable world, with spied predicates of its program, is carried out on the world's program and query, and leaves this world, whole: state, kept steps, shelf, next number, opening and journal.
abbrev pub WhatIsToldIsCarriedOut : Type 0
WhatIsToldIsCarriedOut =
    (w : World) (hands : Hands) (spies : List Predicate) → IsReachable w hands → ArePredicatesOf w.opening.program spies
    → Resumes w.opening.program w.opening.query w.opening.names (chronicle_of_world w spies) ⊥ (Ok w)
    × ((result : Result World Fault) → Resumes w.opening.program w.opening.query w.opening.names (chronicle_of_world w spies) ⊥ result → result ≡ Ok w)

-- A chronicle whose next number is the one after its entries, and that is carried out, is the chronicle of the world that it leaves.
abbrev pub WhatIsCarriedOutIsTold : Type 0
WhatIsCarriedOutIsTold =
    (P : Program) (query : Query) (names : List (List ℕ)) (c : Chronicle) (w : World)
    → c.next ≡ next_behind c.opening.next c.entries → IsCarriedOut P query names c w → chronicle_of_world w c.spies ≡ c

-- A chronicle can be carried out: its opening is a history of the form, its entries and spied predicates are not too many, and its next number is the one after its entries.
pub record CanBeResumed (c : Chronicle) : Type 0 where
  pub opening : IsHistory c.opening
  pub entries : length c.entries ≤ entry_limit
  pub spies : length c.spies ≤ spy_limit
  pub next : c.next ≡ next_behind c.opening.next c.entries

-- A chronicle that a text tells can be carried out.
abbrev pub WhatIsReadCanBeResumed : Type 0
WhatIsReadCanBeResumed = (text : List ℕ) (c : Chronicle) → TellsChronicle text c → CanBeResumed c
