-- Carrying out a chronicle, and the chronicle that tells a world.
use Rattle.std.specs.Prelude.{◌≡◌, ℕ, ◌+◌, List, [], ◌∷◌, ◌++◌, length, Result, Ok, Err}
use Rattle.ghc_term.specs.declared.fault.Fault.{Fault}
use Rattle.ghc_term.specs.Lists.{In}
use Rattle.ghc_flat.specs.Clause.{Program, Query}
use Rattle.ghc_records.specs.History.{History, loaded_opening}
use Rattle.ghc_records.specs.Journal.{Entry}
use Rattle.ghc_records.specs.declared.predicate.Predicate.{Predicate}
use Rattle.ghc_records.specs.Chronicle.{Chronicle, chronicle_of}
use Rattle.ghc_core.specs.World.{World, Opens}
use Rattle.ghc_core.specs.Events.{Reply}
use Rattle.ghc_core.specs.Legal.{Enters}
use Rattle.ghc_core.specs.AskedGoals.{HasClauseFor}
use Rattle.ghc_core.specs.Load.{StopsAt}

-- In the world w the entry is carried out: some event enters it, which leaves the world v.
abbrev pub CarriesOut : World → Entry → World → Type 0
CarriesOut w entry v = (reply : Reply) × Enters w entry reply v

-- In the world w the entry is refused: no event enters it.
abbrev pub IsRefusedEntry : World → Entry → Type 0
IsRefusedEntry w entry = (v : World) → ¬ CarriesOut w entry v

-- From the world w on the entries are carried out, one after another, and leave the world v.
abbrev pub CarriesOutEach : World → List Entry → World → Type 0
CarriesOutEach w [] v = v ≡ w
CarriesOutEach w (entry ∷ entries) v = (u : World) × CarriesOut w entry u × CarriesOutEach u entries v

-- From the world w on so many of the entries are carried out, and the next one is refused.
pub record StopsBehind (w : World) (entries : List Entry) (count : ℕ) : Type 0 where
  pub before : List Entry
  pub stopped : Entry
  pub behind : List Entry
  pub whole : entries ≡ before ++ stopped ∷ behind
  pub count_is : count ≡ length before
  pub world : World
  pub carried : CarriesOutEach w before world
  pub refused : IsRefusedEntry world stopped

-- The program has a clause of the predicate.
abbrev pub IsPredicateOf : Program → Predicate → Type 0
IsPredicateOf P p = HasClauseFor P p.name p.arity

-- .. and of each of the predicates
abbrev pub ArePredicatesOf : Program → List Predicate → Type 0
ArePredicatesOf P ps = (p : Predicate) → In p ps → IsPredicateOf P p

-- The program has a clause of so many of the predicates, and of the next one none.
pub record LacksBehind (P : Program) (spies : List Predicate) (count : ℕ) : Type 0 where
  pub before : List Predicate
  pub lacking : Predicate
  pub behind : List Predicate
  pub whole : spies ≡ before ++ lacking ∷ behind
  pub count_is : count ≡ length before
  pub known : ArePredicatesOf P before
  pub unknown : ¬ IsPredicateOf P lacking

-- the line of a chronicle's text on which the entry stands in front of which there are so many others, and the line of the spied predicate
abbrev pub line_of_entry : Chronicle → ℕ → ℕ
line_of_entry c n = length c.opening.steps + n + 4

-- the line of a chronicle's text on which a spied predicate stands, with so many other spies before it
abbrev pub line_of_spy : Chronicle → ℕ → ℕ
line_of_spy c n = length c.opening.steps + length c.entries + n + 5

module _ (P : Program) (query : Query) (names : List (List ℕ)) (c : Chronicle) where
  -- The world is what the opening of the chronicle makes.
  abbrev pub IsOpened : World → Type 0
  IsOpened w = Opens (loaded_opening P query names c.opening) w

  -- The opening of the chronicle was loaded, and all entries were carried out, which left the world.
  abbrev pub IsCarriedOut : World → Type 0
  IsCarriedOut w = (o : World) × IsOpened o × CarriesOutEach o c.entries w

  -- Resumes Starved P query names c answer: on the program and the query, whose variables have these names, the chronicle is carried out, and the program has a clause of each predicate that is spied. Or it is refused with a line: that of the first step of the opening that is not possible; or else of the first entry that is refused; or else of the first of the spies of which the program has no clause.
  pub data Resumes (Starved : Type 0) : Result World Fault → Type 0 where
    resumes : (w : World) → IsCarriedOut w → ArePredicatesOf P c.spies → Resumes Starved (Ok w)
    no_step : {line : ℕ} → StopsAt P query c.opening line → Resumes Starved (Err (Fault.History line))
    no_entry : (o : World) {n : ℕ} → IsOpened o → StopsBehind o c.entries n → Resumes Starved (Err (Fault.History (line_of_entry c n)))
    no_spy : (w : World) {n : ℕ} → IsCarriedOut w → LacksBehind P c.spies n → Resumes Starved (Err (Fault.History (line_of_spy c n)))
    no_memory : Starved → Resumes Starved (Err Fault.Memory)

-- the history with which a world began
abbrev pub opening_of : World → History
opening_of w = record { steps = w.opening.steps; next = w.opening.next }

-- the chronicle of a world, with the predicates that are spied
abbrev pub chronicle_of_world : World → List Predicate → Chronicle
chronicle_of_world w spies = chronicle_of (opening_of w) w.journal spies w.next
