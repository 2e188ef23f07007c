-- Two worlds or cores with one code are one.
use Rattle.std.specs.Prelude.{ℕ, List, refl}
use Rattle.std.specs.Coded.{Coded, code_by, coded×, coded_ℕ}
use Rattle.ghc_fire.specs.declared.meter.Meter.{Meter}
use Rattle.ghc_records.specs.Record.{State, Record, Shelf}
use Rattle.ghc_records.specs.Journal.{Opening, Entry}
use Rattle.ghc_records.specs.State.{StateRoom}
use Rattle.ghc_hooks.specs.Face.{GoalNames}
use Rattle.ghc_hooks.specs.Notes.{NotesByGoal}
use Rattle.ghc_hooks.specs.inner.TriesCode.{goal_names_code, notes_code}
use Rattle.ghc_records.specs.inner.RecordCode.{state_room_code, state_code, records_code, shelf_code, journal_code, opening_code}
use Rattle.ghc_core.specs.World.{World}
use Rattle.ghc_core.specs.Core.{Core}
use Rattle.ghc_core.specs.Room.{Room}
use Rattle.ghc_core.specs.Excerpt.{Excerpt}
use Rattle.ghc_term.specs.declared.goal_name.GoalName.{GoalName}
use Rattle.ghc_term.specs.GoalMap.{goal_name_code}

-- the code of a world, from its opening to its journal, which no other world has
abbrev pub world_code : Coded World
world_code =
    code_by (Opening × (State × (List Record × (Shelf × (ℕ × List Entry)))))
    (coded× opening_code (coded× state_code (coded× records_code (coded× shelf_code (coded× coded_ℕ journal_code)))))
    (λ w. (w.opening, (w.state, (w.kept, (w.shelf, (w.next, w.journal))))))
    (λ p. record { opening = p.0; state = p.1.0; kept = p.1.1.0; shelf = p.1.1.1.0; next = p.1.1.1.1.0; journal = p.1.1.1.1.1 })
    (λ _. refl)

-- the code of a meter, its counts of firings and tries, which no other meter has
abbrev pub meter_code : Coded Meter
meter_code = code_by (ℕ × ℕ) (coded× coded_ℕ coded_ℕ) (λ m. (m.firings, m.tries)) (λ p. record { firings = p.0; tries = p.1 }) (λ _. refl)

-- the code of the room in the tables of a core, which no other room has
abbrev pub room_code : Coded Room
room_code =
    code_by (StateRoom × (ℕ × (ℕ × (ℕ × ℕ)))) (coded× state_room_code (coded× coded_ℕ (coded× coded_ℕ (coded× coded_ℕ coded_ℕ))))
    (λ r. (r.state, (r.kept, (r.shelf, (r.journal, r.tries)))))
    (λ p. record { state = p.0; kept = p.1.0; shelf = p.1.1.0; journal = p.1.1.1.0; tries = p.1.1.1.1 }) (λ _. refl)

-- the code of a core, which no other core has: its world, notes, untried goals, counts and room
abbrev pub core_code : Coded Core
core_code =
    code_by (World × (NotesByGoal × (GoalNames × (Meter × Room)))) (coded× world_code (coded× notes_code (coded× goal_names_code (coded× meter_code room_code))))
    (λ c. (c.world, (c.notes, (c.untried, (c.meter, c.room)))))
    (λ p. record { world = p.0; notes = p.1.0; untried = p.1.1.0; meter = p.1.1.1.0; room = p.1.1.1.1 }) (λ _. refl)

-- the code of an excerpt, its world and its goal, which no other excerpt has
abbrev pub excerpt_code : Coded Excerpt
excerpt_code = code_by (World × GoalName) (coded× world_code goal_name_code) (λ e. (e.world, e.goal)) (λ p. record { world = p.0; goal = p.1 }) (λ _. refl)
