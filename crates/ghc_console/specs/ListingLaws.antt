-- The laws of listings.
use Rattle.std.specs.Prelude.{◌≡◌, ◌⊎◌, ℕ, List, ◌++◌}
use Rattle.ghc_term.specs.declared.fault.Fault.{Fault}
use Rattle.ghc_records.specs.Record.{Record, Shelf}
use Rattle.ghc_core.specs.World.{World}
use Rattle.ghc_trace.specs.GoalLines.{AreGoalLines, HasTooLong}
use Rattle.ghc_trace.specs.Spies.{Spies}
use Rattle.ghc_console.specs.TextLines.{refusal, text_lines}
use Rattle.ghc_console.specs.Listings.{TellsListing, kept_listed, kept_text, records_listed, records_text, saved_text, session_listed, shelf_listed, shelf_text}
use Rattle.ghc_console.specs.Replies.{AreGoalsTold}

-- A line of the text says that memory was refused: before it and after it stand others, or none.
abbrev pub SaysMemory : List ℕ → Type 0
SaysMemory text = (front : List (List ℕ)) × (after : List ℕ) × (text ≡ text_lines front ++ (refusal Fault.Memory ++ after))

-- The text of the records tells them, and so does that of the shelf, of the kept steps, of a session, and of goals none of which is too long. What tells them is that text, unless a line of it says that memory was refused.
pub record ListingsAreWhole : Type 0 where
  pub records : (rs : List Record) (text : List ℕ) → TellsListing (records_listed rs) text → (text ≡ records_text rs) ⊎ SaysMemory text
  pub shelf : (held : Shelf) (text : List ℕ) → TellsListing (shelf_listed held) text → (text ≡ shelf_text held) ⊎ SaysMemory text
  pub kept : (w : World) (text : List ℕ) → TellsListing (kept_listed w) text → (text ≡ kept_text w) ⊎ SaysMemory text
  pub session : (w : World) (spies : Spies) (text : List ℕ) → TellsListing (session_listed w spies) text → (text ≡ saved_text w spies) ⊎ SaysMemory text
  pub goals : (w : World) (text : List ℕ) → AreGoalsTold w text → (AreGoalLines w text × ¬ HasTooLong w.state.goals w.state.store) ⊎ SaysMemory text
  pub records_told : (rs : List Record) → TellsListing (records_listed rs) (records_text rs)
  pub shelf_told : (held : Shelf) → TellsListing (shelf_listed held) (shelf_text held)
  pub kept_told : (w : World) → TellsListing (kept_listed w) (kept_text w)
  pub session_told : (w : World) (spies : Spies) → TellsListing (session_listed w spies) (saved_text w spies)
  pub goals_told : (w : World) (text : List ℕ) → AreGoalLines w text → ¬ HasTooLong w.state.goals w.state.store → AreGoalsTold w text
