-- Worlds and hands.
use Rattle.std.specs.Prelude.{◌≡◌, ◌⊎◌, ℕ, ◌+◌, ◌<◌, ◌≤◌, List, [], ◌∷◌, ◌++◌, length, map}
use Rattle.std.specs.Ordering.{nat_cmp}
use Rattle.std.specs.FinMap as finite
use Rattle.ghc_term.specs.Lists.{In}
pub use Rattle.ghc_fire.specs.Proposal.{Proposal}
use Rattle.ghc_records.specs.Numbers.{number_limit, kept_limit}
use Rattle.ghc_records.specs.Record.{State, Record, Shelf, after, Fires}
use Rattle.ghc_records.specs.Replay.{AreKnownIn, Replays}
use Rattle.ghc_records.specs.Journal.{Opening, Entry, took, step_of, opening_journal}

-- Hands are numbered from 1, and each holds a proposal or nothing.
pub record Hands : Type 0 where
  pub count : ℕ
  pub held : finite.FinMap nat_cmp Proposal

-- No hands at all.
abbrev pub no_hands : Hands
no_hands = record { count = 0; held = finite.empty }

-- There is a hand h.
abbrev pub IsHand : Hands → ℕ → Type 0
IsHand hands h = (1 ≤ h) × (h ≤ hands.count)

-- the hands, with p in hand h instead of what it held
abbrev pub with_hand : ℕ → Proposal → Hands → Hands
with_hand h p hands = record hands { held = finite.insert hands.held h p }

-- the hands, with hand h empty
abbrev pub emptied : ℕ → Hands → Hands
emptied h hands = record hands { held = finite.remove hands.held h }

-- A world is its opening, its state, the kept steps in recorded order, the shelf, the number that the next new step gets, and the journal.
pub record World : Type 0 where
  pub opening : Opening
  pub state : State
  pub kept : List Record
  pub shelf : Shelf
  pub next : ℕ
  pub journal : List Entry

-- The state t is the replay of these records from the query of the world.
abbrev pub IsReplay : World → List Record → State → Type 0
IsReplay w rs t = Replays w.opening.program w.opening.query rs t

-- No new step has room: the numbers are used up, or the greatest number of steps is kept.
abbrev pub IsFull : World → Type 0
IsFull w = (number_limit ≤ w.next) ⊎ (kept_limit ≤ length w.kept)

-- A new step has room.
abbrev pub HasRoom : World → Type 0
HasRoom w = (w.next < number_limit) × (length w.kept < kept_limit)

-- Each variable that the step names is the query's, or a kept step made it.
abbrev pub IsKnown : World → Record → Type 0
IsKnown w r = AreKnownIn w.opening.query w.kept r

-- The step of the record is possible now, under the next number, and what it names is known.
abbrev pub IsNextStep : World → Record → Type 0
IsNextStep w r = (r.number ≡ w.next) × Fires w.opening.program w.state r × HasRoom w × IsKnown w r

-- the world, with a new step at its end
abbrev pub with_step : Record → World → World
with_step r w = record w {
  state = after w.state r;
  kept = w.kept ++ r ∷ [];
  next = w.next + 1;
  journal = w.journal ++ took (step_of r) ∷ [];
}

-- The opening o makes the world w: its steps were replayed, each with a number below the next one, and nothing is on the shelf. (With no steps and the next number 1 it is the world of a query.)
pub record Opens (o : Opening) (w : World) : Type 0 where
  pub opening : w.opening ≡ o
  pub steps : map step_of w.kept ≡ o.steps
  pub state : IsReplay w w.kept w.state
  pub below : (r : Record) → In r w.kept → r.number < o.next
  pub numbered : (1 ≤ o.next) × (o.next ≤ number_limit)
  pub few : length w.kept ≤ kept_limit
  pub shelf : w.shelf ≡ finite.empty
  pub next : w.next ≡ o.next
  pub journal : w.journal ≡ opening_journal o
