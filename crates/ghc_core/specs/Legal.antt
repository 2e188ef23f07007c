-- Legal histories, receipts, fronts and reachable worlds.
use Rattle.std.specs.Prelude.{◌≡◌, ℕ, ◌+◌, List, [], ◌∷◌, ◌++◌}
use Rattle.std.specs.FinMap as finite
use Rattle.ghc_term.specs.Tree.{IsClosed}
use Rattle.ghc_fire.specs.Asked.{IsAsk}
use Rattle.ghc_records.specs.Record.{numbers}
use Rattle.ghc_records.specs.Journal.{Opening, Entry, Item, opened, entered, history, opening_journal}
use Rattle.ghc_core.specs.World.{Hands, World, Opens}
use Rattle.ghc_core.specs.Events.{input, finish, undo, roll, redo, arrange, ask, Event, propose, commit, note, command, Reply}
use Rattle.ghc_core.specs.Answers.{Answers}
use Rattle.ghc_core.specs.Reached.{IsSound}

-- In the world w some event gets this reply, with memory enough, and adds this entry to the journal; that leaves the world v.
abbrev pub Enters : World → Entry → Reply → World → Type 0
Enters w entry reply v =
    (hands left : Hands) × (e : Event) × Answers ⊥ w hands e reply v left × (v.journal ≡ w.journal ++ entry ∷ [])

-- Leaves items w: the list is a legal history, from a sound opening on, and leaves the world w.
pub data Leaves : List Item → World → Type 0 where
  the_opening : {o : Opening} {w : World} → IsSound o → Opens o w → Leaves (history o (opening_journal o)) w
  and_entry : {items : List Item} {w v : World} (entry : Entry) (reply : Reply) → Leaves items w → Enters w entry reply v → Leaves (items ++ entered entry ∷ []) v

-- The list is a legal history.
abbrev pub IsLegal : List Item → Type 0
IsLegal items = (w : World) × Leaves items w

-- the number of entries of the list
abbrev pub entry_count : List Item → ℕ
entry_count [] = 0
entry_count (opened _ ∷ items) = entry_count items
entry_count (entered _ ∷ items) = 1 + entry_count items

-- A receipt is the reply to a call, and its place: the number of entries in front of the call.
pub record Receipt : Type 0 where
  pub place : ℕ
  pub reply : Reply

-- One front begins the other.
abbrev pub Begins : List Item → List Item → Type 0
Begins front longer = (more : List Item) × (longer ≡ front ++ more)

-- After this front, a legal history that leaves the world before, the event e, with these hands, gets the receipt with memory enough, and adds this entry.
pub record IsAccepted (front : List Item) (hands : Hands) (e : Event) (receipt : Receipt) (entry : Entry) : Type 0 where
  pub before : World
  pub after : World
  pub left : Hands
  pub legal : Leaves front before
  pub place : receipt.place ≡ entry_count front
  pub answer : Answers ⊥ before hands e receipt.reply after left
  pub adds : after.journal ≡ before.journal ++ entry ∷ []

-- After this front, a legal history that leaves the world before, the event e, with these hands, gets the receipt, and adds no entry.
pub record IsTold (Starved : Type 0) (front : List Item) (hands : Hands) (e : Event) (receipt : Receipt) : Type 0 where
  pub before : World
  pub after : World
  pub left : Hands
  pub legal : Leaves front before
  pub place : receipt.place ≡ entry_count front
  pub answer : Answers Starved before hands e receipt.reply after left
  pub adds_nothing : after.journal ≡ before.journal

-- IsReceipt Starved items hands e receipt: the event e, with these hands, has this receipt in the history of the items.
pub data IsReceipt (Starved : Type 0) (items : List Item) (hands : Hands) (e : Event) (receipt : Receipt) : Type 0 where
  -- what was accepted is the entry at its place, and its reply is the definition's there
  accepted : (front : List Item) (entry : Entry) → IsAccepted front hands e receipt entry → Begins (front ++ entered entry ∷ []) items → IsReceipt Starved items hands e receipt
  -- what left no entry has the definition's reply after the entries in front of it
  told : (front : List Item) → IsTold Starved front hands e receipt → Begins front items → IsReceipt Starved items hands e receipt

-- IsAnswered Starved old new hands e receipt: a caller that knew the front old made a call with the event e, got this receipt, and knows the front new now.
pub data IsAnswered (Starved : Type 0) (old new : List Item) (hands : Hands) (e : Event) (receipt : Receipt) : Type 0 where
  -- what was accepted is the last entry of the new front, after all that was known
  accepted : (front : List Item) (entry : Entry) → IsAccepted front hands e receipt entry → Begins old front → new ≡ front ++ entered entry ∷ []
      → IsAnswered Starved old new hands e receipt
  -- what left no entry has the definition's reply after the whole new front
  told : IsTold Starved new hands e receipt → Begins old new → IsAnswered Starved old new hands e receipt

-- An input term is closed, and goals that are asked for are an ask; nothing else is asked of an event.
abbrev pub IsProper : Event → Type 0
IsProper (propose h g choice) = Unit {0}
IsProper (commit h) = Unit {0}
IsProper (note g) = Unit {0}
IsProper (command (input k t)) = IsClosed t
IsProper (command (finish k)) = Unit {0}
IsProper (command (undo n)) = Unit {0}
IsProper (command (roll n)) = Unit {0}
IsProper (command (redo n)) = Unit {0}
IsProper (command (arrange order)) = Unit {0}
IsProper (command (ask gs)) = IsAsk gs

-- A world and its hands are reachable: from a sound opening, with empty hands, by proper events, whether or not memory was refused; and a reachable world is so with any other hands that hold nothing.
pub data IsReachable : World → Hands → Type 0 where
  at_opening : {o : Opening} {w : World} {hands : Hands} → IsSound o → Opens o w → hands.held ≡ finite.empty → IsReachable w hands
  by_event : {w v : World} {hands left : Hands} (e : Event) (reply : Reply) → IsReachable w hands → IsProper e → Answers (Unit {0}) w hands e reply v left → IsReachable v left
  with_other_hands : {w : World} {hands other : Hands} → IsReachable w hands → other.held ≡ finite.empty → IsReachable w other

-- What a look at a front shows: how many entries it has, and the kept numbers after them.
abbrev pub Shows : List Item → ℕ → List ℕ → Type 0
Shows front length kept = (w : World) × Leaves front w × (length ≡ entry_count front) × (kept ≡ numbers w.kept)
