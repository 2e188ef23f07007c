-- The kept list and the shelf, as functions of the journal.
use Rattle.std.specs.Prelude.{◌≡◌, ℕ, List, [], ◌∷◌, ◌++◌, Some}
use Rattle.std.specs.FinMap as finite
use Rattle.ghc_records.specs.Orders.{Picks}
use Rattle.ghc_records.specs.Record.{State, Record, Shelf}
use Rattle.ghc_records.specs.Replay.{Replays}
use Rattle.ghc_records.specs.Journal.{Opening, Entry, took, undid, rolled, redid, reordered, step_of}
use Rattle.ghc_depend.specs.Depend.{IsKeptAs, GoesWith}
use Rattle.ghc_depend.specs.Lawful.{IsInOrder}

-- The shelf, with these records put on it.
abbrev pub with_shelved : List Record → Shelf → Shelf
with_shelved [] shelf = shelf
with_shelved (r ∷ rs) shelf = finite.insert (with_shelved rs shelf) r.number r

-- left is the kept list without r, in recorded order.
abbrev pub IsWithout : List Record → Record → List Record → Type 0
IsWithout kept r left = Picks (λ s. ¬ (s ≡ r)) kept left

-- Taken out of the kept list, gone are r and its consequences, and left is the rest, both in recorded order.
abbrev pub IsSplitAt : List Record → Record → List Record → List Record → Type 0
IsSplitAt kept r gone left = Picks (GoesWith kept r) kept gone × Picks (λ s. ¬ GoesWith kept r s) kept left

-- The numbers of the steps that the entries took.
abbrev pub taken_numbers : List Entry → List ℕ
taken_numbers [] = []
taken_numbers (took s ∷ es) = s.number ∷ taken_numbers es
taken_numbers (undid n ∷ es) = taken_numbers es
taken_numbers (rolled n ∷ es) = taken_numbers es
taken_numbers (redid n ∷ es) = taken_numbers es
taken_numbers (reordered order ∷ es) = taken_numbers es

-- Keeps o es kept shelf: where a journal that belongs to the opening o has the entries es, these records are kept, in this order, and those are on the shelf.
pub data Keeps (o : Opening) : List Entry → List Record → Shelf → Type 0 where
  -- at first, none
  at_first : Keeps o [] [] finite.empty
  -- a step goes to the end, with the effect that it has there
  step : {es : List Entry} {kept : List Record} {shelf : Shelf} (r : Record) (t : State)
      → Keeps o es kept shelf → Replays o.program o.query (kept ++ r ∷ []) t → Keeps o (es ++ took (step_of r) ∷ []) (kept ++ r ∷ []) shelf
  -- an undo takes one away
  undo : {es : List Entry} {kept left : List Record} {shelf : Shelf} (n : ℕ) (r : Record)
      → Keeps o es kept shelf → IsKeptAs kept n r → IsWithout kept r left → Keeps o (es ++ undid n ∷ []) left (with_shelved (r ∷ []) shelf)
  -- a rollback takes one away with its consequences
  roll : {es : List Entry} {kept left : List Record} {shelf : Shelf} (n : ℕ) (r : Record) (gone : List Record)
      → Keeps o es kept shelf → IsKeptAs kept n r → IsSplitAt kept r gone left → Keeps o (es ++ rolled n ∷ []) left (with_shelved gone shelf)
  -- a redo puts one at the end
  redo : {es : List Entry} {kept : List Record} {shelf : Shelf} (n : ℕ) (r : Record)
      → Keeps o es kept shelf → finite.get shelf n ≡ Some r → Keeps o (es ++ redid n ∷ []) (kept ++ r ∷ []) (finite.remove shelf n)
  -- an arrange puts all into another order
  arrange : {es : List Entry} {kept new : List Record} {shelf : Shelf} (order : List ℕ)
      → Keeps o es kept shelf → IsInOrder kept order new → Keeps o (es ++ reordered order ∷ []) new shelf
