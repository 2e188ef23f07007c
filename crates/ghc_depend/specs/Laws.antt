-- Laws of orders, of consequences and of deletion.
use Rattle.std.specs.Prelude.{◌≡◌, ◌⊎◌, ◌↔◌, ◌<◌, ℕ, List, [], ◌∷◌, ◌++◌, length}
use Rattle.ghc_term.specs.Lists.{In}
use Rattle.ghc_flat.specs.Clause.{Program, Query}
use Rattle.ghc_flat.specs.Flat.{IsProgram, IsQuery}
use Rattle.ghc_records.specs.Orders.{AreDistinct, Picks}
use Rattle.ghc_records.specs.Record.{State, Record, numbers, Shelf}
use Rattle.ghc_records.specs.Replay.{Replays, Runs}
use Rattle.ghc_records.specs.Journal.{Opening, Entry}
use Rattle.ghc_depend.specs.Depend.{DependsOn, Follows, IsFirstConsequence}
use Rattle.ghc_depend.specs.Deletion.{IsClosedUnder, IsPartedBy, IsWithoutSteps}
use Rattle.ghc_depend.specs.Lawful.{IsLawful, IsInOrder, IsUnlawful}
use Rattle.ghc_depend.specs.Kept.{IsWithout, IsSplitAt, taken_numbers, Keeps}

-- Of kept records with distinct numbers: an order that is lawful has no pair, one that is not has one pair at most, and the numbers of an order determine the records in that order.
pub record OrdersAreDecidedOnce (kept : List Record) : Type 0 where
  pub no_pair : (order : List ℕ) (a b : ℕ) → IsLawful kept order → ¬ IsUnlawful kept order a b
  pub one_pair : (order : List ℕ) (a b c d : ℕ) → IsUnlawful kept order a b → IsUnlawful kept order c d → (a ≡ c) × (b ≡ d)
  pub one_record : (order : List ℕ) (new other : List Record) → IsInOrder kept order new → IsInOrder kept order other → new ≡ other

-- So it is for all kept records with distinct numbers.
abbrev pub OrdersHaveOneAnswer : Type 0
OrdersHaveOneAnswer = (kept : List Record) → AreDistinct (numbers kept) → OrdersAreDecidedOnce kept

-- Of kept records with distinct numbers, a step has one first consequence at most, and one way to be taken away with its consequences.
pub record ConsequencesAreOne (kept : List Record) (r : Record) : Type 0 where
  pub one_first : (b c : Record) → IsFirstConsequence kept r b → IsFirstConsequence kept r c → b ≡ c
  pub one_split : (gone left far rest : List Record) → IsSplitAt kept r gone left → IsSplitAt kept r far rest → (gone ≡ far) × (left ≡ rest)

-- So it is for all kept records with distinct numbers, and each of them.
abbrev pub ConsequencesHaveOneAnswer : Type 0
ConsequencesHaveOneAnswer = (kept : List Record) (r : Record) → AreDistinct (numbers kept) → ConsequencesAreOne kept r

-- Of kept records with distinct numbers, each order is lawful, and puts them into some order, or has a pair that tells why not.
abbrev pub OrdersAreDecided : Type 0
OrdersAreDecided =
    (kept : List Record) (order : List ℕ) → AreDistinct (numbers kept)
    → (IsLawful kept order × ((new : List Record) × IsInOrder kept order new)) ⊎ ((a b : ℕ) × IsUnlawful kept order a b)

-- Where the steps gone are closed under consequences, the rest replays, with the effects recorded, to the state without them; and where the rest replays so, they are closed.
pub record DeletionIsLawful (P : Program) (query : Query) (kept : List Record) (t : State) (gone left : List Record) : Type 0 where
  pub replays : IsClosedUnder kept (λ r. In r gone) → (u : State) × Replays P query left u × IsWithoutSteps gone t u
  pub closed : (u : State) → Replays P query left u → IsClosedUnder kept (λ r. In r gone)

-- So it is for all records that replay from an accepted program and query, and for all that can be gone of them.
abbrev pub LawOfDeletion : Type 0
LawOfDeletion =
    (P : Program) (query : Query) (kept : List Record) (t : State) (gone left : List Record) → IsProgram P → IsQuery P query
    → Replays P query kept t → IsPartedBy kept (λ r. In r gone) gone left → DeletionIsLawful P query kept t gone left

-- The record in a lawful order replays to the same state.
abbrev pub LawfulOrderKeepsReplay : Type 0
LawfulOrderKeepsReplay =
    (P : Program) (query : Query) (kept : List Record) (t : State) (order : List ℕ) (new : List Record) → IsProgram P → IsQuery P query
    → Replays P query kept t → IsLawful kept order → IsInOrder kept order new → Replays P query new t

-- Two neighbouring steps, of which the later one does not depend on the earlier one, may change places, whatever their acts.
abbrev pub NeighboursChangePlaces : Type 0
NeighboursChangePlaces =
    (P : Program) (query : Query) (front back : List Record) (a b : Record) (t : State) → IsProgram P → IsQuery P query
    → Replays P query (front ++ a ∷ b ∷ back) t → ¬ DependsOn (front ++ a ∷ b ∷ back) b a → Replays P query (front ++ b ∷ a ∷ back) t

-- Where the kept steps replay in another order too, with the effects recorded, that order is lawful, and the state is the same.
abbrev pub ReplayingOrdersAreLawful : Type 0
ReplayingOrdersAreLawful =
    (P : Program) (query : Query) (kept : List Record) (t : State) (order : List ℕ) (new : List Record) (u : State) → IsQuery P query
    → Replays P query kept t → Replays P query new u → IsInOrder kept order new → IsLawful kept order × (u ≡ t)

-- The square: after the same steps, a and b are possible, and b is possible unchanged after a. Then a is possible unchanged after b, and both ways lead to one state.
abbrev pub StepsSquare : Type 0
StepsSquare =
    (P : Program) (query : Query) (front : List Record) (a b : Record) (s t : State) → IsProgram P → IsQuery P query
    → Replays P query (front ++ b ∷ []) s → Replays P query (front ++ a ∷ b ∷ []) t → Replays P query (front ++ b ∷ a ∷ []) t

-- Of two kept steps without consequences, once one is taken away the other is still there, and has none.
pub record StaysFree (kept left : List Record) (b : Record) : Type 0 where
  pub there : In b left
  pub free : (c : Record) → ¬ Follows left b c

-- The square of two undos: of two kept steps without consequences each can still be undone once the other is, and both ways leave the same steps, in the same order.
abbrev pub UndosSquare : Type 0
UndosSquare =
    (kept left_a left_b left : List Record) (a b : Record) → In a kept → In b kept → ¬ (a ≡ b) → ((c : Record) → ¬ Follows kept a c) → ((c : Record) → ¬ Follows kept b c)
    → IsWithout kept a left_a → IsWithout kept b left_b → StaysFree kept left_a b × StaysFree kept left_b a × (IsWithout left_a b left ↔ IsWithout left_b a left)

-- The square of an undo and a step: b, which is possible after the kept steps, is possible unchanged without a, and a can still be undone after b. Both ways leave the same steps, in the same order.
pub record UndoAndStepMeet (P : Program) (query : Query) (kept left : List Record) (a b : Record) : Type 0 where
  pub possible : (u : State) × Replays P query (left ++ b ∷ []) u
  pub free : (c : Record) → ¬ Follows (kept ++ b ∷ []) a c
  pub both_ways : IsWithout (kept ++ b ∷ []) a (left ++ b ∷ [])

-- So it is where a has no consequences among the kept steps, and b does not depend on it.
abbrev pub UndoAndStepSquare : Type 0
UndoAndStepSquare =
    (P : Program) (query : Query) (kept left : List Record) (a b : Record) (t : State) → IsProgram P → IsQuery P query → In a kept → ((c : Record) → ¬ Follows kept a c)
    → IsWithout kept a left → Replays P query (kept ++ b ∷ []) t → ¬ DependsOn (kept ++ b ∷ []) b a → UndoAndStepMeet P query kept left a b

-- Each undo leaves fewer steps: so no undoing goes on without end.
abbrev pub UndoingEnds : Type 0
UndoingEnds = (kept left : List Record) (a : Record) → In a kept → IsWithout kept a left → length left < length kept

-- SwapsInto kept new: kept becomes new where neighbours change places, one pair after the other, of which the later step does not depend on the earlier one.
pub data SwapsInto (kept : List Record) : List Record → Type 0 where
  no_swap : SwapsInto kept kept
  one_more_swap :
      (front back : List Record) (a b : Record) → SwapsInto kept (front ++ a ∷ b ∷ back) → ¬ DependsOn (front ++ a ∷ b ∷ back) b a
      → SwapsInto kept (front ++ b ∷ a ∷ back)

-- The lawful orders of kept steps with distinct numbers are just those into which swaps of neighbours bring them.
abbrev pub OrdersAreSwaps : Type 0
OrdersAreSwaps = (kept : List Record) (order : List ℕ) (new : List Record) → AreDistinct (numbers kept) → IsInOrder kept order new → IsLawful kept order ↔ SwapsInto kept new

-- Where some steps replay alone, and all of them stand in another replay, its state is reached from theirs by forward steps alone: those that it has more. (With the law of deletion it is the parabola: from one run to another one goes back first, and then forward.)
abbrev pub ReplaysExtend : Type 0
ReplaysExtend =
    (P : Program) (query : Query) (left whole : List Record) (v u : State) → IsProgram P → IsQuery P query → Replays P query left v → Replays P query whole u
    → ((r : Record) → In r left → In r whole) → (more : List Record) × Picks (λ r. ¬ In r left) whole more × Runs P v more u

-- Where a kept step has no consequences, the rest replays to the state without it.
abbrev pub UndoKeepsReplay : Type 0
UndoKeepsReplay =
    (P : Program) (query : Query) (kept : List Record) (t : State) (r : Record) → IsProgram P → IsQuery P query → Replays P query kept t → In r kept
    → ((b : Record) → ¬ Follows kept r b) → (left : List Record) × (u : State) × IsWithout kept r left × Replays P query left u × IsWithoutSteps (r ∷ []) t u

-- A kept step can be taken away with its consequences, and the rest replays to the state without them.
abbrev pub RollKeepsReplay : Type 0
RollKeepsReplay =
    (P : Program) (query : Query) (kept : List Record) (t : State) (r : Record) → IsProgram P → IsQuery P query → Replays P query kept t → In r kept
    → (gone left : List Record) × (u : State) × IsSplitAt kept r gone left × Replays P query left u × IsWithoutSteps gone t u

-- Steps that are closed under consequences can be taken again after the rest, in their old order, and that replays to the old state.
abbrev pub GoneComeBack : Type 0
GoneComeBack =
    (P : Program) (query : Query) (kept : List Record) (t : State) (gone left : List Record) → IsProgram P → IsQuery P query
    → Replays P query kept t → IsPartedBy kept (λ r. In r gone) gone left → IsClosedUnder kept (λ r. In r gone) → Replays P query (left ++ gone) t

-- The state without the steps gone is one.
abbrev pub WithoutStepsIsOne : Type 0
WithoutStepsIsOne = (gone : List Record) (s t u : State) → IsWithoutSteps gone s t → IsWithoutSteps gone s u → t ≡ u

-- Of an accepted program and query, a journal that takes no number twice tells one kept list and one shelf.
abbrev pub KeepsIsOne : Type 0
KeepsIsOne =
    (o : Opening) (es : List Entry) (kept other : List Record) (shelf rest : Shelf) → IsProgram o.program → IsQuery o.program o.query → AreDistinct (taken_numbers es)
    → Keeps o es kept shelf → Keeps o es other rest → (kept ≡ other) × (shelf ≡ rest)
