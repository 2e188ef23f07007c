-- What a term takes of the room that an input term has.
use Rattle.std.specs.Prelude.{◌≡◌, ℕ, ◌+◌, ◌≤◌, length, List, Option, if◌then◌else◌, MatchOption}
use Rattle.ghc_term.specs.Tree.{Tree, Trees, none, more}
use Rattle.ghc_term.specs.Text.{is_cell, term_text, rest_text}
use Rattle.ghc_term.specs.InputTerm.{IsHead, IsInGrammar, AllInGrammar, nodes, nodes_of_all, nesting, rest_nesting, deepest}
use Rattle.ghc_term.specs.declared.measure.Room.{Room}
use Rattle.ghc_term.specs.declared.measure.Inside.{Inside}
use Rattle.ghc_term.specs.declared.measure.Place.{Place}
use Rattle.ghc_term.specs.declared.measure.Place.TheVariants.{Alone, Rest}

-- what is in the grammar (P), with n nodes, b bytes and k brackets open at one place, has room
pub record HasRoom (P : Type 0) (n b k depth : ℕ) (room : Room) : Type 0 where
  pub grammar : P
  pub size : n ≤ room.nodes
  pub text : b ≤ room.bytes
  pub nested : k ≤ depth

-- .. and leaves that room
pub record Leaves (P : Type 0) (n b k depth : ℕ) (room left : Room) : Type 0 where
  pub grammar : P
  pub size : n + left.nodes ≡ room.nodes
  pub text : b + left.bytes ≡ room.bytes
  pub nested : k ≤ depth

-- what is left once it has been written, and nothing where it has no room
abbrev pub Measured : Type 0 → ℕ → ℕ → ℕ → ℕ → Room → Option Room → Type 0
Measured P n b k depth room left = MatchOption left (¬ HasRoom P n b k depth room) (Leaves P n b k depth room)

-- the bytes of a term, or of the rest of a list
abbrev pub bytes_at : Place → Tree → ℕ
bytes_at Alone t = length (term_text t)
bytes_at Rest t = length (rest_text t)

-- the brackets that stand open in it at one place
abbrev pub nesting_at : Place → Tree → ℕ
nesting_at Alone t = nesting t
nesting_at Rest t = rest_nesting t

-- A term that has room at its place leaves this much of it, and one that has none leaves nothing.
abbrev pub MeasuredAt : Place → Tree → ℕ → Room → Option Room → Type 0
MeasuredAt place t depth room left = Measured (IsInGrammar t) (nodes t) (bytes_at place t) (nesting_at place t) depth room left

-- the bytes of terms, each after a mark
abbrev pub bytes_of_all : Trees → ℕ
bytes_of_all none = 0
bytes_of_all (more t ts) = 1 + length (term_text t) + bytes_of_all ts

-- Arguments that have room together leave this much of it, and those that have none leave nothing.
abbrev pub MeasuredAll : Trees → ℕ → Room → Option Room → Type 0
MeasuredAll ts depth room left = Measured (AllInGrammar ts) (nodes_of_all ts) (bytes_of_all ts) (deepest ts) depth room left

-- the bytes around a term that is no list: none, or the bar and the closing bracket
abbrev pub marks_at : Place → ℕ
marks_at Alone = 0
marks_at Rest = 2

-- the brackets that a list cell opens: the rest of a list stands within its list's
abbrev pub opened_at : Place → ℕ
opened_at Alone = 1
opened_at Rest = 0

-- the bytes of a structure but its arguments and the marks before them; the last argument's mark counts
abbrev pub own_bytes : Place → List ℕ → Trees → ℕ
own_bytes place f ts = if is_cell f ts then 0 else length f + 2 + marks_at place

-- the brackets that a structure opens
abbrev pub own_nesting : Place → List ℕ → Trees → ℕ
own_nesting place f ts = if is_cell f ts then opened_at place else 1

-- where the last argument of a structure is written
abbrev pub last_place : List ℕ → Trees → Place
last_place f ts = if is_cell f ts then Rest else Alone

-- a structure leaves this for its arguments
pub record Enters (place : Place) (f : List ℕ) (ts : Trees) (depth : ℕ) (room : Room) (inside : Inside) : Type 0 where
  pub head : IsHead f ts
  pub last : inside.place ≡ last_place f ts
  pub size : 1 + inside.room.nodes ≡ room.nodes
  pub text : own_bytes place f ts + inside.room.bytes ≡ room.bytes
  pub nested : own_nesting place f ts + inside.depth ≡ depth

-- what a structure leaves for its arguments, and nothing where it has no room itself
abbrev pub Entered : Place → List ℕ → Trees → ℕ → Room → Option Inside → Type 0
Entered place f ts depth room inside =
    MatchOption inside (¬ HasRoom (IsHead f ts) 1 (own_bytes place f ts) (own_nesting place f ts) depth room) (Enters place f ts depth room)
