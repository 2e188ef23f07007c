-- Heads and goals that the grammar allows and the language does not, and their places: how many tokens the text has left at each.
use Rattle.std.specs.Prelude.{ℕ, ◌+◌, List, [], ◌∷◌, ◌++◌, Option, Some, None, Bool, true, false, ◌&&◌, ◌||◌, nat_eq, not, bytes_eq, codes}
use Rattle.std.specs.List.{flat_map}
use Rattle.ghc_reader.specs.Source.{Tree, variable, Trees, none, some, Call, Goal, call, Clause}

-- how many trees there are
abbrev pub count : Trees → ℕ
count none = 0
count (some t ts) = count ts + 1

-- the call has this name and so many arguments
abbrev pub is_call : List ℕ → ℕ → Call → Bool
is_call name arity c = bytes_eq c.name name && nat_eq (count c.arguments) arity

-- `instream(_)`
abbrev pub is_stream : Call → Bool
is_stream c = is_call (codes "instream") 1 c

-- `true`, `otherwise`, `alternatively` or `instream(_)`: no clause defines one
abbrev pub is_reserved : Call → Bool
is_reserved c = is_call (codes "true") 0 c || is_call (codes "otherwise") 0 c || is_call (codes "alternatively") 0 c || is_stream c

-- a variable
abbrev pub is_variable : Tree → Bool
is_variable (variable v) = true
is_variable _ = false

-- the first tree is a variable
abbrev pub starts_with_variable : Trees → Bool
starts_with_variable none = false
starts_with_variable (some t ts) = is_variable t

-- the place of the call, where the test holds
abbrev pub place_if : Bool → Call → List ℕ
place_if true c = c.left ∷ []
place_if false c = []

-- in the body of a clause: a stream
abbrev pub misplaced_goal : Goal → List ℕ
misplaced_goal (call c) = place_if (is_stream c) c
misplaced_goal _ = []

-- in a query: a stream whose tail is no variable
abbrev pub misplaced_query_goal : Goal → List ℕ
misplaced_query_goal (call c) = place_if (is_stream c && not (starts_with_variable c.arguments)) c
misplaced_query_goal _ = []

-- the places in goals, in the order of the text
abbrev pub misplaced_body : List Goal → List ℕ
misplaced_body gs = flat_map misplaced_goal gs

-- the places of a query's streams whose tail is no variable, in the order of the text
abbrev pub misplaced_query : List Goal → List ℕ
misplaced_query gs = flat_map misplaced_query_goal gs

-- the places in a clause: a reserved head, and streams in the body
abbrev pub misplaced_clause : Clause → List ℕ
misplaced_clause c = place_if (is_reserved c.head) c.head ++ misplaced_body c.body

-- the places of reserved heads and of streams in bodies, in the order of the text
abbrev pub misplaced_program : List Clause → List ℕ
misplaced_program cs = flat_map misplaced_clause cs

-- the first of the places
abbrev pub first_place : List ℕ → Option ℕ
first_place [] = None
first_place (n ∷ ns) = Some n
