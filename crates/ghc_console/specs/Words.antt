-- The words of a line, and the forms that words have.
use Rattle.std.specs.Prelude.{ℕ, zero, suc, ◌&&◌, ◌||◌, ◌==◌, Bool, false, not, nat_le, if◌then◌else◌, Option, None, Some, List, [], ◌∷◌, filter, length}
use Rattle.std.specs.Char.{is_ascii_digit, is_ascii_uppercase}
use Rattle.std.specs.List.{list_all, slice_split}
use Rattle.std.specs.Str.Parse.{digits_value}
use Rattle.ghc_term.specs.InputTerm.{is_name_byte}
use Rattle.ghc_reader.specs.Lexed.{greatest_number}
use Rattle.ghc_term.specs.declared.goal_name.GoalName.{GoalName}

-- A byte that a command may have.
abbrev pub is_printable : ℕ → Bool
is_printable byte = nat_le 32 byte && nat_le byte 126

-- The words of a line, which stand apart by one or more spaces.
abbrev pub words_of : List ℕ → List (List ℕ)
words_of line = filter (λ word. not (length word == 0)) (slice_split (λ byte. byte == 32) line)

-- The line from its first byte on that is no space.
abbrev pub unindented : List ℕ → List ℕ
unindented [] = []
unindented (byte ∷ bytes) = if byte == 32 then unindented bytes else byte ∷ bytes

-- The line from its first space on.
abbrev pub from_space : List ℕ → List ℕ
from_space [] = []
from_space (byte ∷ bytes) = if byte == 32 then byte ∷ bytes else from_space bytes

-- What stands after the first n words of a line, from the first byte on that is no space, to the end of the line.
abbrev pub behind : ℕ → List ℕ → List ℕ
behind zero line = unindented line
behind (suc n) line = behind n (from_space (unindented line))

-- The word is one digit or more, with a value that is not too great.
abbrev pub is_number : List ℕ → Bool
is_number word = not (length word == 0) && (list_all is_ascii_digit word && nat_le (digits_value 10 word) greatest_number)

-- The number that a word says.
abbrev pub number_of : List ℕ → Option ℕ
number_of word = if is_number word then Some (digits_value 10 word) else None

-- The goal of a step and a place, where both are there.
abbrev pub goal_named : Option ℕ → Option ℕ → Option GoalName
goal_named (Some step) (Some place) = Some (record { step = step; place = place })
goal_named None place = None
goal_named (Some step) None = None

-- The goal that two parts name, the step in front.
abbrev pub goal_of_parts : List (List ℕ) → Option GoalName
goal_of_parts (step ∷ place ∷ []) = goal_named (number_of step) (number_of place)
goal_of_parts [] = None
goal_of_parts (step ∷ []) = None
goal_of_parts (step ∷ place ∷ more ∷ rest) = None

-- The goal that a word names: a number, a point, and a number.
abbrev pub goal_name_of : List ℕ → Option GoalName
goal_name_of word = goal_of_parts (slice_split (λ byte. byte == 46) word)

-- A byte that a variable may begin with: a capital letter or `_`.
abbrev pub begins_variable : ℕ → Bool
begins_variable byte = is_ascii_uppercase byte || byte == 95

-- The word has the form of a variable: a capital letter or `_`, then letters, digits and `_`.
abbrev pub is_variable : List ℕ → Bool
is_variable [] = false
is_variable (byte ∷ bytes) = begins_variable byte && list_all is_name_byte bytes

-- What words say, with what one more says in front, where all of it is there.
abbrev pub in_front : {X : Type 0} → Option X → Option (List X) → Option (List X)
in_front (Some said) (Some more) = Some (said ∷ more)
in_front (Some said) None = None
in_front None more = None

-- The numbers that the words say, in their order, where each of them says one.
abbrev pub numbers_of : List (List ℕ) → Option (List ℕ)
numbers_of [] = Some []
numbers_of (word ∷ words) = in_front (number_of word) (numbers_of words)
