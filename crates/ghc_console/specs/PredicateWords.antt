-- Words that name predicates, as `append/3`.
use Rattle.std.specs.Prelude.{ℕ, ◌&&◌, ◌==◌, Bool, false, not, bytes_eq, if◌then◌else◌, Option, None, Some, List, [], ◌∷◌, codes}
use Rattle.std.specs.Char.{is_ascii_lowercase}
use Rattle.std.specs.List.{list_all, slice_split}
use Rattle.ghc_term.specs.InputTerm.{is_name_byte}
use Rattle.ghc_console.specs.Words.{number_of}

-- The word is a name: a small letter, then letters, digits and `_`. `mod` is an operator and no name.
abbrev pub is_name : List ℕ → Bool
is_name [] = false
is_name (byte ∷ bytes) = (is_ascii_lowercase byte && list_all is_name_byte bytes) && not (bytes_eq (byte ∷ bytes) (codes "mod"))

-- The predicate of a name and an arity, where the word is a name and the arity is there.
abbrev pub predicate_named : List ℕ → Option ℕ → Option (List ℕ × ℕ)
predicate_named word (Some arity) = if is_name word then Some (word, arity) else None
predicate_named word None = None

-- The predicate that two parts name, its name in front.
abbrev pub predicate_of_parts : List (List ℕ) → Option (List ℕ × ℕ)
predicate_of_parts (name ∷ arity ∷ []) = predicate_named name (number_of arity)
predicate_of_parts [] = None
predicate_of_parts (name ∷ []) = None
predicate_of_parts (name ∷ arity ∷ more ∷ rest) = None

-- The predicate that a word names: a name, a stroke, and a number.
abbrev pub predicate_of : List ℕ → Option (List ℕ × ℕ)
predicate_of word = predicate_of_parts (slice_split (λ byte. byte == 47) word)
