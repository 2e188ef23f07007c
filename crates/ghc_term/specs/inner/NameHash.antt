-- The hashes of names and of numbers.
use Rattle.std.specs.Prelude.{ℕ, ◌+◌, ◌*◌, ◌/◌, ◌%◌, ◌^◌, List, [], ◌∷◌, bit_xor}
use Rattle.ghc_term.specs.declared.table.name_hasher.NameHasher.{NameHasher}

-- a hasher to which nothing was written
abbrev pub unwritten : NameHasher
unwritten = record { step = 0; place = 0 }

-- the number whose four bytes are these, the lowest first
abbrev pub number_of : List ℕ → ℕ
number_of (a ∷ b ∷ c ∷ d ∷ []) = a + b * 256 + c * 65536 + d * 16777216
number_of _ = 0

-- The last two numbers written are the step and the place of a name. A number alone is the place of no step.
abbrev pub written : NameHasher → List ℕ → NameHasher
written h bytes = record { step = h.place; place = number_of bytes }

-- An odd number whose products spread over all bits.
abbrev pub multiplier : ℕ
multiplier = 0x9e37_79b9_7f4a_7c15

-- The product of a number, its upper half laid over its lower half: a step from one number to the next is then no longer one step.
abbrev pub mixed : ℕ → ℕ
mixed n = bit_xor ((n * multiplier) % 2 ^ 64) ((n * multiplier) % 2 ^ 64 / 4294967296)

-- the hash of the name of this step and place: the two, one after the other, as one number, mixed and multiplied again
abbrev pub hash_of : ℕ → ℕ → ℕ
hash_of step place = (mixed (step * 4294967296 + place) * multiplier) % 2 ^ 64 / 4294967296

-- what a hasher answers
abbrev pub finished : NameHasher → ℕ
finished h = hash_of h.step h.place
