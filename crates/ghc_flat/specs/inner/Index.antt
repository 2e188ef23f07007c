-- What the index of a program gives for a name and arity.
use Rattle.std.specs.Prelude.{◌≡◌, ◌≢◌, ℕ, List, [], Vec, Option, Some, None, nat_eq, bytes_eq}
use Rattle.std.specs.Map.{lookup}
use Rattle.ghc_flat.specs.declared.index.Arities.{Arities}
use Rattle.ghc_flat.specs.declared.index.Index.{Index}
use Rattle.ghc_term.specs.Lists.{In}
use Rattle.ghc_flat.specs.Clause.{Clause, Program}
use Rattle.ghc_flat.specs.Flat.{IsWellMade}
use Rattle.ghc_flat.specs.Checked.{AllCalls}
use Rattle.ghc_flat.specs.Numbers.{numbers_from}

-- the numbers that were found
abbrev pub found_numbers : {Z : Type 0} → Option (Vec ℕ Z) → List ℕ
found_numbers None = []
found_numbers (Some v) = v.items

-- the numbers at an arity
abbrev pub numbers_of_arity : Arities → ℕ → List ℕ
numbers_of_arity a n = found_numbers (lookup (nat_eq n) a.numbers.entries)

-- the numbers at an arity, of a name that was found
abbrev pub numbers_of_found : Option Arities → ℕ → List ℕ
numbers_of_found None n = []
numbers_of_found (Some a) n = numbers_of_arity a n

-- the numbers at a name and an arity
abbrev pub numbers_at : Index → List ℕ → ℕ → List ℕ
numbers_at i f n = numbers_of_found (lookup (bytes_eq f) i.names.entries) n

-- some clause is of this name and arity
abbrev pub Knows : Index → List ℕ → ℕ → Type 0
Knows i f n = numbers_at i f n ≢ []

-- the index has the numbers of these names and arities, which are numbered from 1
abbrev pub IsIndexOf : List (List ℕ × ℕ) → Index → Type 0
IsIndexOf ps i = (f : List ℕ) (n : ℕ) → numbers_at i f n ≡ numbers_from 0 ps f n

-- each clause is well made, and the index knows the calls of its body
abbrev pub AreSound : Index → Program → Type 0
AreSound i P = (c : Clause) → In c P → IsWellMade c × AllCalls (Knows i) c.body
