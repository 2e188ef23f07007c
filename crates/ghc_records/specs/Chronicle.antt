-- Chronicles: what a save tells of a run so that all of it comes back.
use Rattle.std.specs.Prelude.{◌≡◌, ℕ, ◌+◌, ◌<◌, List, [], ◌∷◌, drop, length, map}
use Rattle.ghc_term.specs.Lists.{In}
use Rattle.ghc_records.specs.declared.predicate.Predicate.{Predicate}
use Rattle.ghc_records.specs.Numbers.{number_limit}
use Rattle.ghc_records.specs.Orders.{AreDistinct}
use Rattle.ghc_records.specs.Journal.{Step, Entry, took, undid, rolled, redid, reordered}
use Rattle.ghc_records.specs.History.{History}

-- A chronicle is what a run began with, as a history; the entries after that, in order; the spied predicates; and the next step's number.
pub record Chronicle : Type 0 where
  pub opening : History
  pub entries : List Entry
  pub spies : List Predicate
  pub next : ℕ

-- The chronicle of a run that began with this opening: the journal begins with an entry for each step of it.
abbrev pub chronicle_of : History → List Entry → List Predicate → ℕ → Chronicle
chronicle_of opening journal spies next = record { opening = opening; entries = drop (length opening.steps) journal; spies = spies; next = next }

-- At most this many entries follow an opening. With the spies, at most `spy_limit`, each line has a number of 32 bits.
abbrev pub entry_limit : ℕ
entry_limit = 4000000000

-- the greatest number of spies that a chronicle may have
abbrev pub spy_limit : ℕ
spy_limit = 100000000

-- The number of the next step after an entry, where it was n in front of it.
abbrev pub next_after : ℕ → Entry → ℕ
next_after n (took s) = n + 1
next_after n (undid k) = n
next_after n (rolled k) = n
next_after n (redid k) = n
next_after n (reordered ks) = n

-- .. and after entries
abbrev pub next_behind : ℕ → List Entry → ℕ
next_behind n [] = n
next_behind n (e ∷ es) = next_behind (next_after n e) es

-- Where n is the number of the next step, the entry can follow: a step that was taken has this number, and it is one that a step can have.
abbrev pub IsInTurn : ℕ → Entry → Type 0
IsInTurn n (took s) = (s.number ≡ n) × (n < number_limit)
IsInTurn n (undid k) = Unit {0}
IsInTurn n (rolled k) = Unit {0}
IsInTurn n (redid k) = Unit {0}
IsInTurn n (reordered ks) = Unit {0}

-- The steps that were taken are numbered from n on, one by one.
abbrev pub AreInTurn : ℕ → List Entry → Type 0
AreInTurn n [] = Unit {0}
AreInTurn n (e ∷ es) = IsInTurn n e × AreInTurn (next_after n e) es

-- No two steps have one number, and each has one below the next one.
abbrev pub AreBelow : ℕ → List Step → Type 0
AreBelow next steps = AreDistinct (map (λ s. s.number) steps) × ((s : Step) → In s steps → s.number < next)
