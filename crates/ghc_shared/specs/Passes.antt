-- What contracts see of a pass, and what is kept of passes and of the keeper's seat.
use Rattle.std.specs.Prelude.{◌≡◌, ℕ, zero, suc, ◌++◌, ◌+◌, ◌<◌, ◌≤◌, Bool, true, false, List, [], ◌∷◌, length, drop}
use Rattle.atomic_table.specs.Table.{Me}
use Rattle.ghc_fire.specs.Meter.{one_more}
use Rattle.ghc_shared.specs.declared.knowledge.Knowledge.{Knowledge}
use Rattle.ghc_shared.specs.inner.Logs.{items_of, AllBy, ArePlacesBy}
use Rattle.ghc_shared.specs.Rule.{keeper, front}

-- a pass: its number, the front of the history that it has seen, the places of its accepted calls, and how many submits it has made, accepted or not
pub record Known (E : Type 0) : Type 0 where
  pub number : ℕ
  pub front : List E
  pub places : List ℕ
  pub submits : ℕ

-- the count of submits after a call, which is a submit or not: one more, up to the greatest count, or the same
abbrev pub submits_after : Bool → ℕ → ℕ
submits_after true n = one_more n
submits_after false n = n

module _ {E : Type 0} where
  -- the passes at the opening
  abbrev pub newcomers : List E → ℕ → List (Known E)
  newcomers history zero = []
  newcomers history (suc n) = newcomers history n ++ record { number = n; front = history; places = []; submits = 0 } ∷ []

  -- AreAll passes k ps: these are the passes from number k on, of so many passes, each once and in order.
  abbrev pub AreAll : ℕ → ℕ → List (Known E) → Type 0
  AreAll passes k [] = k ≡ passes
  AreAll passes k (p ∷ ps) = (p.number ≡ k) × AreAll passes (suc k) ps

  -- A pass with this number and these places has such a seat, and this part and amount of the ledger. At the opening the history had `base` items, and there are so many passes.
  pub record IsPass {S : Type 0} (base passes : ℕ) (legal : List E → Type 0) (number : ℕ) (places : List ℕ) (me : Me S (Knowledge E)) (parts amount : ℕ) : Type 0 where
    pub seated : me ≡ (front me.0.seen, [])
    pub lawful : legal (items_of me.0.seen)
    pub opened : base ≤ length me.0.seen
    pub rising : ArePlacesBy number base (drop base me.0.seen) places
    pub numbered : number < passes
    pub one_part : parts ≡ 1
    pub counted : amount ≡ length places

  -- The keeper's seat knows this history, with the pass of each item since the opening, and the book has counted so many, one for each of them.
  pub record IsKeeper {S : Type 0} (base passes : ℕ) (history : List E) (me : Me S (Knowledge E)) (total : ℕ) : Type 0 where
    pub seated : me ≡ (keeper me.0.seen, [])
    pub same : items_of me.0.seen ≡ history
    pub made_by : AllBy passes (drop base me.0.seen)
    pub counted : total + base ≡ length me.0.seen
