-- Why workers stop.
use Rattle.std.specs.Prelude.{◌≡◌, ◌⊎◌, ℕ, Bool, true, List, [], ◌∷◌, Option, Some, None}
use Rattle.ghc_pool.specs.declared.answer.RoundStop.{RoundStop}
use Rattle.ghc_pool.specs.declared.answer.RoundStop.TheVariants.{Memory, Limit, Full, Spied, Clash}
use Rattle.ghc_pool.specs.inner.Answers.{Taken, IsReason}
use Rattle.ghc_pool.specs.inner.Workers.{Work}

-- the stop for memory, if it is one of the two; else the first, if there is one, and else the second
abbrev pub joined : Option RoundStop → Option RoundStop → Option RoundStop
joined None second = second
joined (Some s) None = Some s
joined (Some s) (Some Memory) = Some RoundStop.Memory
joined (Some s) (Some Limit) = Some s
joined (Some s) (Some Full) = Some s
joined (Some s) (Some (Spied g)) = Some s
joined (Some s) (Some (Clash g)) = Some s

-- Steps are taken; of the permits that were given none is spare, and none is left to give.
abbrev pub IsSpent : Bool → ℕ → ℕ → Type 0
IsSpent takes spare left = (takes ≡ true) × (spare ≡ 0) × (left ≡ 0)

module _ (fed : List Taken → Type 0) (asks : List Taken → RoundStop → Type 0) where
  -- What stopped the worker, if something did, is a reason, and else it left nothing.
  pub record IsWell (w : Work) : Type 0 where
    pub reason : IsReason fed asks w.stop w.taken.items
    pub left : w.stop ≡ None → w.left.items ≡ []

  -- Nothing stopped the worker, and it left nothing; memory was refused for none of the names that it took.
  abbrev pub IsOpen : Work → Type 0
  IsOpen w = (w.stop ≡ None) × (w.left.items ≡ []) × fed w.taken.items

  -- Where there is no reason to stop so far, nothing stopped the worker.
  abbrev pub GoesOn : Option RoundStop → Work → Type 0
  GoesOn None w = IsOpen w
  GoesOn (Some s) w = Unit {0}

  -- The reason to stop, or that there is none, fits what the worker did.
  abbrev pub IsJudged : Type 0 → Option RoundStop → Work → Type 0
  IsJudged spent None w = IsOpen w
  IsJudged spent (Some Memory) w = Unit {0}
  IsJudged spent (Some Limit) w = fed w.taken.items × spent
  IsJudged spent (Some Full) w = fed w.taken.items × asks w.taken.items RoundStop.Full
  IsJudged spent (Some (Spied g)) w = fed w.taken.items × asks w.taken.items (RoundStop.Spied g)
  IsJudged spent (Some (Clash g)) w = fed w.taken.items × asks w.taken.items (RoundStop.Clash g)

  -- A worker went on, where there was no reason to stop, up to one or to none; where there was one, it took no name and used no permit.
  abbrev pub WentOn : {Q : Type 0} → Type 0 → Option RoundStop → Option RoundStop → Work → Work → Q → Q → Type 0
  WentOn spent None result old new before after = IsJudged spent result new
  WentOn spent (Some s) result old new before after = (result ≡ Some s) × (new.taken.items ≡ old.taken.items) × (after ≡ before)

  -- Each is so.
  abbrev pub AreWell : List Work → Type 0
  AreWell [] = Unit {0}
  AreWell (w ∷ ws) = IsWell w × AreWell ws

  abbrev pub AreOpen : List Work → Type 0
  AreOpen [] = Unit {0}
  AreOpen (w ∷ ws) = IsOpen w × AreOpen ws

  abbrev pub AreFed : List Work → Type 0
  AreFed [] = Unit {0}
  AreFed (w ∷ ws) = fed w.taken.items × AreFed ws

  -- One of the workers took a name that asks for this.
  abbrev pub OneAsks : RoundStop → List Work → Type 0
  OneAsks s [] = ⊥
  OneAsks s (w ∷ ws) = asks w.taken.items s ⊎ OneAsks s ws

  -- The reason to stop of all workers, or that there is none: it is memory wherever memory was refused for a name.
  abbrev pub AreJudged : Type 0 → Option RoundStop → List Work → Type 0
  AreJudged spent None ws = AreOpen ws
  AreJudged spent (Some Memory) ws = Unit {0}
  AreJudged spent (Some Limit) ws = AreFed ws × spent
  AreJudged spent (Some Full) ws = AreFed ws × OneAsks RoundStop.Full ws
  AreJudged spent (Some (Spied g)) ws = AreFed ws × OneAsks (RoundStop.Spied g) ws
  AreJudged spent (Some (Clash g)) ws = AreFed ws × OneAsks (RoundStop.Clash g) ws
