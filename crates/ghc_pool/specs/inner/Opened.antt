-- What workers begin with.
use Rattle.std.specs.Prelude.{◌≡◌, ◌⊎◌, ℕ, zero, suc, ◌+◌, ◌≤◌, List, [], ◌∷◌, Some, None}
use Rattle.std.specs.Global.{Vec}
use Rattle.std.specs.declared.alloc.Global.{Global}
use Rattle.atomic_blocks.specs.Lent.{RowsId}
use Rattle.crossbeam_deque.specs.declared.handles.Worker.{Worker as Deque}
use Rattle.crossbeam_deque.specs.Handles.{worker_deque, worker_flavor, worker_view}
use Rattle.ghc_term.specs.declared.goal_name.GoalName.{GoalName}
use Rattle.ghc_pool.specs.declared.answer.RoundStop.{RoundStop}
use Rattle.ghc_pool.specs.declared.rounds.rule.Hand.{Hand}
use Rattle.ghc_pool.specs.declared.rounds.rule.Fair.{Fair}
use Rattle.ghc_pool.specs.declared.rounds.victim.Victim.{Victim}
use Rattle.ghc_pool.specs.declared.rounds.worker.Worker.{Worker}
use Rattle.ghc_pool.specs.declared.rounds.working.Job.{Job}
use Rattle.ghc_pool.specs.inner.Answers.{Taken}
use Rattle.ghc_pool.specs.inner.Fair.{hand, most_permits}
use Rattle.ghc_pool.specs.inner.Workers.{work_of, AreVictims, deques, stolen, submits, IsAble, HasRoom, Keeps, KeepsRoom, in_of, out_of}
use Rattle.ghc_pool.specs.inner.Stops.{IsWell}

-- the owner's side of a deque
abbrev pub Owner : Type 0
Owner = Deque GoalName Global Hand Fair

-- Nothing was put into the deque, of which the owner has so many parts.
abbrev pub IsFresh : ℕ → Owner → Type 0
IsFresh k o = (worker_flavor o ≡ 0) × (worker_view o ≡ hand k [] [])

-- Each is so.
abbrev pub AreFresh : ℕ → List Owner → Type 0
AreFresh k [] = Unit {0}
AreFresh k (o ∷ os) = IsFresh k o × AreFresh k os

-- The first j are so, and of the others the owner has one part more.
abbrev pub AreFreshFrom : ℕ → ℕ → List Owner → Type 0
AreFreshFrom j k [] = Unit {0}
AreFreshFrom zero k (o ∷ os) = AreFresh (suc k) (o ∷ os)
AreFreshFrom (suc j) k (o ∷ os) = IsFresh k o × AreFreshFrom j k os

-- the deques, in their order
abbrev pub deques_of : List Owner → List (RowsId × Global)
deques_of [] = []
deques_of (o ∷ os) = worker_deque o ∷ deques_of os

-- A pass of each of these deques, in their order, with which nothing was stolen.
pub record IsHandful (ds : List (RowsId × Global)) (vs : List Victim) : Type 0 where
  pub each : AreVictims vs
  pub those : deques vs ≡ ds
  pub none : (h : GoalName → ℕ) → stolen h vs ≡ 0

-- Each is so.
abbrev pub AreHandfuls : List (RowsId × Global) → List (Vec Victim) → Type 0
AreHandfuls ds [] = Unit {0}
AreHandfuls ds (v ∷ vs) = IsHandful ds v.items × AreHandfuls ds vs

-- A worker that took nothing so far, with so many parts of its deque, a pass of each of these deques, and room; it left nothing, or stopped for memory.
pub record IsStarting (k : ℕ) (ds : List (RowsId × Global)) (w : Worker) : Type 0 where
  pub able : IsAble w
  pub balanced : (h : GoalName → ℕ) → in_of h w ≡ out_of h w
  pub room : HasRoom 0 w
  pub parts : (worker_view w.owner).parts ≡ k
  pub others : deques w.victims.items ≡ ds
  pub taken : w.taken.items ≡ []
  pub stop : ((w.stop ≡ None) × (w.left.items ≡ [])) ⊎ (w.stop ≡ Some RoundStop.Memory)

-- Each is so.
abbrev pub AreStarting : ℕ → List (RowsId × Global) → List Worker → Type 0
AreStarting k ds [] = Unit {0}
AreStarting k ds (w ∷ ws) = IsStarting k ds w × AreStarting k ds ws

-- Each is so, and offered nothing.
abbrev pub AreNew : ℕ → List (RowsId × Global) → List Worker → Type 0
AreNew k ds [] = Unit {0}
AreNew k ds (w ∷ ws) = IsStarting k ds w × (w.offered.items ≡ []) × AreNew k ds ws

-- The worker has one part of the budget, in which its submits are counted, and the permits that it has not used, no more than are given at once.
pub record IsCounted {P L : Type 0} (j : Job P L) : Type 0 where
  pub part : j.share.parts ≡ 1
  pub counted : j.share.amount ≡ submits j.worker.taken.items + j.spare
  pub few : j.spare ≤ most_permits

-- Each is so.
abbrev pub AreCounted : {P L : Type 0} → List (Job P L) → Type 0
AreCounted [] = Unit {0}
AreCounted (j ∷ js) = IsCounted j × AreCounted js

module _ {P L : Type 0} (fed : List Taken → Type 0) (asks : List Taken → RoundStop → Type 0) where
  -- The worker can work.
  abbrev pub Works : Job P L → Type 0
  Works j = IsAble j.worker × IsWell fed asks (work_of j.worker) × IsCounted j

  module _ (tells : P → List Taken → P → Type 0) where
    -- The worker worked, and went from names in hand to names in hand.
    pub record HasGone (before after : List GoalName) (old new : Job P L) : Type 0 where
      pub keeps : Keeps before after old.worker new.worker
      pub room : KeepsRoom old.worker new.worker
      pub works : Works new
      pub told : (start : P) → tells start old.worker.taken.items old.pass → tells start new.worker.taken.items new.pass

    -- The worker worked, and no name is in its hand, before or after.
    abbrev pub HasWorked : Job P L → Job P L → Type 0
    HasWorked = HasGone [] []

    -- A worker with no name in hand, which has so many parts of its deque and a pass of each of these deques; its pass was so at the start.
    pub record IsJob (k : ℕ) (ds : List (RowsId × Global)) (start : P) (j : Job P L) : Type 0 where
      pub works : Works j
      pub balanced : (h : GoalName → ℕ) → in_of h j.worker ≡ out_of h j.worker
      pub room : HasRoom 0 j.worker
      pub parts : (worker_view j.worker.owner).parts ≡ k
      pub others : deques j.worker.victims.items ≡ ds
      pub told : tells start j.worker.taken.items j.pass

    -- Each is so.
    abbrev pub AreJobs : ℕ → List (RowsId × Global) → List P → List (Job P L) → Type 0
    AreJobs k ds [] [] = Unit {0}
    AreJobs k ds [] (j ∷ js) = ⊥
    AreJobs k ds (s ∷ ss) [] = ⊥
    AreJobs k ds (s ∷ ss) (j ∷ js) = IsJob k ds s j × AreJobs k ds ss js

-- the workers of the jobs
abbrev pub workers_in : {P L : Type 0} → List (Job P L) → List Worker
workers_in [] = []
workers_in (j ∷ js) = j.worker ∷ workers_in js

-- the passes of the jobs
abbrev pub passes_in : {P L : Type 0} → List (Job P L) → List P
passes_in [] = []
passes_in (j ∷ js) = j.pass ∷ passes_in js
