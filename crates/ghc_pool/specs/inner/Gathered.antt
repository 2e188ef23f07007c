-- What workers have when the passes are back.
use Rattle.std.specs.Prelude.{◌≡◌, ℕ, zero, suc, ◌+◌, ◌<◌, ◌≤◌, ◌++◌, List, [], ◌∷◌, length}
use mathlib.Core.List.{IsPrefix}
use Rattle.std.specs.Vec.{vec_len}
use Rattle.std.specs.Global.{Vec}
use Rattle.std.specs.declared.alloc.Global.{Global}
use Rattle.atomic_blocks.specs.Lent.{RowsId}
use Rattle.crossbeam_deque.specs.Handles.{worker_deque, worker_flavor, worker_view}
use Rattle.ghc_term.specs.declared.goal_name.GoalName.{GoalName}
use Rattle.ghc_pool.specs.declared.rounds.rule.Hand.{Hand}
use Rattle.ghc_pool.specs.declared.rounds.victim.Victim.{Victim}
use Rattle.ghc_pool.specs.declared.rounds.worker.Worker.{Worker}
use Rattle.ghc_pool.specs.inner.Answers.{Taken}
use Rattle.ghc_pool.specs.inner.Fair.{hand, all_parts}
use Rattle.ghc_pool.specs.inner.Workers.{Work, work_of, AreVictims, deques, IsAble, HasRoom, put_of, got_of}

-- The pass came back to the worker's deque, and nothing else changed.
pub record IsAbsorbed (old : Worker) (pass : Hand) (new : Worker) : Type 0 where
  pub own : worker_deque new.owner ≡ worker_deque old.owner
  pub flavor : worker_flavor new.owner ≡ worker_flavor old.owner
  pub known : worker_view new.owner ≡ hand ((worker_view old.owner).parts + pass.parts) ((worker_view old.owner).put ++ pass.put) ((worker_view old.owner).got ++ pass.got)
  pub rest : (new.victims ≡ old.victims) × (work_of new ≡ work_of old)

-- the deques of the workers, in their order
abbrev pub own_deques : List Worker → List (RowsId × Global)
own_deques [] = []
own_deques (w ∷ ws) = worker_deque w.owner ∷ own_deques ws

-- the victims of the workers, in their order
abbrev pub all_victims : List Worker → List (Vec Victim)
all_victims [] = []
all_victims (w ∷ ws) = w.victims ∷ all_victims ws

-- The worker can take passes back, and there is room for what its deque has.
pub record IsReady (w : Worker) : Type 0 where
  pub fifo : worker_flavor w.owner ≡ 0
  pub some_part : 0 < (worker_view w.owner).parts
  pub offers : length (worker_view w.owner).put ≤ vec_len w.offered
  pub room : HasRoom 0 w

-- Each worker can.
abbrev pub AreReady : List Worker → Type 0
AreReady [] = Unit {0}
AreReady (w ∷ ws) = IsReady w × AreReady ws

-- Each worker has so many parts of its deque.
abbrev pub HaveParts : ℕ → List Worker → Type 0
HaveParts k [] = Unit {0}
HaveParts k (w ∷ ws) = ((worker_view w.owner).parts ≡ k) × HaveParts k ws

-- The first j workers have so many parts, and the others one more.
abbrev pub HavePartsFrom : ℕ → ℕ → List Worker → Type 0
HavePartsFrom j k [] = Unit {0}
HavePartsFrom zero k (w ∷ ws) = HaveParts (suc k) (w ∷ ws)
HavePartsFrom (suc j) k (w ∷ ws) = ((worker_view w.owner).parts ≡ k) × HavePartsFrom j k ws

-- The first j workers have given back their passes, and each other has one of each of these deques.
abbrev pub HaveGivenBack : ℕ → List (RowsId × Global) → List (Vec Victim) → Type 0
HaveGivenBack j ds [] = Unit {0}
HaveGivenBack zero ds (v ∷ vs) = AreVictims v.items × (deques v.items ≡ ds) × HaveGivenBack zero ds vs
HaveGivenBack (suc j) ds (v ∷ vs) = (v.items ≡ []) × HaveGivenBack j ds vs

-- Each worker has given back its passes.
abbrev pub AreReleased : List Worker → Type 0
AreReleased [] = Unit {0}
AreReleased (w ∷ ws) = (w.victims.items ≡ []) × AreReleased ws

-- All passes of the worker's deque are back, and it has given back its own; there is room for what its deque has.
pub record IsPending (w : Worker) : Type 0 where
  pub able : IsAble w
  pub all_back : (worker_view w.owner).parts ≡ all_parts
  pub room : HasRoom (length (worker_view w.owner).got + 1) w
  pub released : w.victims.items ≡ []

-- Each is so.
abbrev pub ArePending : List Worker → Type 0
ArePending [] = Unit {0}
ArePending (w ∷ ws) = IsPending w × ArePending ws

-- All that was put into the worker's deque was got, and the worker has no passes.
pub record IsDrained (w : Worker) : Type 0 where
  pub all_got : (h : GoalName → ℕ) → put_of h w ≡ got_of h w
  pub released : w.victims.items ≡ []

-- Each is so.
abbrev pub AreDrained : List Worker → Type 0
AreDrained [] = Unit {0}
AreDrained (w ∷ ws) = IsDrained w × AreDrained ws

-- The first j are, and the others are as they were when the passes came back.
abbrev pub AreDrainedTo : ℕ → List Worker → Type 0
AreDrainedTo j [] = Unit {0}
AreDrainedTo zero (w ∷ ws) = IsPending w × AreDrainedTo zero ws
AreDrainedTo (suc j) (w ∷ ws) = IsDrained w × AreDrainedTo j ws

-- This holds of each worker and its pass, which was so at the start.
abbrev pub AreTold : {P : Type 0} → (P → List Taken → P → Type 0) → List P → List Work → List P → Type 0
AreTold tells [] [] [] = Unit {0}
AreTold tells [] [] (p ∷ ps) = ⊥
AreTold tells [] (k ∷ ks) ps = ⊥
AreTold tells (s ∷ ss) [] ps = ⊥
AreTold tells (s ∷ ss) (k ∷ ks) [] = ⊥
AreTold tells (s ∷ ss) (k ∷ ks) (p ∷ ps) = tells s k.taken.items p × AreTold tells ss ks ps

-- The first worker offered these names first.
abbrev pub FirstBegins : List GoalName → List Work → Type 0
FirstBegins names [] = ⊥
FirstBegins names (k ∷ ks) = IsPrefix names k.offered.items
