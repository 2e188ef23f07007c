-- What the workers of a round have and did.
use Rattle.std.specs.Prelude.{◌≡◌, ◌⊎◌, ℕ, ◌+◌, ◌<◌, ◌≤◌, ◌++◌, List, [], ◌∷◌, length, Some}
use mathlib.Core.List.{IsPrefix}
use Rattle.std.specs.Vec.{vec_capacity, vec_len}
use Rattle.std.specs.declared.alloc.Global.{Global}
use Rattle.atomic_blocks.specs.Lent.{RowsId}
use Rattle.crossbeam_deque.specs.declared.steal.Steal.{Steal}
use Rattle.crossbeam_deque.specs.Steals.{MatchSteal}
use Rattle.crossbeam_deque.specs.Handles.{worker_deque, worker_flavor, worker_view, stealer_deque, stealer_flavor, view, IsPassOf}
use Rattle.ghc_term.specs.declared.goal_name.GoalName.{GoalName}
use Rattle.ghc_pool.specs.declared.answer.RoundStop.{RoundStop}
pub use Rattle.ghc_pool.specs.declared.answer.Work.{Work}
use Rattle.ghc_pool.specs.declared.rounds.victim.Victim.{Victim}
use Rattle.ghc_pool.specs.declared.rounds.worker.Worker.{Worker}
use Rattle.ghc_pool.specs.declared.rounds.worker.Found.{Found}
use Rattle.ghc_pool.specs.declared.rounds.worker.Found.TheVariants.{Name as name, Again as again, Nothing as nothing}
use Rattle.ghc_pool.specs.inner.Answers.{Taken, submits_in}
use Rattle.ghc_pool.specs.inner.Fair.{weigh}

-- what a worker did
abbrev pub work_of : Worker → Work
work_of w = record { offered = w.offered; taken = w.taken; left = w.left; stop = w.stop }

-- what each worker did, in the order of the workers
abbrev pub works : List Worker → List Work
works [] = []
works (w ∷ ws) = work_of w ∷ works ws

-- The worker has a pass of one part there, and offered nothing.
abbrev pub IsVictim : Victim → Type 0
IsVictim v = (stealer_flavor v.thief ≡ 0) × IsPassOf (stealer_deque v.thief) v.pass × ((view v.pass).parts ≡ 1) × ((view v.pass).put ≡ [])

-- Each is so.
abbrev pub AreVictims : List Victim → Type 0
AreVictims [] = Unit {0}
AreVictims (v ∷ vs) = IsVictim v × AreVictims vs

-- the deques, in their order
abbrev pub deques : List Victim → List (RowsId × Global)
deques [] = []
deques (v ∷ vs) = stealer_deque v.thief ∷ deques vs

-- what was stolen, weighed
abbrev pub stolen : (GoalName → ℕ) → List Victim → ℕ
stolen h [] = 0
stolen h (v ∷ vs) = weigh h (view v.pass).got + stolen h vs

-- what a steal leaves
abbrev pub WasStolen : Victim → Steal GoalName → Victim → Type 0
WasStolen v result w =
    IsVictim w × (stealer_deque w.thief ≡ stealer_deque v.thief)
    × MatchSteal result ((view w.pass).got ≡ (view v.pass).got) ((view w.pass).got ≡ (view v.pass).got) (λ x. (view w.pass).got ≡ (view v.pass).got ++ x ∷ [])

-- the names that were taken, without their answers
abbrev pub names : List Taken → List GoalName
names [] = []
names (x ∷ xs) = x.0 ∷ names xs

-- how many submits the answers tell of
abbrev pub submits : List Taken → ℕ
submits [] = 0
submits (x ∷ xs) = submits_in x.1 + submits xs

-- what came to the worker, weighed: what it offered, and what it got out of its deque and the others'
abbrev pub in_of : (GoalName → ℕ) → Worker → ℕ
in_of h w = weigh h w.offered.items + (weigh h (worker_view w.owner).got + stolen h w.victims.items)

-- what became of that, weighed: what it put into its deque, took and left
abbrev pub out_of : (GoalName → ℕ) → Worker → ℕ
out_of h w = weigh h (worker_view w.owner).put + (weigh h (names w.taken.items) + weigh h w.left.items)

-- The worker's handles are as they should be, and it put no more into its deque than it offered.
pub record IsAble (w : Worker) : Type 0 where
  pub fifo : worker_flavor w.owner ≡ 0
  pub some_part : 0 < (worker_view w.owner).parts
  pub others : AreVictims w.victims.items
  pub offers : length (worker_view w.owner).put ≤ vec_len w.offered

-- There is room to leave all that the worker put into its deque, but for so many names, and one more.
abbrev pub HasRoom : ℕ → Worker → Type 0
HasRoom but w = vec_len w.left + (length (worker_view w.owner).put + 1) ≤ vec_capacity w.left + but

-- There is room for so many answers.
abbrev pub HasRoomToAnswer : ℕ → Worker → Type 0
HasRoomToAnswer n w = vec_len w.taken + n ≤ vec_capacity w.taken

-- There is room to offer so many names, and to leave them.
abbrev pub HasRoomToOffer : ℕ → Worker → Type 0
HasRoomToOffer n w = (vec_len w.offered + n ≤ vec_capacity w.offered) × (vec_len w.left + (length (worker_view w.owner).put + (n + 1)) ≤ vec_capacity w.left)

-- There may be more room to offer and to leave names, and nothing else changed.
pub record IsRoomier (old new : Worker) : Type 0 where
  pub owner : new.owner ≡ old.owner
  pub victims : new.victims ≡ old.victims
  pub offered : new.offered.items ≡ old.offered.items
  pub taken : new.taken ≡ old.taken
  pub left : new.left.items ≡ old.left.items
  pub more : vec_capacity old.left ≤ vec_capacity new.left
  pub stop : new.stop ≡ old.stop

-- The room to leave names stays.
abbrev pub KeepsRoom : Worker → Worker → Type 0
KeepsRoom old new = (but : ℕ) → HasRoom but old → HasRoom but new

-- The worker went from names in hand to names in hand, and lost none and made none up. However names are weighed, what came to it is what became of it and what is in hand, as before. It has the same deque, as many parts of it, and the same victims, and goes on with what it offered.
pub record Keeps (before after : List GoalName) (old new : Worker) : Type 0 where
  pub able : IsAble new
  pub balance : (h : GoalName → ℕ) → in_of h new + (out_of h old + weigh h before) ≡ in_of h old + (out_of h new + weigh h after)
  pub own : worker_deque new.owner ≡ worker_deque old.owner
  pub parts : (worker_view new.owner).parts ≡ (worker_view old.owner).parts
  pub others : deques new.victims.items ≡ deques old.victims.items
  pub begins : IsPrefix old.offered.items new.offered.items

-- The worker answered nothing, left nothing, and offered nothing; it may have more room for answers.
pub record DidNothing (old new : Worker) : Type 0 where
  pub offered : new.offered ≡ old.offered
  pub taken : new.taken.items ≡ old.taken.items
  pub more : vec_capacity old.taken ≤ vec_capacity new.taken
  pub left : new.left ≡ old.left
  pub stop : new.stop ≡ old.stop
  pub put : (worker_view new.owner).put ≡ (worker_view old.owner).put

-- Nothing was left and nothing stopped the worker; or it stopped for memory.
abbrev pub IsOfferedOrStopped : Worker → Worker → Type 0
IsOfferedOrStopped old new = ((new.left.items ≡ old.left.items) × (new.stop ≡ old.stop)) ⊎ (new.stop ≡ Some RoundStop.Memory)

-- what a look for a name leaves
abbrev pub IsFound : Found → Worker → Worker → Type 0
IsFound (name x) old new = Keeps [] (x ∷ []) old new
IsFound again old new = Keeps [] [] old new
IsFound nothing old new = Keeps [] [] old new

-- what workers did together, weighed
abbrev pub over : (Worker → ℕ) → List Worker → ℕ
over f [] = 0
over f (w ∷ ws) = f w + over f ws

-- the names that the worker put into its own deque, weighed
abbrev pub put_of : (GoalName → ℕ) → Worker → ℕ
put_of h w = weigh h (worker_view w.owner).put

-- the names that the worker got out of its own deque, weighed
abbrev pub got_of : (GoalName → ℕ) → Worker → ℕ
got_of h w = weigh h (worker_view w.owner).got

-- the names that the worker stole from the others' deques, weighed
abbrev pub stolen_of : (GoalName → ℕ) → Worker → ℕ
stolen_of h w = stolen h w.victims.items

-- how many submits the worker's answers tell of
abbrev pub submits_of : Worker → ℕ
submits_of w = submits w.taken.items

-- the same, of what they did alone
abbrev pub total_work : (Work → ℕ) → List Work → ℕ
total_work f [] = 0
total_work f (k ∷ ks) = f k + total_work f ks

-- the names that a worker offered, weighed
abbrev pub offered_in : (GoalName → ℕ) → Work → ℕ
offered_in h k = weigh h k.offered.items

-- the names that a worker took and answered, weighed
abbrev pub taken_in : (GoalName → ℕ) → Work → ℕ
taken_in h k = weigh h (names k.taken.items)

-- the names that a worker left, weighed
abbrev pub left_in : (GoalName → ℕ) → Work → ℕ
left_in h k = weigh h k.left.items

-- how many submits the answers to a worker's names tell of
abbrev pub submits_by : Work → ℕ
submits_by k = submits k.taken.items

-- However names are weighed, what was offered is what was taken and what was left.
abbrev pub AreSettled : List Work → Type 0
AreSettled ks = (h : GoalName → ℕ) → total_work (offered_in h) ks ≡ total_work (taken_in h) ks + total_work (left_in h) ks
