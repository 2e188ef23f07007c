-- Steps of runs, one after another.
use Rattle.ghc_pool.proofs.Words.{ℕ, inl, inr, List, [], ◌∷◌, ◌++◌, refl, sym, subst, arith, append_assoc, append-nil, None, Option, GoalName, Record, ◌≡◌, Binds, NotesByGoal, AreLeft, World, IsFull, HasRoom, with_step, IsStanding, IsStepOf, AreKept, Spies, IsInQuestion, IsSpiedIn, HasMetNoFailure, HasStepped, IsRunStep, Takes, at_start, and_tries, and_step}

-- steps after steps
pub takes_more : (workers : ℕ) (spies : Spies) (root : Option GoalName) (w v : World) (a b : NotesByGoal) (first : List Record) (u : World) (c : NotesByGoal) (more : List Record) → Takes workers spies root w a first v b → Takes workers spies root v b more u c
    → Takes workers spies root w a (first ++ more) u c
takes_more workers spies root w v a b first u c more t at_start = subst (λ l. Takes workers spies root w a l v b) (sym (append-nil first)) t
takes_more workers spies root w v a b first u c more t (and_tries {notes = m} tried s kept) = and_tries tried (takes_more workers spies root w v a b first u m more t s) kept
takes_more workers spies root w v a b first u c more t (and_step {steps = front} {v = x} {notes = m} r left s step spared) =
    subst (λ l. Takes workers spies root w a l (with_step r x) left) (append_assoc first front (r ∷ [])) (and_step r left (takes_more workers spies root w v a b first x m front t s) step spared)

-- a step after steps
pub takes_one : (spies : Spies) (root : Option GoalName) (w v u : World) (a b c : NotesByGoal) (first : List Record) (r : Record) → Takes 1 spies root w a first v b → HasStepped spies root v b r u c
    → Takes 1 spies root w a (first ++ r ∷ []) u c
takes_one spies root w v u a b c first r t s =
    subst (λ (x : World). Takes 1 spies root w a (first ++ r ∷ []) x c) (sym s.world)
    (and_step r c (and_tries s.notes t (λ _. s.tried)) s.step (λ _. subst (λ (x : World). AreLeft x.state.goals (Binds r) s.notes c) s.world s.left))

-- tries after steps
pub takes_tried : (workers : ℕ) (spies : Spies) (root : Option GoalName) (w v u : World) (a b c : NotesByGoal) (steps : List Record) → Takes workers spies root w a steps v b → u ≡ v → AreKept b c
    → Takes workers spies root w a steps u c
takes_tried workers spies root w v u a b c steps t same kept = subst (λ (x : World). Takes workers spies root w a steps x c) (sym same) (and_tries c t (λ _. kept))

-- a step of one worker: it is proposed in the very world
pub step_of_one : (spies : Spies) (root : Option GoalName) (w : World) (notes : NotesByGoal) (g : GoalName) (r : Record) → IsStanding w → IsStepOf w g None r → IsInQuestion root w.kept g → ¬ IsSpiedIn spies w g
    → HasMetNoFailure root w.kept notes → IsRunStep 1 spies root w notes r
step_of_one spies root w notes g r stands s asked unspied unmet =
    record { goal = g; taken = (s.0, (w, stands, refl, (s.1, s.2)), s.3); alone = λ _. s; asked = asked; unspied = unspied; unfailed = λ _. unmet }

-- a step of one worker is one of several
step_of_more : (workers : ℕ) (spies : Spies) (root : Option GoalName) (w : World) (notes : NotesByGoal) (r : Record) → IsRunStep 1 spies root w notes r → IsRunStep workers spies root w notes r
step_of_more workers spies root w notes r s =
    record { goal = s.goal; taken = s.taken; alone = λ _. s.alone refl; asked = s.asked; unspied = s.unspied; unfailed = λ _. s.unfailed refl }

-- what one worker takes several may take
pub more_workers : (workers : ℕ) (spies : Spies) (root : Option GoalName) (w : World) (a : NotesByGoal) (v : World) (b : NotesByGoal) (steps : List Record) → Takes 1 spies root w a steps v b → Takes workers spies root w a steps v b
more_workers workers spies root w a v b steps at_start = at_start
more_workers workers spies root w a v b steps (and_tries {notes = m} tried s kept) = and_tries tried (more_workers workers spies root w a v m steps s) (λ _. kept refl)
more_workers workers spies root w a v b steps (and_step {steps = front} {v = x} {notes = m} r left s step spared) =
    and_step r left (more_workers workers spies root w a x m front s) (step_of_more workers spies root x m r step) (λ _. spared refl)
