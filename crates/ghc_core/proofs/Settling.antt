-- Goals are tried and noted one after another.
use Rattle.ghc_core.proofs.Words.{◌≡◌, ℕ, ◌+◌, List, false, ap, arith, Some, None, IsTrue, GoalName, Goal, StoreValue, value_at, Program, is_stream, Goals, tried, Meter, goal_total, goal_antisymmetric, GoalNames, Note, NotesByGoal, IsExact, AreExact, goal_itself, goal_cases, one_less, goal_taken, put_here, put_elsewhere, World, IsConsistent, AreExactIn, tells, IsNoteOf, AreKept, IsNoted, AreNoted, tried_often, by_option}
use Rattle.std.specs.FinMap as finite
use Rattle.std.specs.FinSet as set

module _ (m : NotesByGoal) (g : GoalName) (n : Note) where
  -- a note that is there is put again in vain
  pub put_again : finite.get m g ≡ Some n → m ≡ finite.insert m g n
  put_again there =
      finite.same_map goal_total goal_antisymmetric m (finite.insert m g n) (λ h. grind (arith, goal_cases h g, put_here m g n, put_elsewhere m g n h))

  -- one that is put where there was none takes the place of none
  pub kept_put : finite.get m g ≡ None → AreKept m (finite.insert m g n)
  kept_put none h k there = grind (arith, goal_cases h g, put_elsewhere m g n h)

module _ {P : Program} {G : Goals} {S : StoreValue} {m : NotesByGoal} {u : GoalNames} (exact : AreExact P G S m u) (g : GoalName) (b : Goal) (there : finite.get G g ≡ Some b) (not : is_stream b ≡ false) where
  -- notes stay exact where an untried goal gets the note of its trial
  pub noted_exact : (n : Note) → IsExact P (value_at S) b n → AreExact P G S (finite.insert m g n) (set.remove u g)
  noted_exact n is = record {
    noted = λ h k at. grind (arith, goal_cases h g, put_here m g n, put_elsewhere m g n h, exact.noted h k);
    marked = λ h. grind (arith, goal_cases h g, put_here m g n, put_elsewhere m g n h, goal_taken u g h, exact.marked h, goal_itself g);
  }

  -- a goal that can be tried and is not untried has a note
  pub has_note : ¬ IsTrue (set.contains u g) → (n : Note) × (finite.get m g ≡ Some n)
  has_note tried = by_option (finite.get m g) (λ e. absurd (tried ((exact.marked g).1 (b, there, not, e)))) (λ n e. (n, e))

-- a goal that can be tried and has a note keeps it, and one that was untried has the note of its trial
pub noted_before : (w : World) (m : NotesByGoal) (u : GoalNames) (g : GoalName) (n : Note) → AreExactIn w m u → IsNoteOf w g n → ¬ IsTrue (set.contains u g) → IsNoted w g m m
noted_before w m u g n exact q tried =
    let had = has_note exact g q.0 q.1.0 q.1.1 tried in
    let is = exact.noted g had.0 had.1 in
    record { note = had.0; told = tells (is.0, is.1, is.2, is.3.0); put = put_again m g had.0 had.1 }

pub noted_now : (w : World) (m new : NotesByGoal) (g : GoalName) (n : Note) → IsNoteOf w g n → new ≡ finite.insert m g n → IsNoted w g m new
noted_now w m new g n q put = record { note = n; told = tells (q.0, q.1.0, q.1.1, q.2.0); put = put }

pub consistent_now : (w : World) (m new : NotesByGoal) (u left : GoalNames) (names : List GoalName) (g : GoalName) (n : Note) → IsConsistent w m u names → IsNoteOf w g n → new ≡ finite.insert m g n → left ≡ set.remove u g
    → IsConsistent w new left names
consistent_now w m new u left names g n c q put taken =
    rw (put, taken) (record { standing = c.standing; exact = noted_exact c.exact g q.0 q.1.0 q.1.1 n q.2; streams = c.streams })

-- counts of tries
abbrev counted : Meter → ℕ → Meter
counted m t = record { firings = m.firings; tries = t }

pub tried_more : (k : ℕ) (m : Meter) → tried (tried_often k m) ≡ tried_often (k + 1) m
tried_more k m = ap (counted m) (omega arith)

-- one more was
pub one_noted : {k : ℕ} {old now new : NotesByGoal} {u left : GoalNames} (g : GoalName) → AreNoted k old u now left → IsTrue (set.contains left g) → AreKept now new → AreNoted (k + 1) old u new (set.remove left g)
one_noted {left = left} g before there kept = record {
  kept = λ h n at. kept h n (before.kept h n at);
  fewer = let was = before.fewer in let less = one_less left g there in omega (arith, was, less);
}
