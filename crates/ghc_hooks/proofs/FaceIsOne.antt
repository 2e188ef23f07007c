-- A state has one face.
use Rattle.ghc_hooks.proofs.Words.{◌≡◌, refl, sym, ◌∙◌, ◌↔◌, Option, Some, None, IsTrue, GoalName, goal_total, goal_antisymmetric, GoalNames, FaceIsOne, agree}
use Rattle.std.specs.FinMap as finite
use Rattle.std.specs.FinSet as set
use Rattle.ghc_hooks.proofs.Few.{same_goals}
use Rattle.ghc_hooks.proofs.NotedFaces.{through, turned}
use Rattle.ghc_hooks.proofs.Pairs.{clause_total, clause_antisymmetric, hook_total, hook_antisymmetric}

-- what has the same values is the same
same_value : {A : Type 0} (o p : Option A) → ((a : A) → (o ≡ Some a) ↔ (p ≡ Some a)) → o ≡ p
same_value None None h = refl
same_value None (Some a) h = (h a).1 refl
same_value (Some a) p h = sym ((h a).0 refl)

same_pool : {Has : GoalName → Type 0} (one other : GoalNames) → ((g : GoalName) → IsTrue (set.contains one g) ↔ Has g) → ((g : GoalName) → IsTrue (set.contains other g) ↔ Has g) → one ≡ other
same_pool one other a b = same_goals one other (λ g. through (a g) (turned (b g)))

pub face_once : FaceIsOne
face_once P G s one other a b =
    let goals = a.same_goals ∙ sym b.same_goals in
    let store = a.same_store ∙ sym b.same_store in
    let outcomes = finite.same_map clause_total clause_antisymmetric one.outcomes other.outcomes (λ q. same_value _ _ (λ o. through (a.outcomes q.0 q.1 o) (turned (b.outcomes q.0 q.1 o)))) in
    let statuses = finite.same_map goal_total goal_antisymmetric one.statuses other.statuses (λ g. same_value _ _ (λ t. through (a.statuses g t) (turned (b.statuses g t)))) in
    let hooks = set.same_set hook_total hook_antisymmetric one.hooks other.hooks (λ q. let both = through (a.hooks q.0 q.1) (turned (b.hooks q.0 q.1)) in agree _ _ both.0 both.1) in
    let ready = same_pool one.ready other.ready a.ready_pool b.ready_pool in
    let waiting = same_pool one.waiting other.waiting a.waiting_pool b.waiting_pool in
    let failed = same_pool one.failed other.failed a.failed_pool b.failed_pool in
    let streams = same_pool one.streams other.streams a.streams b.streams in
    λ i. record {
      goals = goals i;
      store = store i;
      outcomes = outcomes i;
      statuses = statuses i;
      hooks = hooks i;
      ready = ready i;
      waiting = waiting i;
      failed = failed i;
      streams = streams i;
    }
