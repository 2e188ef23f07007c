use Rattle.ghc_pool.proofs.Words.{◌≡◌, ◌≤◌, ◌-◌, List, length, GoalName, In, Record, IsInQuestion, Takes, CanGoOn}
use Rattle.ghc_pool.proofs.runs.stretches.Team.go_on.Given as goal

abbrev pub invariant-loop-added : goal.invariant-loop-added
invariant-loop-added g l = record {
  steps : List Record;
  taken : Takes l.self.workers l.self.spies.now l.root l.initial.core.world l.initial.core.notes steps l.core.world l.core.notes;
  count : l.added ≡ length steps;
  few : l.added ≤ l.limit;
  goes_on : CanGoOn l.self.spies.now l.root l.core.world;
  asked : (h : GoalName) → In h l.listed.items → IsInQuestion l.root l.core.world.kept h;
}

abbrev pub decreases-loop-added : goal.decreases-loop-added
decreases-loop-added g l = l.limit - l.added
