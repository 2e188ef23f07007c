use Rattle.std.specs.Prelude.{IfNone, IfSome}
use Rattle.ghc_trace.proofs.Words.{◌≡◌, Some, None, Option, Bor, Goal, GoalName, In, Record, World, option_copied}
use Rattle.std.specs.FinMap as finite
use Rattle.ghc_trace.specs.inner.PartsCode.{IsTakenOrThere}
use Rattle.ghc_trace.proofs.part_lines.push_call.Goals as goal

taken_or_there : (w : World) (g : GoalName) (b : Goal) (o : Option (Bor Record)) → IfSome o (λ r. In r.now w.kept × (r.now.goal ≡ Some g) × (r.now.consumed ≡ Some b)) → IfNone o (finite.get w.state.goals g ≡ Some b)
    → IsTakenOrThere w g b (option_copied o)
taken_or_there w g b None taken there = there
taken_or_there w g b (Some r) taken there = taken

pub write_call-requires-clause-taken : goal.write_call-requires-clause-taken
write_call-requires-clause-taken c = taken_or_there c.args.core.now.world c.args.name c.args.goal.now c.args.taker c.requires.taken c.requires.there
