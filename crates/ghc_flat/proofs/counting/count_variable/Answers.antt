use Rattle.ghc_flat.proofs.Words.{◌≡◌, ◌+◌, arith, ap, VarName}
use Rattle.ghc_flat.proofs.Counts.{counts_other}
use Rattle.ghc_flat.proofs.counting.count_variable.Goals as goal
use Rattle.ghc_flat.proofs.counting.count_variable.Goals.{else-x-eq0-via-then-x-eq0+then-x-count+else-x-count-eq1, else-x-eq0-via-then-x-eq0+else-x-count, else-x-eq0-via-else-x-eq0}

pub returns-else-x-eq0 : goal.returns-else-x-eq0
returns-else-x-eq0 c =
    counts_other c.args.x c.args.count (λ e.
    let step : c.args.x.step ≡ 0 = ap (λ (y : VarName). y.step) e in
    let place : c.args.x.place ≡ c.args.count + 1 = ap (λ (y : VarName). y.place) e in
    elim c.else-x-eq0.branch [
      | else-x-eq0-via-then-x-eq0+then-x-count+else-x-count-eq1 w ↦ omega arith
      | else-x-eq0-via-then-x-eq0+else-x-count w ↦ omega arith
      | else-x-eq0-via-else-x-eq0 w ↦ omega arith
    ])
