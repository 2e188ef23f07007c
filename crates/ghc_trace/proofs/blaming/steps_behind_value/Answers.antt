use Rattle.ghc_trace.proofs.blaming.steps_behind_value.Goals as goal

pub returns : goal.returns
returns c = let s = c.in_ok-steps.ensures in (s.0, s.1, s.2, s.3, λ never. never)
