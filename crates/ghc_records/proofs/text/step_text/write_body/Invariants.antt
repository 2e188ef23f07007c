use Rattle.ghc_records.proofs.Words.{◌≡◌, ◌++◌, map, drop, string_bytes, codes, StartsWith, goal_text, body_text}
use denote.Text.{Utf8}
use denote.Shadow.{shadow}
use Rattle.ghc_records.proofs.Listing.{led}
use Rattle.ghc_records.proofs.text.step_text.write_body.Given as goal

abbrev pub invariant-loop-goal : goal.invariant-loop-goal
invariant-loop-goal l =
    shadow (Utf8 l.mark)
    × (string_bytes l.out ++ led (codes ", ") l.mark (map goal_text (drop l.goal-index l.goals)) ≡ string_bytes l.fn.out ++ body_text l.goals)
    × StartsWith (string_bytes l.out) (string_bytes l.fn.out)
