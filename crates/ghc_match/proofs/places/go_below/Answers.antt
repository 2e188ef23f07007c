use Rattle.ghc_match.proofs.Words.{◌++◌, ap, ◌∙◌, ahead_in, ahead_of}
use Rattle.ghc_match.proofs.Ahead.{ahead_push}
use Rattle.ghc_match.proofs.places.go_below.Goals as goal

pub returns-in_ok-let_wait : goal.returns-in_ok-let_wait
returns-in_ok-let_wait c = ap (λ l. l ++ ahead_in c.args.below) (ap ahead_of c.in_ok-let_wait.ensures ∙ ahead_push c.args.pending.now.items c.args.here.now)
