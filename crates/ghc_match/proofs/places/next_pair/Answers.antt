use Rattle.ghc_match.proofs.Words.{◌++◌, append-nil, ap, ◌∙◌, ahead_of}
use Rattle.ghc_match.proofs.Ahead.{ahead_push}
use Rattle.ghc_match.proofs.places.next_pair.Goals as goal

pub loop-head-preserved : goal.loop-head-preserved
loop-head-preserved c =
    let waiting = c.loop-head.pending.items in
    c.loop-head.invariant ∙ ap (λ l. ahead_of waiting ++ l) c.in_default.ensures ∙ append-nil (ahead_of waiting) ∙ ap ahead_of c.in-Some-pop.ensures.items ∙ ahead_push c.pop.new.self.items c.in-Some-pop.last
