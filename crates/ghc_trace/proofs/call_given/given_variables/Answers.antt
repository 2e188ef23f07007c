use Rattle.ghc_trace.proofs.Words.{has_member, is_member}
use Rattle.ghc_core.proofs.Redone.{if_ok}
use Rattle.ghc_trace.proofs.call_given.given_variables.Goals as goal

pub returns : goal.returns
returns c = if_ok c.given_among.result c.given_among.ensures (λ given h x.
    let reached = c.in_ok-reached.reached in
    let items = c.members.result.now in (
      λ i. let q = (h x).0 i in ((c.in_ok-reached.ensures x).0 (has_member reached items c.members.ensures.all x q.0), q.1),
      λ q. (h x).1 (is_member reached items c.members.ensures.all x ((c.in_ok-reached.ensures x).1 q.0), q.1),
    ))
