use Rattle.ghc_trace.proofs.PartGiving.{asks_reach}
use Rattle.ghc_trace.proofs.goal_parts.part_among.Goals as goal

pub returns : goal.returns
returns c P query rs t are replay =
    let numbered = c.in_ok-part.ensures P query rs t are replay in
    record {
      numbered = numbered;
      reaching = asks_reach c.args.records.now.held rs c.len-count.ensures.distinct are.within c.args.goal c.in_ok-part.part.keys numbered c.in_ok-asks.asks.items (c.in_ok-asks.ensures rs are);
    }
