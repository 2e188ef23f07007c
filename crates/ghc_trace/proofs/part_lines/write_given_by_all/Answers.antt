use Rattle.ghc_trace.proofs.Words.{List, Record, Replays, numbers, option_copied, reached_good, subst, sym}
use Rattle.ghc_trace.specs.inner.PartsCode.{IsPartOf}
use Rattle.ghc_trace.proofs.CausePlaces.{on_ok}
use Rattle.ghc_trace.proofs.PartGiving.{taker_in, world_of_all}
use Rattle.ghc_trace.proofs.part_lines.write_given_by_all.Goals as goal

pub whole_part-requires : goal.whole_part-requires
whole_part-requires c = taker_in c.args.core.now.world c.args.name c.args.goal.now c.records-records.result.now.held c.records-records.ensures c.stands.ensures.replay (option_copied c.args.taker) c.requires

pub returns-clause-text : goal.returns-clause-text
returns-clause-text c =
    let w = c.args.core.now.world in
    let kept = c.records-records.result.now.held in
    let part = c.in_ok-part.ensures w.opening.program w.opening.query w.state (reached_good c.stands.ensures.standing).asked
    (subst (λ (l : List Record). Replays w.opening.program w.opening.query l w.state) (sym c.records-records.ensures) c.stands.ensures.replay) in
    on_ok c.write_given_to.result c.write_given_to.ensures.text (λ tells. tells w (numbers kept) c.args.name
    (world_of_all w kept c.store.result.now.held c.records-records.ensures c.store.ensures c.stands.ensures.replay)
    (subst (λ (l : List Record). IsPartOf l c.args.name c.in_ok-part.part.steps.keys c.in_ok-part.part.asks.items) c.records-records.ensures part))

pub returns-clause-too_long : goal.returns-clause-too_long
returns-clause-too_long c e =
    let w = c.args.core.now.world in
    let kept = c.records-records.result.now.held in
    let part = c.in_ok-part.ensures w.opening.program w.opening.query w.state (reached_good c.stands.ensures.standing).asked
    (subst (λ (l : List Record). Replays w.opening.program w.opening.query l w.state) (sym c.records-records.ensures) c.stands.ensures.replay) in
    c.write_given_to.ensures.too_long e w (numbers kept) c.args.name
    (world_of_all w kept c.store.result.now.held c.records-records.ensures c.store.ensures c.stands.ensures.replay)
    (subst (λ (l : List Record). IsPartOf l c.args.name c.in_ok-part.part.steps.keys c.in_ok-part.part.asks.items) c.records-records.ensures part)
