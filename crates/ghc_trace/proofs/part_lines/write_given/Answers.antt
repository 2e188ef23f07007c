use Rattle.ghc_trace.proofs.CausePlaces.{on_ok}
use Rattle.ghc_trace.proofs.part_lines.write_given.Goals as goal

pub returns-clause-text : goal.returns-clause-text
returns-clause-text c = on_ok c.write_given_to.result c.write_given_to.ensures.text (λ tells v of.
    tells v c.args.steps.now c.args.name of (c.in_ok-part.ensures v.opening.program v.opening.query v.kept v.state of.steps of.replay))

pub returns-clause-too_long : goal.returns-clause-too_long
returns-clause-too_long c e v of =
    c.write_given_to.ensures.too_long e v c.args.steps.now c.args.name of (c.in_ok-part.ensures v.opening.program v.opening.query v.kept v.state of.steps of.replay)
