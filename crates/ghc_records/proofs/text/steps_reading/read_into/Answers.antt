use Rattle.ghc_records.proofs.Words.{pieces_of}
use Rattle.ghc_records.proofs.TellingSteps.{nothing_told, one_more_put, wrong_again, wrong_line}
use Rattle.ghc_records.proofs.text.steps_reading.read_into.Goals as goal

pub loop-index-init : goal.loop-index-init
loop-index-init c = nothing_told c.args.text.now c.args.numbers.now c.args.steps.now.items c.requires.numbers c.requires.steps

pub returns-in_default-clause-stop : goal.returns-in_default-clause-stop
returns-in_default-clause-stop c = λ low.
    let l = c.loop-index in
    wrong_line (pieces_of c.args.text.now) l._index l.rest.now l.numbers l.steps.items l.invariant (rw c.in_default.is at c.in_ok-step.ensures.none)

pub returns-then-not-branch-clause-stop : goal.returns-then-not-branch-clause-stop
returns-then-not-branch-clause-stop c = λ low.
    let l = c.loop-index in
    wrong_again (pieces_of c.args.text.now) l._index l.rest.now l.numbers l.steps.items l.invariant c.in-Some.step c.in-Some.further.now
    (rw c.in-Some.is at c.in_ok-step.ensures.some) (rw c.number.ensures at (c.in_ok-add.ensures.known c.if-not-branch.true))

pub loop-index-preserved : goal.loop-index-preserved
loop-index-preserved c =
    let l = c.loop-index in
    let added = c.in_ok-add.ensures in
    one_more_put (pieces_of c.args.text.now) l._index l.rest.now l.numbers l.steps.items l.invariant c.in-Some.step c.in-Some.further.now
    c.number.result c.add.new.self c.push.new.self.items (rw c.in-Some.is at c.in_ok-step.ensures.some) c.number.ensures
    (added.new c.if-not-branch.false) (added.numbers c.if-not-branch.false) c.in_ok-push.ensures.items
