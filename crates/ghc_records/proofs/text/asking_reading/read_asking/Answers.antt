use Rattle.std.proofs.Common.{◌++◌, sym, ap, ◌∙◌}
use Rattle.ghc_records.proofs.AskingLines.{asking_apart, no_asking, no_blank, one_asking}
use Rattle.ghc_records.proofs.text.asking_reading.read_asking.Goals as goal

pub returns-in_default-clause-none : goal.returns-in_default-clause-none
returns-in_default-clause-none c = no_blank c.args.line.now c.in_default.ensures.none

pub returns-in_default-behind-clause-none : goal.returns-in_default-behind-clause-none
returns-in_default-behind-clause-none c = λ s says.
    let parts = asking_apart c.args.line.now c.in-Some.word.now c.in-Some.rest.now s c.in-Some.ensures.found c.in-Some.ensures.plain says in
    c.in_default-behind.ensures.none says.body (parts.1 ∙ ap (λ l. l ++ says.body) (sym c.as_slice.ensures))

pub returns-in-Some-positive-clause-some : goal.returns-in-Some-positive-clause-some
returns-in-Some-positive-clause-some c =
    one_asking c.args.line.now c.in-Some.word.now c.in-Some.rest.now c.as_slice.result.now c.in-Some-behind.text.now c.in-Some-positive.step c.asking_step.result c.in-Some.ensures.found c.in-Some-behind.ensures.some c.as_slice.ensures
    c.in-Some-positive.ensures.some c.asking_step.ensures.some

pub returns-in-Some-positive-clause-none : goal.returns-in-Some-positive-clause-none
returns-in-Some-positive-clause-none c =
    no_asking c.args.line.now c.in-Some.word.now c.in-Some.rest.now c.as_slice.result.now c.in-Some-behind.text.now c.in-Some-positive.step c.asking_step.result c.in-Some.ensures.found c.in-Some.ensures.plain c.in-Some-behind.ensures.some c.as_slice.ensures
    c.in-Some-positive.ensures.some c.in-Some-positive.ensures.small c.asking_step.ensures.none

pub returns-in-None-clause-none : goal.returns-in-None-clause-none
returns-in-None-clause-none c = λ s says.
    c.in-None.ensures.none s.number says.number.0 says.number.1 (asking_apart c.args.line.now c.in-Some.word.now c.in-Some.rest.now s c.in-Some.ensures.found c.in-Some.ensures.plain says).0
