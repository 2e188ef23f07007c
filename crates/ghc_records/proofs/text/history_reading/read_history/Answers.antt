use Rattle.ghc_records.proofs.Words.{◌+◌, inr, refl, rules, subst, arith}
use Rattle.ghc_records.specs.HistoryText.{no_heading}
use Rattle.ghc_records.proofs.ExactTexts.{one_count}
use Rattle.ghc_records.proofs.ReadHistories.{IsWithin, end_refused, history_told, rest_refused, step_refused}
use Rattle.ghc_records.proofs.StepsBelow.{AreRightUpTo}
use Rattle.ghc_records.proofs.TellingHistories.{begins, counts, wrong_count}
use Rattle.ghc_records.proofs.text.history_reading.read_history.Goals as goal

pub returns-in_default-clause-answer : goal.returns-in_default-clause-answer
returns-in_default-clause-answer c = (tt, inr (1, refl, no_heading c.in_default.ensures.none))

pub returns-in_default-read_count-clause-answer : goal.returns-in_default-read_count-clause-answer
returns-in_default-read_count-clause-answer c = (tt, inr (2, refl, wrong_count c.args.text.now c.in-Some.counted.now c.in-Some.ensures.some c.in_default-read_count.ensures.none))

pub returns-in_default-read_count-clause-heading : goal.returns-in_default-read_count-clause-heading
returns-in_default-read_count-clause-heading c other = absurd (other (begins c.args.text.now c.in-Some.counted.now c.in-Some.ensures.some))

pub returns-in_err-steps-clause-count : goal.returns-in_err-steps-clause-count
returns-in_err-steps-clause-count c = λ _ none.
    let k = c.in-Some-read_count in
    absurd (none k.count (counts c.args.text.now c.in-Some.counted.now k.told.now k.count c.in-Some.ensures.some k.ensures.some k.ensures.few))

pub returns-in_err-steps-clause-no_steps : goal.returns-in_err-steps-clause-no_steps
returns-in_err-steps-clause-no_steps c = λ told memory.
    let k = c.in-Some-read_count in
    let stands = counts c.args.text.now c.in-Some.counted.now k.told.now k.count c.in-Some.ensures.some k.ensures.some k.ensures.few in
    let clash = c.in_err-steps.ensures.none (one_count c.args.text.now k.count 0 stands told) in
    cc

pub returns-then-right-count-clause-answer : goal.returns-then-right-count-clause-answer
returns-then-right-count-clause-answer c =
    let text = c.args.text.now in
    let k = c.in-Some-read_count in
    let r = c.in_ok-steps.ensures in
    let steps = c.in_ok-steps.steps.items in
    let end = c.find_end-end in
    let right = c.count_below-right in
    let up = subst (λ l. AreRightUpTo (IsWithin c.next_of.result) l right.result) c.as_slice.ensures.value
    (record { most = right.ensures.most; holds = right.ensures.below; stop = right.ensures.stop }) in
    let refused = step_refused text c.in-Some.counted.now k.told.now k.count c.in-Some.ensures.some k.ensures.some k.ensures.few steps c.in_ok-steps.behind.now _
    end.result c.next_of.result c.next_of.ensures end.ensures.some end.ensures.none right.result up r.told r.rest r.most r.stop (omega (arith, r.most, c.len.ensures)) (omega (arith, c.if-right-count.true)) in
    (tt, inr refused)

pub returns-then-right-count-clause-count : goal.returns-then-right-count-clause-count
returns-then-right-count-clause-count c = λ _ none.
    let k = c.in-Some-read_count in
    absurd (none k.count (counts c.args.text.now c.in-Some.counted.now k.told.now k.count c.in-Some.ensures.some k.ensures.some k.ensures.few))

pub returns-in-None-clause-answer : goal.returns-in-None-clause-answer
returns-in-None-clause-answer c =
    let text = c.args.text.now in
    let k = c.in-Some-read_count in
    let r = c.in_ok-steps.ensures in
    let steps = c.in_ok-steps.steps.items in
    let end = c.find_end-end in
    let right = c.count_below-right in
    let up = subst (λ l. AreRightUpTo (IsWithin c.next_of.result) l right.result) c.as_slice.ensures.value
    (record { most = right.ensures.most; holds = right.ensures.below; stop = right.ensures.stop }) in
    let refused = end_refused text c.in-Some.counted.now k.told.now k.count c.in-Some.ensures.some k.ensures.some k.ensures.few steps c.in_ok-steps.behind.now _
    end.result c.next_of.result c.next_of.ensures end.ensures.some end.ensures.none right.result up r.told r.rest r.most r.stop (omega (arith, r.most, c.len.ensures)) (omega (arith, c.if-right-count.false)) c.in-None.ensures.none in
    (tt, inr (k.count + 3, refl, refused))

pub returns-in-None-clause-count : goal.returns-in-None-clause-count
returns-in-None-clause-count c = λ _ none.
    let k = c.in-Some-read_count in
    absurd (none k.count (counts c.args.text.now c.in-Some.counted.now k.told.now k.count c.in-Some.ensures.some k.ensures.some k.ensures.few))

pub returns-then-is_empty-clause-answer : goal.returns-then-is_empty-clause-answer
returns-then-is_empty-clause-answer c =
    let text = c.args.text.now in
    let k = c.in-Some-read_count in
    let r = c.in_ok-steps.ensures in
    let steps = c.in_ok-steps.steps.items in
    let end = c.find_end-end in
    let right = c.count_below-right in
    let up = subst (λ l. AreRightUpTo (IsWithin c.next_of.result) l right.result) c.as_slice.ensures.value
    (record { most = right.ensures.most; holds = right.ensures.below; stop = right.ensures.stop }) in
    let found = c.in-Some-end in
    let told = history_told text c.in-Some.counted.now k.told.now k.count c.in-Some.ensures.some k.ensures.some k.ensures.few steps c.in_ok-steps.behind.now _
    end.result c.next_of.result c.next_of.ensures end.ensures.some end.ensures.none right.result up r.told r.rest r.most r.stop (omega (arith, r.most, c.len.ensures)) (omega (arith, c.if-right-count.false))
    found.next found.rest.now found.ensures.some found.ensures.rest (search rules) in
    (rw c.in_ok-new-in-Some-end.ensures.history told, tt)

pub returns-then-is_empty-clause-count : goal.returns-then-is_empty-clause-count
returns-then-is_empty-clause-count c = λ _ none.
    let k = c.in-Some-read_count in
    absurd (none k.count (counts c.args.text.now c.in-Some.counted.now k.told.now k.count c.in-Some.ensures.some k.ensures.some k.ensures.few))

pub returns-in_err-new-in-Some-end-clause-count : goal.returns-in_err-new-in-Some-end-clause-count
returns-in_err-new-in-Some-end-clause-count c = λ _ none.
    let k = c.in-Some-read_count in
    absurd (none k.count (counts c.args.text.now c.in-Some.counted.now k.told.now k.count c.in-Some.ensures.some k.ensures.some k.ensures.few))

pub returns-in_err-new-in-Some-end-clause-no_steps : goal.returns-in_err-new-in-Some-end-clause-no_steps
returns-in_err-new-in-Some-end-clause-no_steps c = λ told memory.
    let k = c.in-Some-read_count in
    let stands = counts c.args.text.now c.in-Some.counted.now k.told.now k.count c.in-Some.ensures.some k.ensures.some k.ensures.few in
    let clash = c.in_err-new-in-Some-end.ensures.no_steps (omega (arith, c.in_ok-steps.ensures.most, one_count c.args.text.now k.count 0 stands told)) in
    cc

pub returns-clause-answer : goal.returns-clause-answer
returns-clause-answer c =
    let text = c.args.text.now in
    let k = c.in-Some-read_count in
    let r = c.in_ok-steps.ensures in
    let steps = c.in_ok-steps.steps.items in
    let end = c.find_end-end in
    let right = c.count_below-right in
    let up = subst (λ l. AreRightUpTo (IsWithin c.next_of.result) l right.result) c.as_slice.ensures.value
    (record { most = right.ensures.most; holds = right.ensures.below; stop = right.ensures.stop }) in
    let found = c.in-Some-end in
    let refused = rest_refused text c.in-Some.counted.now k.told.now k.count c.in-Some.ensures.some k.ensures.some k.ensures.few steps c.in_ok-steps.behind.now _
    end.result c.next_of.result c.next_of.ensures end.ensures.some end.ensures.none right.result up r.told r.rest r.most r.stop (omega (arith, r.most, c.len.ensures)) (omega (arith, c.if-right-count.false))
    found.next found.rest.now found.ensures.some found.ensures.rest (search rules) in
    (tt, inr (k.count + 4, refl, refused))

pub returns-clause-count : goal.returns-clause-count
returns-clause-count c = λ _ none.
    let k = c.in-Some-read_count in
    absurd (none k.count (counts c.args.text.now c.in-Some.counted.now k.told.now k.count c.in-Some.ensures.some k.ensures.some k.ensures.few))
