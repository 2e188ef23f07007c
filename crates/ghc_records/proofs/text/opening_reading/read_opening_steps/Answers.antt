use Rattle.ghc_records.proofs.Words.{◌≡◌, ℕ, ◌+◌, ◌<◌, inr, sym, ap, subst, arith, take, Fault, Step, pieces_of}
use Rattle.ghc_records.proofs.StepsBelow.{AreRightUpTo, all_told, right_length, wrong_after}
use Rattle.ghc_records.proofs.TellingSteps.{IsUnder}
use Rattle.ghc_records.proofs.text.opening_reading.read_opening_steps.Goals as goal

of_number : (next : ℕ) (s t : Step) → s.number ≡ t.number → IsUnder next s → IsUnder next t
of_number next s t e low = subst (λ n. n < next) e low

pub returns-then-right-count-clause-fault : goal.returns-then-right-count-clause-fault
returns-then-right-count-clause-fault c =
    let next = c.args.next in
    let pieces = pieces_of c.args.text.now in
    let r = c.in_ok-steps.ensures in
    let steps = c.in_ok-steps.steps.items in
    let right = c.count_below-right in
    let up = subst (λ l. AreRightUpTo (IsUnder next) l right.result) c.as_slice.ensures.value
    (record { most = right.ensures.most; holds = right.ensures.below; stop = right.ensures.stop }) in
    inr (
      take right.result steps,
      ap (λ n. Fault.History (n + 3)) (sym (right_length (IsUnder next) (of_number next) pieces c.args.count right.result steps r.told r.most r.stop up)),
      wrong_after (IsUnder next) (of_number next) pieces c.args.count right.result steps r.told r.most r.stop up (omega (arith, c.if-right-count.true)),
    )

pub returns-clause-told : goal.returns-clause-told
returns-clause-told c =
    let next = c.args.next in
    let r = c.in_ok-steps.ensures in
    let right = c.count_below-right in
    let up = subst (λ l. AreRightUpTo (IsUnder next) l right.result) c.as_slice.ensures.value
    (record { most = right.ensures.most; holds = right.ensures.below; stop = right.ensures.stop }) in
    all_told (IsUnder next) (of_number next) (pieces_of c.args.text.now) c.args.count right.result c.in_ok-steps.steps.items r.told r.most r.stop up
    (omega (arith, c.if-right-count.false))
