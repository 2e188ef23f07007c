use Rattle.ghc_trace.proofs.Words.{◌≡◌, ◌+◌, [], ◌∷◌, ◌++◌, drop, None, Some, sym, ap, ◌∙◌, subst, arith, option_copied, numbers, held_in}
use Rattle.ghc_trace.proofs.PartFinding.{gap_on, number_on, numbers_end}
use Rattle.ghc_trace.proofs.parts.all_numbers.Goals.{in-Some+in_ok-push, in_default}
use Rattle.ghc_trace.proofs.parts.all_numbers.Goals as goal

pub loop-place-init : goal.loop-place-init
loop-place-init c = ap (λ l. l ++ numbers (held_in c.args.records.now.slots)) c.new-all.ensures.items

pub loop-place-preserved : goal.loop-place-preserved
loop-place-preserved c =
    let ss = c.args.records.now.slots in
    let place = c.loop-place.place in
    let items = c.loop-place.all.items in
    elim c.match-at.branch [
      | in-Some+in_ok-push w ↦ rw w.all-is (subst (λ l. l ++ numbers (held_in (drop (place + 1) ss)) ≡ numbers (held_in ss)) (sym w.in_ok-push.ensures.items)
          (subst (λ k. (items ++ k ∷ []) ++ numbers (held_in (drop (place + 1) ss)) ≡ numbers (held_in ss)) (sym w.number.ensures)
          (number_on ss place items c.loop-place.invariant w.in-Some.step.now ((c.at.ensures w.in-Some.step.now).0 (ap option_copied w.in-Some.is)))))
      | in_default w ↦ rw w.all-is (gap_on ss place items c.loop-place.invariant (λ a at. let clash : None ≡ Some a = sym (ap option_copied w.in_default.is) ∙ (c.at.ensures a).1 at in cc))
    ]

pub returns : goal.returns
returns c = numbers_end c.args.records.now.slots c.loop-place.place c.loop-place.all.items c.loop-place.invariant (omega (arith, c.loop-place-test.false, c.places-place-end.ensures)) ∙ ap (λ rs. numbers rs) (sym c.len-count.ensures.slots)
