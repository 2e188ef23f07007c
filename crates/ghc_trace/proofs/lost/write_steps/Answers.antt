use Rattle.ghc_trace.proofs.Words.{◌≡◌, ◌+◌, ◌++◌, ℕ, List, None, Some, sym, ap, ◌∙◌, subst, arith, option_copied, string_bytes, Picks, Record, held_in}
use Rattle.ghc_trace.specs.WhyNot.{lost_lines}
use Rattle.ghc_trace.specs.inner.WhyNotCode.{LetsGoOf}
use Rattle.ghc_trace.proofs.LostSteps.{Passing, passes_gap, passes_step, passing_begins, passing_ends}
use Rattle.ghc_trace.proofs.lost.write_steps.Goals.{in-Some+in_ok-write_if_lost, in_default}
use Rattle.ghc_trace.proofs.lost.write_steps.Goals as goal

pub loop-place-init : goal.loop-place-init
loop-place-init c = passing_begins c.args.xs.now c.args.lost c.args.records.now.slots (string_bytes c.args.out.now)

pub loop-place-preserved : goal.loop-place-preserved
loop-place-preserved c =
    let xs = c.args.xs.now in
    let y = c.args.lost in
    let ss = c.args.records.now.slots in
    let place = c.loop-place.place in
    let old = string_bytes c.args.out.now in
    let mid = string_bytes c.loop-place.out in
    elim c.match-at.branch [
      | in-Some+in_ok-write_if_lost w ↦ rw w.out-is (passes_step xs y ss place old mid c.loop-place.invariant w.in-Some.step.now (string_bytes w.write_if_lost.new.out) ((c.at.ensures w.in-Some.step.now).0 (ap option_copied w.in-Some.is)) w.in_ok-write_if_lost.ensures)
      | in_default w ↦ rw w.out-is (passes_gap xs y ss place old mid c.loop-place.invariant (λ a at. let clash : None ≡ Some a = sym (ap option_copied w.in_default.is) ∙ (c.at.ensures a).1 at in cc))
    ]

pub returns : goal.returns
returns c =
    let xs = c.args.xs.now in
    let y = c.args.lost in
    let ends = passing_ends xs y c.args.records.now.slots c.loop-place.place (string_bytes c.args.out.now) (string_bytes c.loop-place.out) c.loop-place.invariant (omega (arith, c.loop-place-test.false, c.places-place-end.ensures)) in
    (ends.0, subst (λ (l : List Record). Picks (LetsGoOf xs) l ends.0) (sym c.len-count.ensures.slots) ends.1, ends.2)
