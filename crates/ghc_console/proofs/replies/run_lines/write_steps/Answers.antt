use Rattle.ghc_console.proofs.CitedWords.{err_from_is_err_and, ◌+◌, ◌-◌, ◌<◌, [], ◌∷◌, drop, map, sym, subst, ◌∙◌, arith, In, numbers, AreDistinct, last_of, step_line}
use Rattle.ghc_console.proofs.RunLines.{Going, going_at, going_broken, going_end, going_on, is_there, none_left}
use Rattle.ghc_console.proofs.WriteLoop.{reads_on}
use Rattle.ghc_console.proofs.replies.run_lines.write_steps.Goals as goal

pub unreachable-requires : goal.unreachable-requires
unreachable-requires g c =
    let n = c.loop-number.number in
    is_there c.args.core.now.world c.args.count c.requires n c.loop-number.invariant.0 (subst (λ k. n < k) c.next-next.ensures c.loop-number-test.true)
    (λ r i e. c.in_default.ensures.none r (subst (In r) (sym c.records-records.ensures) i) e)

pub returns-in_err-write_step-clause-told : goal.returns-in_err-write_step-clause-told
returns-in_err-write_step-clause-told g c =
    let n = c.loop-number.number in
    let w = c.args.core.now.world in
    let r = c.in-Some.step.now in
    let steps = last_of c.args.count w.kept in
    let told = c.in_err-write_step.ensures.told in
    let found = c.in-Some.ensures.found in
    rw (err_from_is_err_and c.from_residual.result c.from_residual.ensures.1).1 (going_broken (map step_line steps) (step_line r ∷ []) (map step_line (drop ((n + 1) - (w.next - c.args.count)) steps)) _ _ _ told.0 told.2.0
    (going_at w c.args.count c.requires n r _ _ c.loop-number.invariant.0 (subst (λ k. n < k) c.next-next.ensures c.loop-number-test.true)
    (subst (λ rs. AreDistinct (numbers rs)) c.records-records.ensures c.len-count.ensures.distinct) (subst (In r) c.records-records.ensures found.0) found.1 c.loop-number.invariant.1)
    told.1 told.2.1)

pub loop-number-preserved : goal.loop-number-preserved
loop-number-preserved g c =
    let n = c.loop-number.number in
    let w = c.args.core.now.world in
    let r = c.in-Some.step.now in
    let steps = last_of c.args.count w.kept in
    let told = c.in_ok-write_step.ensures.told in
    let found = c.in-Some.ensures.found in
    let low = c.loop-number.invariant.0 in (
      omega (arith, low),
      going_on (map step_line steps) (step_line r ∷ []) (map step_line (drop ((n + 1) - (w.next - c.args.count)) steps)) _ _ _ told.0
          (going_at w c.args.count c.requires n r _ _ low (subst (λ k. n < k) c.next-next.ensures c.loop-number-test.true)
          (subst (λ rs. AreDistinct (numbers rs)) c.records-records.ensures c.len-count.ensures.distinct) (subst (In r) c.records-records.ensures found.0) found.1 c.loop-number.invariant.1)
          told.1 told.2,
      reads_on _ _ _ c.loop-number.invariant.2 c.in_ok-write_step.ensures.writes.reads,
      c.in_ok-write_step.ensures.writes.count ∙ c.loop-number.invariant.3,
    )

pub returns-clause-told : goal.returns-clause-told
returns-clause-told g c =
    let w = c.args.core.now.world in
    let all = map step_line (last_of c.args.count w.kept) in
    going_end all _ _ (subst (λ ls. Going all ls (g.D.Device.written c.args.device.now) (g.D.Device.written c.loop-number.device))
    (none_left w c.args.count c.requires c.loop-number.number (omega (arith, c.loop-number-test.false, c.next-next.ensures))) c.loop-number.invariant.1)
