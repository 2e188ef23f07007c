use Rattle.ghc_console.proofs.CitedWords.{err_from_is_err_and, ◌≡◌, ℕ, ◌∙◌, List, map, refl, sym, subst, Record, lined, step_of, step_text, steps_told}
use Rattle.ghc_console.proofs.ListedLines.{next_broken, next_on}
use Rattle.ghc_console.proofs.RunLines.{Going, going_end, going_start}
use Rattle.ghc_console.proofs.WriteLoop.{reads_on, reads_start}
use Rattle.ghc_console.proofs.replies.shelf_listing.write_steps.Goals as goal

-- the line of a step on the shelf
abbrev told : (ℕ × Record) → List ℕ
told e = step_text (step_of e.1)

abbrev all : List (ℕ × Record) → List (List ℕ)
all es = map lined (steps_told es)

pub loop-taken-init : goal.loop-taken-init
loop-taken-init g c =
    let d = g.D.Device in
    let gives : c.into_iter-taken-iterator.result ≡ c.args.ordered.now.entries = c.into_iter-taken-iterator.ensures.into_iter_gives.0 in
    let whole = all (map (λ e. (e.0, e.1.now)) c.args.ordered.now.entries) in
    (subst (λ es. Going whole (all (map (λ e. (e.0, e.1.now)) es)) (d.written c.args.device.now) (d.written c.args.device.now)) (sym gives) (going_start whole _), reads_start _, refl)

pub loop-taken-preserved : goal.loop-taken-preserved
loop-taken-preserved g c =
    let d = g.D.Device in
    let whole = all (map (λ e. (e.0, e.1.now)) c.args.ordered.now.entries) in
    let here = subst (λ es. Going whole (all (map (λ e. (e.0, e.1.now)) es)) (d.written c.args.device.now) (d.written c.loop-taken.device)) c.in-Some.ensures.steps c.loop-taken.invariant.0 in (
      next_on told whole (c.in-Some.field-0-0.now, c.in-Some.taken.now.now) _ _ _ _ here c.in_ok-write_record.ensures.told,
      reads_on _ _ _ c.loop-taken.invariant.1 c.in_ok-write_record.ensures.writes.reads,
      c.in_ok-write_record.ensures.writes.count ∙ c.loop-taken.invariant.2,
    )

pub returns-in_err-write_record-clause-told : goal.returns-in_err-write_record-clause-told
returns-in_err-write_record-clause-told g c =
    let d = g.D.Device in
    let whole = all (map (λ e. (e.0, e.1.now)) c.args.ordered.now.entries) in
    let here = subst (λ es. Going whole (all (map (λ e. (e.0, e.1.now)) es)) (d.written c.args.device.now) (d.written c.loop-taken.device)) c.in-Some.ensures.steps c.loop-taken.invariant.0 in
    rw (err_from_is_err_and c.from_residual.result c.from_residual.ensures.1).1 (next_broken told whole (c.in-Some.field-0-0.now, c.in-Some.taken.now.now) _ _ _ _ here c.in_err-write_record.ensures.told)

pub returns-clause-told : goal.returns-clause-told
returns-clause-told g c =
    let d = g.D.Device in
    let whole = all (map (λ e. (e.0, e.1.now)) c.args.ordered.now.entries) in
    going_end whole _ _ (subst (λ es. Going whole (all (map (λ e. (e.0, e.1.now)) es)) (d.written c.args.device.now) (d.written c.loop-taken.device)) c.in-None.ensures.steps.0 c.loop-taken.invariant.0)
