use Rattle.ghc_console.proofs.CitedWords.{◌∙◌, arith, inr, refl, rules, state_of, sym, Keeps-trans, prepend_known-nil, command_of}
use Rattle.ghc_console.proofs.RunCommands.{run_fires}
use Rattle.ghc_console.proofs.Served.{counts_same, has_asked, has_broken, has_broken_run, has_ended, has_listed, has_run, has_told}
use Rattle.ghc_console.proofs.SessionFirings.{fired_start, fired_on, fired_end}
use Rattle.ghc_console.proofs.SessionLoop.{going_asked, going_on, going_end, going_quit, broken_read, broken_write, kept_then, taken_kept, going_so_far, going_start, given_start, given_then, given_kept}
use Rattle.ghc_console.proofs.session_loop.session.Goals.{in-Told, in-Lists, in-Asks+in_default-written}
use Rattle.ghc_console.proofs.session_loop.session.Goals as goal

pub loop-init : goal.loop-init
loop-init g c = (tt, tt, rw c.new-ahead.ensures (going_start _ _ _ _ (omega arith)), refl, refl, rw (c.new-ahead.ensures, prepend_known-nil _) (fired_start _ _ _ refl), given_start _ _)

pub next_line-requires : goal.next_line-requires
next_line-requires g c = record {
  ask = λ d none kept more.
      c.requires.prompt d (state_of c.loop.debugger) none (rw (sym c.settle.ensures.world) (going_so_far _ _ _ _ _ _ _ _ (going_asked _ _ _ _ _ _ _ _ _ _ _ c.loop.invariant.2 c.loop.invariant.6 (inr more)) kept));
}

pub serve_run-left-requires : goal.serve_run-left-requires
serve_run-left-requires g c = (search rules, (search rules, rw c.in-Asks.is at c.in-Ok.ensures.handed_on))

pub returns-in-Err-clause-text : goal.returns-in-Err-clause-text
returns-in-Err-clause-text g c =
    let read = c.in-Err.ensures in
    rw (sym c.settle.ensures.world) (broken_read _ _ _ _ _ _ _ _ (going_asked _ _ _ _ _ _ _ _ _ _ _ c.loop.invariant.2 c.loop.invariant.6 read.asks) read.written)

pub returns-in-Ok-None-clause-text : goal.returns-in-Ok-None-clause-text
returns-in-Ok-None-clause-text g c =
    let read = c.in-Ok-None.ensures in
    let end = rw c.in-Ok-None.field-0-is at read.line in
    let so_far = going_asked _ _ _ _ _ _ _ _ _ _ _ c.loop.invariant.2 c.loop.invariant.6 read.asks in
    rw (sym c.settle.ensures.world) (going_end _ _ _ _ _ _ _ _ so_far end.0 read.written)

pub returns-in_default-clause-text : goal.returns-in_default-clause-text
returns-in_default-clause-text g c =
    let read = c.in-Ok-Some.ensures in
    let taken = rw c.in-Ok-Some.field-0-is at read.line in
    let so_far = going_asked _ _ _ _ _ _ _ _ _ _ _ c.loop.invariant.2 c.loop.invariant.6 read.asks in
    let serve = c.serve.ensures in
    rw (sym c.settle.ensures.world, serve.writes.reads.earlier) (broken_write _ _ _ _ _ _ _ _ _ _ _ so_far taken (λ bytes says.
    let s = has_broken _ _ bytes _ _ c.serve.result _ c.in_default.is (serve.served bytes says) in
    (s.0, s.1, s.2, (s.3.0, kept_then _ _ _ _ read.written s.3.1))))

pub returns-in-Ends-clause-text : goal.returns-in-Ends-clause-text
returns-in-Ends-clause-text g c =
    let read = c.in-Ok-Some.ensures in
    let taken = rw c.in-Ok-Some.field-0-is at read.line in
    let so_far = going_asked _ _ _ _ _ _ _ _ _ _ _ c.loop.invariant.2 c.loop.invariant.6 read.asks in
    let serve = c.serve.ensures in
    rw (sym c.settle.ensures.world, serve.writes.reads.earlier) (going_quit _ _ _ _ _ _ _ _ _ _ _ so_far taken (λ bytes says.
    let s = has_ended _ _ bytes _ _ c.serve.result _ c.in-Ok.is c.in-Ends.is (serve.served bytes says) in
    (s.0, s.1, kept_then _ _ _ _ read.written s.2)))

pub returns-in-Err-written-clause-text : goal.returns-in-Err-written-clause-text
returns-in-Err-written-clause-text g c =
    let read = c.in-Ok-Some.ensures in
    let taken = rw c.in-Ok-Some.field-0-is at read.line in
    let so_far = going_asked _ _ _ _ _ _ _ _ _ _ _ c.loop.invariant.2 c.loop.invariant.6 read.asks in
    let serve = c.serve.ensures in
    let run = c.serve_run-left.ensures in
    rw (sym c.settle.ensures.world, run.writes.reads.earlier, serve.writes.reads.earlier) (broken_write _ _ _ _ _ _ _ _ _ _ _ so_far taken (λ bytes says.
    let asked = has_asked _ _ bytes _ _ c.serve.result _ c.in-Asks.root c.in-Asks.limit c.in-Ok.is c.in-Asks.is (serve.served bytes says) in
    let s = has_broken_run _ _ _ bytes _ _ _ c.in-Asks.root c.in-Asks.limit c.serve_run-left.result.1 _ asked run.told c.in-Err-written.is in
    (s.0, s.1, s.2, (s.3.0, kept_then _ _ _ _ read.written s.3.1))))

pub loop-preserved : goal.loop-preserved
loop-preserved g c =
    let read = c.in-Ok-Some.ensures in
    let taken = rw c.in-Ok-Some.field-0-is at read.line in
    let serve = c.serve.ensures in
    let so_far = going_asked _ _ _ _ _ _ _ _ _ _ _ c.loop.invariant.2 c.loop.invariant.6 read.asks in
    elim c.match-answered.branch [
      | in-Told w ↦
          let given = given_kept _ _ _ _ _ (given_then _ _ _ _ _ _ c.loop.invariant.6 read.given) serve.writes.reads.unread in
          let left = taken_kept _ c.next_line.new.self _ _ _ taken serve.writes.reads.unread in
          rw (w.debugger-is, w.device-is) (
            tt,
            tt,
            rw serve.writes.reads.earlier (going_on _ _ _ _ _ _ _ _ _ _ _ so_far left (λ bytes says.
                let s = has_told _ _ bytes _ _ c.serve.result _ c.in-Ok.is w.in-Told.is (serve.served bytes says) in
                (s.0, s.1, kept_then _ _ _ _ read.written s.2))),
            search rules,
            serve.opening ∙ c.loop.invariant.4,
            fired_on _ _ _ _ _ _ _ c.loop.invariant.5 left serve.fires,
            rw (serve.writes.reads.earlier, serve.writes.reads.latest) given,
          )
      | in-Lists w ↦
          let given = given_kept _ _ _ _ _ (given_then _ _ _ _ _ _ c.loop.invariant.6 read.given) serve.writes.reads.unread in
          let left = taken_kept _ c.next_line.new.self _ _ _ taken serve.writes.reads.unread in
          rw (w.debugger-is, w.device-is) (
            tt,
            tt,
            rw serve.writes.reads.earlier (going_on _ _ _ _ _ _ _ _ _ _ _ so_far left (λ bytes says.
                let s = has_listed _ _ bytes _ _ c.serve.result _ w.in-Lists.field-0 c.in-Ok.is w.in-Lists.is (serve.served bytes says) in
                (s.0, s.1, kept_then _ _ _ _ read.written s.2))),
            search rules,
            serve.opening ∙ c.loop.invariant.4,
            fired_on _ _ _ _ _ _ _ c.loop.invariant.5 left serve.fires,
            rw (serve.writes.reads.earlier, serve.writes.reads.latest) given,
          )
      | in-Asks+in_default-written w ↦
          let run = w.serve_run-left.ensures in
          let unread = Keeps-trans _ _ _ serve.writes.reads.unread run.writes.reads.unread in
          let given = given_kept _ _ _ _ _ (given_then _ _ _ _ _ _ c.loop.invariant.6 read.given) unread in
          let left = taken_kept _ c.next_line.new.self _ _ _ taken unread in
          let uncounted = counts_same _ _ w.serve_run-left.result.1 _ w.in_default-written.is run.writes.count in
          rw (w.debugger-is, w.device-is) (
            tt,
            tt,
            rw (run.writes.reads.earlier, serve.writes.reads.earlier) (going_on _ _ _ _ _ _ _ _ _ _ _ so_far left (λ bytes says.
                let asked = has_asked _ _ bytes _ _ c.serve.result _ w.in-Asks.root w.in-Asks.limit c.in-Ok.is w.in-Asks.is (serve.served bytes says) in
                let s = has_run _ _ _ bytes _ _ _ w.in-Asks.root w.in-Asks.limit w.serve_run-left.result.1 _ asked run.told w.in_default-written.is in
                (s.0, s.1, kept_then _ _ _ _ read.written s.2))),
            rw uncounted (search rules),
            run.opening ∙ serve.opening ∙ c.loop.invariant.4,
            fired_on _ _ _ _ _ _ _ c.loop.invariant.5 left (λ bytes says.
                let asked = has_asked _ _ bytes _ _ c.serve.result _ w.in-Asks.root w.in-Asks.limit c.in-Ok.is w.in-Asks.is (serve.served bytes says) in
                run_fires _ (command_of bytes) w.in-Asks.root w.in-Asks.limit asked.3 _ _),
            rw (run.writes.reads.earlier, run.writes.reads.latest, serve.writes.reads.earlier, serve.writes.reads.latest) given,
          )
    ]

pub returns-in-Err-clause-fires : goal.returns-in-Err-clause-fires
returns-in-Err-clause-fires g c = rw (sym c.settle.ensures.firings) (fired_end _ _ _ _ c.loop.invariant.5)

pub returns-in-Ok-None-clause-fires : goal.returns-in-Ok-None-clause-fires
returns-in-Ok-None-clause-fires g c = rw (sym c.settle.ensures.firings) (fired_end _ _ _ _ c.loop.invariant.5)

pub returns-in_default-clause-fires : goal.returns-in_default-clause-fires
returns-in_default-clause-fires g c =
    let taken = rw c.in-Ok-Some.field-0-is at c.in-Ok-Some.ensures.line in
    rw (sym c.settle.ensures.firings) (fired_end _ _ _ _ (fired_on _ _ _ _ _ _ _ c.loop.invariant.5 taken c.serve.ensures.fires))

pub returns-in-Ends-clause-fires : goal.returns-in-Ends-clause-fires
returns-in-Ends-clause-fires g c =
    let taken = rw c.in-Ok-Some.field-0-is at c.in-Ok-Some.ensures.line in
    rw (sym c.settle.ensures.firings) (fired_end _ _ _ _ (fired_on _ _ _ _ _ _ _ c.loop.invariant.5 taken c.serve.ensures.fires))

pub returns-in-Err-written-clause-fires : goal.returns-in-Err-written-clause-fires
returns-in-Err-written-clause-fires g c =
    let taken = rw c.in-Ok-Some.field-0-is at c.in-Ok-Some.ensures.line in
    rw (sym c.settle.ensures.firings) (fired_end _ _ _ _ (fired_on _ _ _ _ _ _ _ c.loop.invariant.5 taken (λ bytes says.
    let asked = has_asked _ _ bytes _ _ c.serve.result _ c.in-Asks.root c.in-Asks.limit c.in-Ok.is c.in-Asks.is (c.serve.ensures.served bytes says) in
    run_fires _ (command_of bytes) c.in-Asks.root c.in-Asks.limit asked.3 _ _)))
