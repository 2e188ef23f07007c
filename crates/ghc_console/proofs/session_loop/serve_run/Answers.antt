use Rattle.ghc_console.proofs.session_loop.serve_run.Goals as goal

pub returns-clause-told : goal.returns-clause-told
returns-clause-told g c =
    let leap = c.leap-debugger.ensures in
    let wrote = c.write_run-written.ensures.told in
    (wrote.0, record { run = leap.told wrote.0 wrote.1; spies = leap.spies; workers = leap.workers; lines = leap.lines }, wrote.2)
