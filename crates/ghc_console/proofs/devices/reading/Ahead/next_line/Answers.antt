use Rattle.ghc_console.proofs.CitedWords.{◌≢◌, ◌+◌, ◌++◌, rules, All-append, prepend_known}
use Rattle.ghc_console.proofs.ReadLoop.{Begun, begun_at_start, begun_filled, begun_fed, asked_more, asked_or_not, taken_off, ends_there, refilled}
use Rattle.ghc_console.proofs.Rows.{ended, last}
use Rattle.ghc_console.proofs.devices.reading.Ahead.next_line.Goals as goal
use Rattle.ghc_console.proofs.devices.reading.Ahead.next_line.Goals.{else-is_empty-via-then-is_empty+in_ok-fill+else-not-branch, else-is_empty-via-else-is_empty}

pub loop-init : goal.loop-init
loop-init g c = (tt, tt, begun_at_start _ _ _ _ _ _ _ c.new-line.ensures)

pub returns-then-not-branch-clause-line : goal.returns-then-not-branch-clause-line
returns-then-not-branch-clause-line g c =
    let d = g.D.Device in
    let so_far = c.loop.invariant.2 in
    let end = c.in_ok-fill.ensures.end (search rules) in
    let before = prepend_known c.args.self.now (d.unread c.args.device.now) in
    let unread = d.unread c.fill.new.device in
    last c.finish.result before (prepend_known c.fill.new.self unread) so_far.seen so_far.plain
    (refilled before (d.unread c.loop.device) unread c.loop.self c.fill.new.self so_far.seen so_far.taken (search rules) c.in_ok-fill.ensures.bytes)
    (ends_there c.fill.new.self unread end.0 end.1)
    (c.finish.ensures so_far.seen so_far.gathered)

pub returns-then-not-branch-clause-asks : goal.returns-then-not-branch-clause-asks
returns-then-not-branch-clause-asks g c = asked_more _ _ _ _ _ _ _ _ _ _ _ _ _ c.loop.invariant.2 _ (search rules) c.in_ok-fill.ensures.earlier

pub returns-in_err-fill-clause-asks : goal.returns-in_err-fill-clause-asks
returns-in_err-fill-clause-asks g c = asked_or_not _ _ _ _ _ _ _ _ _ _ _ _ _ c.loop.invariant.2 _ (search rules) c.in_err-fill.ensures.asked

pub returns-then-give-clause-line : goal.returns-then-give-clause-line
returns-then-give-clause-line g c =
    let d = g.D.Device in
    let before = prepend_known c.args.self.now (d.unread c.args.device.now) in
    let there : Begun c.args.self.now c.else-is_empty.self (d.unread c.args.device.now) (d.unread c.else-is_empty.device) c.loop.line
    (d.written c.args.device.now) (d.written c.else-is_empty.device) (d.failures c.args.device.now) (d.failures c.else-is_empty.device)
    (d.earlier c.args.device.now + d.latest c.args.device.now) (d.earlier c.else-is_empty.device + d.latest c.else-is_empty.device) (d.earlier c.args.device.now) (d.earlier c.else-is_empty.device) =
    elim c.else-is_empty.branch [
      | else-is_empty-via-then-is_empty+in_ok-fill+else-not-branch w ↦
          let read = w.in_ok-fill.ensures in
          rw (w.self-is, w.device-is) (begun_filled _ _ _ _ _ _ _ _ _ _ _ _ _ c.loop.invariant.2 w.fill.new.self _ _ _ _ _ (search rules) read.bytes read.written read.count read.earlier read.latest)
      | else-is_empty-via-else-is_empty w ↦ rw (w.self-is, w.device-is) c.loop.invariant.2
    ] in
    let front = c.give.ensures in
    let found = front.found c.if-give.true in
    let unread = d.unread c.else-is_empty.device in
    ended c.finish-then-give.result before (prepend_known c.give.new.self unread) (there.seen ++ front.piece) (All-append (λ b. b ≢ 10) there.seen front.piece there.plain front.plain)
    (taken_off before unread c.else-is_empty.self c.give.new.self there.seen front.piece there.taken found)
    (c.finish-then-give.ensures (there.seen ++ front.piece) (front.gathers there.seen there.gathered))

pub returns-then-give-clause-asks : goal.returns-then-give-clause-asks
returns-then-give-clause-asks g c = elim c.else-is_empty.branch [
  | else-is_empty-via-then-is_empty+in_ok-fill+else-not-branch w ↦
      let read = w.in_ok-fill.ensures in
      rw w.device-is (asked_more _ _ _ _ _ _ _ _ _ _ _ _ _ c.loop.invariant.2 _ (search rules) read.earlier)
  | else-is_empty-via-else-is_empty w ↦ rw w.device-is c.loop.invariant.2.asks
]

pub returns-then-give-clause-given : goal.returns-then-give-clause-given
returns-then-give-clause-given g c = elim c.else-is_empty.branch [
  | else-is_empty-via-then-is_empty+in_ok-fill+else-not-branch w ↦
      let read = w.in_ok-fill.ensures in
      rw w.device-is (begun_filled _ _ _ _ _ _ _ _ _ _ _ _ _ c.loop.invariant.2 w.fill.new.self _ _ _ _ _ (search rules) read.bytes read.written read.count read.earlier read.latest).counted
  | else-is_empty-via-else-is_empty w ↦ rw w.device-is c.loop.invariant.2.counted
]

pub loop-preserved : goal.loop-preserved
loop-preserved g c =
    let d = g.D.Device in
    let there : Begun c.args.self.now c.else-is_empty.self (d.unread c.args.device.now) (d.unread c.else-is_empty.device) c.loop.line
    (d.written c.args.device.now) (d.written c.else-is_empty.device) (d.failures c.args.device.now) (d.failures c.else-is_empty.device)
    (d.earlier c.args.device.now + d.latest c.args.device.now) (d.earlier c.else-is_empty.device + d.latest c.else-is_empty.device) (d.earlier c.args.device.now) (d.earlier c.else-is_empty.device) =
    elim c.else-is_empty.branch [
      | else-is_empty-via-then-is_empty+in_ok-fill+else-not-branch w ↦
          let read = w.in_ok-fill.ensures in
          rw (w.self-is, w.device-is) (begun_filled _ _ _ _ _ _ _ _ _ _ _ _ _ c.loop.invariant.2 w.fill.new.self _ _ _ _ _ (search rules) read.bytes read.written read.count read.earlier read.latest)
      | else-is_empty-via-else-is_empty w ↦ rw (w.self-is, w.device-is) c.loop.invariant.2
    ] in
    (tt, tt, begun_fed _ _ _ _ _ _ _ _ _ _ _ _ _ there c.give.new.self c.give.new.line _ c.if-give.false c.give.ensures)
