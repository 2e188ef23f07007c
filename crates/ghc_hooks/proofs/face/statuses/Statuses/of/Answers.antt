use Rattle.ghc_hooks.proofs.Words.{take_all, sym, subst, TellsStatuses}
use Rattle.ghc_hooks.proofs.FoundFace.{no_statuses, status_put, status_passed}
use Rattle.ghc_hooks.proofs.face.statuses.Statuses.of.Goals.{in-Some+in_ok-of+in_ok-put, in_default}
use Rattle.ghc_hooks.proofs.face.statuses.Statuses.of.Goals as goal

pub loop-name-init : goal.loop-name-init
loop-name-init c = no_statuses c.args.program.now c.args.goals.now.held c.args.store.now.held c.new-statuses.result c.new-statuses.ensures

pub loop-name-preserved : goal.loop-name-preserved
loop-name-preserved c =
    let P = c.args.program.now in
    let G = c.args.goals.now.held in
    let s = c.args.store.now.held in
    let gs = c.args.names.now in
    let i = c.loop-name.name-index in
    elim c.match-get.branch [
      | in-Some+in_ok-of+in_ok-put w ↦
          rw w.statuses-is (status_put gs i (record { step = 0; place = 0 }) c.loop-name-test.true P G s c.acyclic.ensures c.loop-name.statuses w.put.new.self
          w.in-Some.goal.now w.in_ok-of.field-0 c.loop-name.invariant (sym w.in-Some.ensures) w.in_ok-of.ensures w.in_ok-put.ensures)
      | in_default w ↦
          rw w.statuses-is (status_passed gs i (record { step = 0; place = 0 }) c.loop-name-test.true P G s c.loop-name.statuses c.loop-name.invariant
          (sym w.in_default.ensures))
    ]

pub returns : goal.returns
returns c =
    subst (λ l. TellsStatuses c.args.program.now c.args.goals.now.held c.args.store.now.held l c.loop-name.statuses) (take_all c.loop-name.name-index c.args.names.now c.loop-name-test.false) c.loop-name.invariant
