use Rattle.ghc_hooks.proofs.Words.{take_all, subst, has_member, is_member, TellsHooks}
use Rattle.ghc_hooks.proofs.FoundFace.{no_hooks, hooked, unhooked}
use Rattle.ghc_hooks.proofs.face.hooks.Hooks.of.Goals.{in-Some+in_ok-put_all, in_default}
use Rattle.ghc_hooks.proofs.face.hooks.Hooks.of.Goals as goal

pub loop-name-init : goal.loop-name-init
loop-name-init c = no_hooks c.args.statuses.now c.new-hooks.result c.new-hooks.ensures

pub loop-name-preserved : goal.loop-name-preserved
loop-name-preserved c =
    let gs = c.args.names.now in
    let i = c.loop-name.name-index in
    elim c.match-awaited.branch [
      | in-Some+in_ok-put_all w ↦
          let xs = w.in-Some.awaited.now in
          let ys = w.members.result.now in
          rw w.hooks-is (hooked gs i (record { step = 0; place = 0 }) c.loop-name-test.true c.args.statuses.now c.loop-name.hooks w.put_all.new.self xs ys
          c.loop-name.invariant w.in-Some.ensures.some (λ x. (has_member xs ys w.members.ensures.all x, is_member xs ys w.members.ensures.all x))
          w.in_ok-put_all.ensures)
      | in_default w ↦
          rw w.hooks-is (unhooked gs i (record { step = 0; place = 0 }) c.loop-name-test.true c.args.statuses.now c.loop-name.hooks c.loop-name.invariant
          w.in_default.ensures.none)
    ]

pub returns : goal.returns
returns c = subst (λ l. TellsHooks c.args.statuses.now l c.loop-name.hooks) (take_all c.loop-name.name-index c.args.names.now c.loop-name-test.false) c.loop-name.invariant
