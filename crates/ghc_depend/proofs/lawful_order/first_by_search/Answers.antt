use Rattle.ghc_depend.proofs.Words.{subst, arith, StepDependsOn}
use Rattle.ghc_depend.proofs.Using.{no_further_still, no_further_next, no_further_all}
use Rattle.ghc_depend.proofs.lawful_order.first_by_search.Goals.{in-Some, in_default}
use Rattle.ghc_depend.proofs.lawful_order.first_by_search.Goals as goal

pub loop-slot-preserved : goal.loop-slot-preserved
loop-slot-preserved c =
    let ss = c.args.records.now.slots in
    let n = c.args.number in
    let slot = c.loop-slot.slot in
    let keys = c.args.places.now.keys in
    let least = c.loop-slot.least in
    let so_far = c.loop-slot.invariant in
    elim c.match-user_at.branch [
      | in-Some w ↦
          let s = w.in-Some.ensures.some in
          let new = w.no_further-least.result in
          let within = w.no_further-least.ensures.within in
          rw w.least-is (
            omega (arith, so_far.0, within),
            no_further_next ss n slot keys c.args.place least so_far.1 new w.in-Some.user s.0 s.1 s.2 within w.no_further-least.ensures.found,
          )
      | in_default w ↦ rw w.least-is (so_far.0, no_further_still ss n slot keys c.args.place least so_far.1 w.in_default.ensures.none)
    ]

pub returns-clause-users : goal.returns-clause-users
returns-clause-users c m d =
    no_further_all c.args.records.now.slots c.args.number c.loop-slot.slot c.args.places.now.keys c.args.place c.loop-slot.least c.loop-slot.invariant.1 (omega (arith, c.loop-slot-test.false, c.places-slot-end.ensures)) m
    (subst (λ l. StepDependsOn l m c.args.number) c.len-count.ensures.slots d)
