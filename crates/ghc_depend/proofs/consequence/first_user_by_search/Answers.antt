use Rattle.ghc_depend.proofs.Words.{sym, subst, arith, held_in, StepDependsOn}
use Rattle.ghc_depend.proofs.Using.{no_user_more, first_found, none_at_all}
use Rattle.ghc_depend.proofs.consequence.first_user_by_search.Goals as goal

pub returns-in-Some : goal.returns-in-Some
returns-in-Some c =
    let ss = c.args.records.now.slots in
    let s = c.in-Some.ensures.some in
    first_found ss c.args.number c.loop-place.place c.loop-place.invariant s.0 s.1 (subst (λ k. StepDependsOn (held_in ss) k c.args.number) (sym s.2) s.3)

pub loop-place-preserved : goal.loop-place-preserved
loop-place-preserved c = no_user_more c.args.records.now.slots c.args.number c.loop-place.place c.loop-place.invariant c.in_default.ensures.none

pub returns : goal.returns
returns c = none_at_all c.args.records.now.slots c.args.number c.loop-place.place (omega (arith, c.loop-place-test.false, c.places-place-end.ensures)) c.loop-place.invariant
