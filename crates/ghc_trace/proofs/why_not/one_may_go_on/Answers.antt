use Rattle.ghc_trace.proofs.Words.{sym, subst, arith, get_or, take, take_more, in_get}
use Rattle.ghc_trace.specs.declared.holding.Holder.{Holder}
use Rattle.ghc_trace.specs.WhyNot.{MayGoOn}
use Rattle.ghc_trace.proofs.WrittenIn.{NoneOf, fails, holds, none_here, none_more, none_yet, one_is}
use Rattle.ghc_trace.proofs.why_not.one_may_go_on.Goals as goal

pub loop-holder-init : goal.loop-holder-init
loop-holder-init c = none_yet (λ (h : Holder). MayGoOn c.args.core.now.world h.goal)

pub may_go_on-requires-clause-there : goal.may_go_on-requires-clause-there
may_go_on-requires-clause-there c =
    let none : Holder = record { variable = record { step = 0; place = 0 }; goal = record { step = 0; place = 0 } } in
    c.requires.there (get_or c.args.holders.now c.loop-holder.holder-index none) (in_get c.args.holders.now c.loop-holder.holder-index none c.loop-holder-test.true)

pub loop-holder-preserved : goal.loop-holder-preserved
loop-holder-preserved c =
    let none : Holder = record { variable = record { step = 0; place = 0 }; goal = record { step = 0; place = 0 } } in
    let hs = c.args.holders.now in
    let i = c.loop-holder.holder-index in
    let w = c.args.core.now.world in
    subst (NoneOf (λ (h : Holder). MayGoOn w h.goal)) (sym (take_more hs i none c.loop-holder-test.true))
    (none_more (λ (h : Holder). MayGoOn w h.goal) (take i hs) (get_or hs i none) (fails c.may_go_on.result c.if-may_go_on.false c.may_go_on.ensures) c.loop-holder.invariant)

pub returns-then-may_go_on : goal.returns-then-may_go_on
returns-then-may_go_on c =
    let none : Holder = record { variable = record { step = 0; place = 0 }; goal = record { step = 0; place = 0 } } in
    let hs = c.args.holders.now in
    let i = c.loop-holder.holder-index in
    one_is (λ (h : Holder). MayGoOn c.args.core.now.world h.goal) hs (get_or hs i none) (in_get hs i none c.loop-holder-test.true) (holds c.may_go_on.result c.if-may_go_on.true c.may_go_on.ensures)

pub returns : goal.returns
returns c = none_here (λ (h : Holder). MayGoOn c.args.core.now.world h.goal) c.args.holders.now c.loop-holder.holder-index (omega (arith, c.loop-holder-test.false)) c.loop-holder.invariant
