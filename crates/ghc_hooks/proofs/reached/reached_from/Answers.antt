use Rattle.ghc_hooks.proofs.Words.{popped, falls_away, unfold_falls, nothing_open, arith}
use Rattle.ghc_hooks.proofs.Reaching.{started, skips, unfolds, takes_up, takes_up_falls, finished}
use Rattle.ghc_hooks.proofs.TakingUp.{takes_up_all, takes_up_all_falls}
use Rattle.ghc_hooks.proofs.reached.reached_from.Goals as goal

pub loop-term-init : goal.loop-term-init
loop-term-init c = started c.new-reached.result c.new-reached.ensures

pub loop-term-smaller-then-is_closed : goal.loop-term-smaller-then-is_closed
loop-term-smaller-then-is_closed c = falls_away c.args.store.now.held _ _ c.in-Some.term.now (popped _ _ c.in-Some.term c.in-Some.ensures.items)

pub loop-term-preserved-then-is_closed : goal.loop-term-preserved-then-is_closed
loop-term-preserved-then-is_closed c =
    skips c.loop-term.reached _ _ c.in-Some.term.now (popped _ _ c.in-Some.term c.in-Some.ensures.items) (c.is_closed.ensures.0 c.if-is_closed.true) c.loop-term.invariant

pub loop-term-smaller-in-Continue-1 : goal.loop-term-smaller-in-Continue-1
loop-term-smaller-in-Continue-1 c =
    takes_up_falls c.args.store.now.held c.acyclic.ensures c.loop-term.reached c.take_up.new.reached _ _ _ c.in-Var.x c.in-Some.term.now c.in-Var.ensures.shown
    (popped _ _ c.in-Some.term c.in-Some.ensures.items) c.in_ok-take_up-in-Var.ensures

pub loop-term-preserved-in-Continue-1 : goal.loop-term-preserved-in-Continue-1
loop-term-preserved-in-Continue-1 c =
    takes_up c.loop-term.reached c.take_up.new.reached _ _ _ c.in-Var.x c.in-Some.term.now c.in-Var.ensures.shown (popped _ _ c.in-Some.term c.in-Some.ensures.items) c.in_ok-take_up-in-Var.ensures c.loop-term.invariant

pub loop-term-smaller-in-Continue-branch-2 : goal.loop-term-smaller-in-Continue-branch-2
loop-term-smaller-in-Continue-branch-2 c =
    takes_up_all_falls c.args.store.now.held c.acyclic.ensures c.loop-term.reached c.take_up_those_of.new.reached _ _ _ c.in-Some.term.now
    (popped _ _ c.in-Some.term c.in-Some.ensures.items) c.in_ok-take_up_those_of-in-Struct.ensures

pub loop-term-preserved-in-Continue-branch-2 : goal.loop-term-preserved-in-Continue-branch-2
loop-term-preserved-in-Continue-branch-2 c =
    takes_up_all c.loop-term.reached c.take_up_those_of.new.reached _ _ _ c.in-Some.term.now (popped _ _ c.in-Some.term c.in-Some.ensures.items) c.in_ok-take_up_those_of-in-Struct.ensures c.loop-term.invariant

pub loop-term-smaller-in-Continue-branch-3 : goal.loop-term-smaller-in-Continue-branch-3
loop-term-smaller-in-Continue-branch-3 c =
    unfold_falls c.args.store.now.held _ _ _ c.in-Struct.arguments.now _ c.in-Some.term.now c.in-Struct.ensures.shown
    (popped _ _ c.in-Some.term c.in-Some.ensures.items) c.in_ok-push_all-in-Struct.ensures

pub loop-term-preserved-in-Continue-branch-3 : goal.loop-term-preserved-in-Continue-branch-3
loop-term-preserved-in-Continue-branch-3 c =
    unfolds c.loop-term.reached _ _ _ c.in-Struct.arguments.now _ c.in-Some.term.now c.in-Struct.ensures.shown (popped _ _ c.in-Some.term c.in-Some.ensures.items) c.in_ok-push_all-in-Struct.ensures c.loop-term.invariant

pub returns : goal.returns
returns c = grind (arith, nothing_open, finished)
