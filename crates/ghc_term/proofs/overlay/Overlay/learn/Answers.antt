use Rattle.ghc_term.proofs.Words.{◌≡◌, ◌<◌, [], map, sym, subst, Bor, Tree, value_in}
use Rattle.ghc_term.specs.inner.Walking.{Walking}
use Rattle.ghc_term.proofs.Merged.{all_bound, all_acyclic, all_is}
use Rattle.ghc_term.proofs.Reaching.{begun, passed, sees, unfolds, finished}
use Rattle.ghc_term.proofs.Searching.{sizes, popped, falls_away, sees_falls, unfold_falls, nothing_open}
use Rattle.ghc_term.proofs.overlay.Overlay.learn.Goals as goal

pub loop-term-init : goal.loop-term-init
loop-term-init c = begun c.args.x c.args.known.now _ _ c.requires c.in_ok-open_value.ensures

pub loop-term-smaller-then-is_closed : goal.loop-term-smaller-then-is_closed
loop-term-smaller-then-is_closed c =
    let s = all_bound c.args.self.now in
    let less : sizes s (map (λ t. t.now) c.pop.new.self.items) < sizes s (map (λ t. t.now) c.loop-term.waiting.items) = falls_away s _ _ c.in-Some.term.now (popped _ _ c.in-Some.term c.in-Some.ensures.items) in
    less

pub loop-term-preserved-then-is_closed : goal.loop-term-preserved-then-is_closed
loop-term-preserved-then-is_closed c =
    passed c.loop-term.known _ _ c.in-Some.term.now (popped _ _ c.in-Some.term c.in-Some.ensures.items) c.loop-term.invariant (λ y o. absurd (c.is_closed.ensures.0 c.if-is_closed.true y o))

pub loop-term-smaller-in-Continue-branch-2 : goal.loop-term-smaller-in-Continue-branch-2
loop-term-smaller-in-Continue-branch-2 c =
    let s = all_bound c.args.self.now in
    let less : sizes s (map (λ t. t.now) c.see.new.waiting.items) < sizes s (map (λ t. t.now) c.loop-term.waiting.items) =
    sees_falls s (value_in c.args.self.now) (all_acyclic c.args.self.now) (all_is c.args.self.now) c.loop-term.known c.see.new.seen _ _ _ c.in-Var.y c.in-Some.term.now
    c.in-Var.ensures.shown (popped _ _ c.in-Some.term c.in-Some.ensures.items) c.in_ok-see-in-Var.ensures in
    less

pub loop-term-preserved-in-Continue-branch-2 : goal.loop-term-preserved-in-Continue-branch-2
loop-term-preserved-in-Continue-branch-2 c =
    sees c.loop-term.known c.see.new.seen _ _ _ c.in-Var.y c.in-Some.term.now c.in-Var.ensures.shown (popped _ _ c.in-Some.term c.in-Some.ensures.items)
    c.loop-term.invariant c.in_ok-see-in-Var.ensures

pub loop-term-smaller-in-Struct : goal.loop-term-smaller-in-Struct
loop-term-smaller-in-Struct c =
    let s = all_bound c.args.self.now in
    let less : sizes s (map (λ t. t.now) c.push_all.new.waiting.items) < sizes s (map (λ t. t.now) c.loop-term.waiting.items) =
    unfold_falls s _ _ _ c.in-Struct.arguments.now _ c.in-Some.term.now c.in-Struct.ensures.shown (popped _ _ c.in-Some.term c.in-Some.ensures.items) c.in_ok-push_all-in-Struct.ensures in
    less

pub loop-term-preserved-in-Struct : goal.loop-term-preserved-in-Struct
loop-term-preserved-in-Struct c =
    unfolds c.loop-term.known _ _ _ c.in-Struct.arguments.now _ c.in-Some.term.now c.in-Struct.ensures.shown (popped _ _ c.in-Some.term c.in-Some.ensures.items) c.in_ok-push_all-in-Struct.ensures c.loop-term.invariant

pub learn_far-requires : goal.learn_far-requires
learn_far-requires c =
    subst (λ xs. Walking (value_in c.args.self.now) c.loop-term.known (map (λ (b : Bor Tree). b.now) xs)) (sym c.as_slice.ensures.value)
    (unfolds c.loop-term.known _ _ _ c.in-Struct.arguments.now _ c.in-Some.term.now c.in-Struct.ensures.shown (popped _ _ c.in-Some.term c.in-Some.ensures.items) c.in_ok-push_all-in-Struct.ensures c.loop-term.invariant)

pub returns : goal.returns
returns c =
    let none : map (λ (b : Bor Tree). b.now) c.loop-term.waiting.items ≡ [] = nothing_open c.loop-term.waiting.items _ c.loop-term.waiting.ok.0 c.in_default.ensures.cases.0 in
    finished c.loop-term.known (subst (Walking (value_in c.args.self.now) c.loop-term.known) none c.loop-term.invariant)
