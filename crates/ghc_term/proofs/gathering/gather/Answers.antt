use Rattle.ghc_term.proofs.Words.{◌≡◌, ◌↔◌, [], map, sym, subst, Bor, Tree, VarName, Occurs}
use Rattle.std.specs.FinMap as finite
use Rattle.ghc_term.proofs.Searching.{popped, falls_away, unfold_falls, nothing_open}
use Rattle.ghc_term.proofs.Gathered.{Gathering, added, passed, unfolds, finished, as_told}
use Rattle.ghc_term.proofs.gathering.gather.Goals as goal

pub loop-term-smaller-then-is_closed : goal.loop-term-smaller-then-is_closed
loop-term-smaller-then-is_closed c = falls_away (finite.from_entries []) _ _ c.in-Some.term.now (popped _ _ c.in-Some.term c.in-Some.ensures.items)

pub loop-term-preserved-then-is_closed : goal.loop-term-preserved-then-is_closed
loop-term-preserved-then-is_closed c = passed c.args.into.now c.loop-term.into _ _ c.in-Some.term.now (popped _ _ c.in-Some.term c.in-Some.ensures.items) (c.is_closed.ensures.0 c.if-is_closed.true) c.loop-term.invariant

pub loop-term-smaller-then-branch : goal.loop-term-smaller-then-branch
loop-term-smaller-then-branch c = falls_away (finite.from_entries []) _ _ c.in-Some.term.now (popped _ _ c.in-Some.term c.in-Some.ensures.items)

pub loop-term-preserved-then-branch : goal.loop-term-preserved-then-branch
loop-term-preserved-then-branch c =
    added c.args.into.now c.loop-term.into c.add_kept.new.into _ _ c.in-Some.term.now (popped _ _ c.in-Some.term c.in-Some.ensures.items) (c.in_ok-add_kept.ensures.found c.if-branch.true) c.loop-term.invariant

pub loop-term-smaller-in-Continue-branch-3 : goal.loop-term-smaller-in-Continue-branch-3
loop-term-smaller-in-Continue-branch-3 c = falls_away (finite.from_entries []) _ _ c.in-Some.term.now (popped _ _ c.in-Some.term c.in-Some.ensures.items)

pub loop-term-preserved-in-Continue-branch-3 : goal.loop-term-preserved-in-Continue-branch-3
loop-term-preserved-in-Continue-branch-3 c =
    let same : c.add_kept.new.into ≡ c.loop-term.into = c.in_ok-add_kept.ensures.none c.if-branch.false in
    let now = subst (λ z. Gathering (λ y. Occurs y c.args.from.now) c.args.into.now z (map (λ t. t.now) c.loop-term.waiting.items)) (sym same) c.loop-term.invariant in
    let told : (y : VarName) → (y ≡ c.in-Var.x) ↔ Occurs y c.in-Some.term.now = λ y. subst (λ t. (y ≡ c.in-Var.x) ↔ Occurs y t) c.in-Var.ensures.shown (λ e. e, λ e. e) in
    added c.args.into.now c.add_kept.new.into c.add_one.new.into _ _ c.in-Some.term.now (popped _ _ c.in-Some.term c.in-Some.ensures.items)
    (as_told c.add_kept.new.into c.add_one.new.into told c.in_ok-add_one-in-Var.ensures) now

pub loop-term-smaller-in-Continue-branch-4 : goal.loop-term-smaller-in-Continue-branch-4
loop-term-smaller-in-Continue-branch-4 c =
    unfold_falls (finite.from_entries []) _ _ _ c.in-Struct.arguments.now _ c.in-Some.term.now c.in-Struct.ensures.shown (popped _ _ c.in-Some.term c.in-Some.ensures.items) c.in_ok-push_all-in-Struct.ensures

pub loop-term-preserved-in-Continue-branch-4 : goal.loop-term-preserved-in-Continue-branch-4
loop-term-preserved-in-Continue-branch-4 c =
    let same : c.add_kept.new.into ≡ c.loop-term.into = c.in_ok-add_kept.ensures.none c.if-branch.false in
    let now = subst (λ z. Gathering (λ y. Occurs y c.args.from.now) c.args.into.now z (map (λ t. t.now) c.loop-term.waiting.items)) (sym same) c.loop-term.invariant in
    unfolds c.args.into.now c.add_kept.new.into _ _ _ c.in-Struct.arguments.now _ c.in-Some.term.now c.in-Struct.ensures.shown (popped _ _ c.in-Some.term c.in-Some.ensures.items) c.in_ok-push_all-in-Struct.ensures now

pub returns : goal.returns
returns c =
    let none : map (λ (b : Bor Tree). b.now) c.loop-term.waiting.items ≡ [] = nothing_open c.loop-term.waiting.items _ c.loop-term.waiting.ok.0 c.in_default.ensures.cases.0 in
    finished c.args.into.now c.loop-term.into (subst (Gathering (λ y. Occurs y c.args.from.now) c.args.into.now c.loop-term.into) none c.loop-term.invariant)
