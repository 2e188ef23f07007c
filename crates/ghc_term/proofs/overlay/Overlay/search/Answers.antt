use Rattle.ghc_term.proofs.Words.{◌≡◌, ◌<◌, [], ◌∷◌, ◌++◌, map, true, false, refl, sym, ap, ◌∙◌, subst, inr, Bor, Tree, variable, value_in}
use Rattle.ghc_term.proofs.Entries.{same, same_is}
use Rattle.ghc_term.proofs.Searches.{same_itself}
use Rattle.ghc_term.proofs.Total.{same_name}
use Rattle.ghc_term.proofs.Merged.{all_bound, all_acyclic, all_is}
use Rattle.ghc_term.proofs.Reaching.{reaches_in}
use Rattle.ghc_term.proofs.Searching.{Searching, sizes, found, finished, passed, popped, falls_away, sees, sees_falls, unfolds, unfold_falls, nothing_open}
use Rattle.ghc_term.proofs.overlay.Overlay.search.Goals as goal

pub loop-term-smaller-then-is_closed : goal.loop-term-smaller-then-is_closed
loop-term-smaller-then-is_closed c =
    let s = all_bound c.args.self.now in
    let less : sizes s (map (λ t. t.now) c.pop.new.self.items) < sizes s (map (λ t. t.now) c.loop-term.waiting.items) = falls_away s _ _ c.in-Some.term.now (popped _ _ c.in-Some.term c.in-Some.ensures.items) in
    less

pub loop-term-preserved-then-is_closed : goal.loop-term-preserved-then-is_closed
loop-term-preserved-then-is_closed c =
    let all = subst (Searching (value_in c.args.self.now) c.args.to c.args.from.now c.loop-term.seen) (popped _ _ c.in-Some.term c.in-Some.ensures.items) c.loop-term.invariant in
    passed c.loop-term.seen _ c.in-Some.term.now all (λ y o. absurd (c.is_closed.ensures.0 c.if-is_closed.true y o))

pub loop-term-smaller-then-is_known_apart : goal.loop-term-smaller-then-is_known_apart
loop-term-smaller-then-is_known_apart c =
    let s = all_bound c.args.self.now in
    let less : sizes s (map (λ t. t.now) c.pop.new.self.items) < sizes s (map (λ t. t.now) c.loop-term.waiting.items) = falls_away s _ _ c.in-Some.term.now (popped _ _ c.in-Some.term c.in-Some.ensures.items) in
    less

pub loop-term-preserved-then-is_known_apart : goal.loop-term-preserved-then-is_known_apart
loop-term-preserved-then-is_known_apart c =
    let all = subst (Searching (value_in c.args.self.now) c.args.to c.args.from.now c.loop-term.seen) (popped _ _ c.in-Some.term c.in-Some.ensures.items) c.loop-term.invariant in
    passed c.loop-term.seen _ c.in-Some.term.now all (λ y o. inr (λ r. c.is_known_apart.ensures c.if-is_known_apart.true (reaches_in o r)))

pub returns-then-eq : goal.returns-then-eq
returns-then-eq c =
    let all = subst (Searching (value_in c.args.self.now) c.args.to c.args.from.now c.loop-term.seen) (popped _ _ c.in-Some.term c.in-Some.ensures.items) c.loop-term.invariant in
    let names : c.in-Var.x ≡ c.args.to = same_name c.in-Var.x c.args.to (sym (same_is c.in-Var.x c.args.to) ∙ sym c.eq.ensures ∙ c.if-eq.true) in
    let is : c.in-Some.term.now ≡ variable c.args.to = sym c.in-Var.ensures.shown ∙ ap variable names in
    (λ _. found c.loop-term.seen _ (subst (λ z. Searching (value_in c.args.self.now) c.args.to c.args.from.now c.loop-term.seen (map (λ t. t.now) c.pop.new.self.items ++ z ∷ [])) is all), λ _. refl)

pub loop-term-smaller-in-Continue-branch-2 : goal.loop-term-smaller-in-Continue-branch-2
loop-term-smaller-in-Continue-branch-2 c =
    let s = all_bound c.args.self.now in
    let less : sizes s (map (λ t. t.now) c.see.new.waiting.items) < sizes s (map (λ t. t.now) c.loop-term.waiting.items) =
    sees_falls s (value_in c.args.self.now) (all_acyclic c.args.self.now) (all_is c.args.self.now) c.loop-term.seen c.see.new.seen _ _ _ c.in-Var.x c.in-Some.term.now
    c.in-Var.ensures.shown (popped _ _ c.in-Some.term c.in-Some.ensures.items) c.in_ok-see-in-Var.ensures in
    less

pub loop-term-preserved-in-Continue-branch-2 : goal.loop-term-preserved-in-Continue-branch-2
loop-term-preserved-in-Continue-branch-2 c =
    sees c.loop-term.seen c.see.new.seen _ _ _ c.in-Var.x c.in-Some.term.now c.in-Var.ensures.shown (popped _ _ c.in-Some.term c.in-Some.ensures.items)
    (λ e. let clash : true ≡ false = sym (same_itself c.in-Var.x) ∙ ap (same c.in-Var.x) e ∙ sym c.eq.ensures ∙ c.if-eq.false in cc)
    c.loop-term.invariant c.in_ok-see-in-Var.ensures

pub loop-term-smaller-in-Continue-branch-3 : goal.loop-term-smaller-in-Continue-branch-3
loop-term-smaller-in-Continue-branch-3 c =
    let s = all_bound c.args.self.now in
    let less : sizes s (map (λ t. t.now) c.push_all.new.waiting.items) < sizes s (map (λ t. t.now) c.loop-term.waiting.items) =
    unfold_falls s _ _ _ c.in-Struct.arguments.now _ c.in-Some.term.now c.in-Struct.ensures.shown (popped _ _ c.in-Some.term c.in-Some.ensures.items) c.in_ok-push_all-in-Struct.ensures in
    less

pub loop-term-preserved-in-Continue-branch-3 : goal.loop-term-preserved-in-Continue-branch-3
loop-term-preserved-in-Continue-branch-3 c =
    unfolds c.loop-term.seen _ _ _ c.in-Struct.arguments.now _ c.in-Some.term.now c.in-Struct.ensures.shown (popped _ _ c.in-Some.term c.in-Some.ensures.items) c.in_ok-push_all-in-Struct.ensures c.loop-term.invariant

pub returns : goal.returns
returns c =
    let none : map (λ (b : Bor Tree). b.now) c.loop-term.waiting.items ≡ [] = nothing_open c.loop-term.waiting.items _ c.loop-term.waiting.ok.0 c.in_default.ensures.cases.0 in
    let last = subst (Searching (value_in c.args.self.now) c.args.to c.args.from.now c.loop-term.seen) none c.loop-term.invariant in
    (λ h. absurd (let clash : false ≡ true = h in cc), λ r. absurd (finished c.loop-term.seen last r))
