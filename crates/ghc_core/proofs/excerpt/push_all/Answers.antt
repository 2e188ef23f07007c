use Rattle.std.proofs.Common.{arith}
use Rattle.std.specs.Prelude.{true, false}
use Rattle.std.proofs.lemmas.List.{take_more, take_all}
use Rattle.std.specs.Borrow.{Bor}
use Rattle.ghc_term.proofs.Searching.{popped}
use Rattle.ghc_core.proofs.Words.{◌≡◌, ◌+◌, ◌++◌, [], ◌∷◌, map, take, ap, sym, ◌∙◌, subst, Tree}
use Rattle.ghc_core.specs.inner.CutOut.{OpenOnesWait}
use Rattle.ghc_core.proofs.GoingThrough.{none_waits, open_one_waits, closed_one_does_not}
use Rattle.ghc_core.proofs.excerpt.push_all.Goals.{then-not-is_closed+in_ok-push, else-not-is_closed}
use Rattle.ghc_core.proofs.excerpt.push_all.Goals as goal

pub loop-term-init : goal.loop-term-init
loop-term-init c = none_waits _

pub loop-term-preserved : goal.loop-term-preserved
loop-term-preserved c =
    let ts = c.args.terms.now in
    let i = c.loop-term.term-index in
    let t = c.term-item.result in
    let now = map (λ (b : Bor Tree). b.now) in
    let old = now c.args.waiting.now.items in
    let one_more : take (i + 1) ts ≡ take i ts ++ t ∷ [] = take_more ts i t c.loop-term-test.true ∙ ap (λ u. take i ts ++ u ∷ []) (sym c.term-item.is) in
    elim c.if-not-is_closed.branch [
      | then-not-is_closed+in_ok-push w ↦ rw w.waiting-is (subst (OpenOnesWait (take (i + 1) ts) old) (sym (popped _ _ _ w.in_ok-push.ensures.items))
          (open_one_waits _ old _ _ t one_more c.loop-term.invariant (λ shut. let clash : false ≡ true = sym w.if-not-is_closed.true ∙ c.is_closed.ensures.1 shut in cc)))
      | else-not-is_closed w ↦ rw w.waiting-is (closed_one_does_not _ old _ _ t one_more c.loop-term.invariant (c.is_closed.ensures.0 w.if-not-is_closed.false))
    ]

pub returns : goal.returns
returns c =
    let now = map (λ (b : Bor Tree). b.now) in
    subst (λ l. OpenOnesWait l (now c.args.waiting.now.items) (now c.loop-term.waiting.items)) (take_all c.loop-term.term-index c.args.terms.now (omega (arith, c.loop-term-test.false))) c.loop-term.invariant
