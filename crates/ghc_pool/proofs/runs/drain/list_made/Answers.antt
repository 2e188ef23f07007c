use Rattle.std.proofs.Common.{◌≡◌, ℕ, suc, ◌+◌, ◌-◌, ◌<◌, [], ◌∷◌, ◌++◌, refl, sym, ap, ◌∙◌, arith, append_assoc, append-nil}
use Rattle.std.proofs.lemmas.Result.{err_from_is_err_and}
use Rattle.ghc_pool.specs.inner.Meeting.{made_back}
use Rattle.ghc_pool.proofs.runs.drain.list_made.Goals as goal

-- the next goal is the first of those that are left
next_made : (step n i : ℕ) → i < n → made_back step (n - i) ≡ record { step = step; place = n - i } ∷ made_back step (n - (i + 1))
next_made step n i low = let e : n - i ≡ suc (n - (i + 1)) = omega (arith, low) in rw e refl

pub loop-index-preserved : goal.loop-index-preserved
loop-index-preserved c =
    let step = c.args.step in
    let n = c.args.count in
    let i = c.loop-index.index in
    let old = c.loop-index.listed.items in
    let rest = made_back step (n - (i + 1)) in
    ap (λ l. l ++ rest) c.in_ok-push.ensures.items ∙ append_assoc old (record { step = step; place = n - i } ∷ []) rest ∙ ap (λ l. old ++ l) (sym (next_made step n i c.loop-index-test.true)) ∙ c.loop-index.invariant

pub returns-in_err-push-clause-some : goal.returns-in_err-push-clause-some
returns-in_err-push-clause-some c =
    let rest = made_back c.args.step (c.args.count - c.loop-index.index) in
    rw (err_from_is_err_and c.from_residual.result c.from_residual.ensures.1).1 (rest, ap (λ l. l ++ rest) c.in_err-push.ensures.items ∙ c.loop-index.invariant)

pub returns-clause-all : goal.returns-clause-all
returns-clause-all c =
    let none : c.args.count - c.loop-index.index ≡ 0 = omega (arith, c.loop-index-test.false) in
    sym (append-nil _) ∙ ap (λ k. c.loop-index.listed.items ++ made_back c.args.step k) (sym none) ∙ c.loop-index.invariant
