use Rattle.ghc_depend.proofs.Words.{◌+◌, take, sym, ap, ◌∙◌, subst}
use Rattle.ghc_depend.proofs.OnePass.{ArePut, put_none, put_one, put_all}
use Rattle.ghc_depend.proofs.one_pass.add_bound.Goals as goal

pub loop-x-init : goal.loop-x-init
loop-x-init c = put_none c.args.bound.now.keys

pub loop-x-preserved : goal.loop-x-preserved
loop-x-preserved c =
    let es = c.entries-x-items.result.now in
    let i = c.loop-x.x-index in
    let old = c.args.bound.now.keys in
    subst (ArePut old (take (i + 1) es)) (sym c.in-Ok.ensures.keys) (put_one old es i c.loop-x-item.result c.loop-x-test.true c.loop-x-item.is c.loop-x.bound.keys c.loop-x.invariant)

pub returns : goal.returns
returns c =
    let es = c.entries-x-items.result.now in
    let r = c.args.step.now in
    put_all c.args.bound.now.keys es c.loop-x.x-index c.loop-x.bound.keys r c.loop-x-test.false (c.entries-x-items.ensures.all ∙ c.binds.ensures ∙ ap (λ e. e.binds) c.effect.ensures) c.loop-x.invariant
