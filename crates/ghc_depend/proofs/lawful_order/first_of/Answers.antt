use Rattle.ghc_depend.proofs.Words.{take, get_or, sym, subst, take_more, take_all, In}
use Rattle.ghc_depend.proofs.InTime.{AreNoFurther, no_further_more}
use Rattle.ghc_depend.proofs.lawful_order.first_of.Goals as goal

pub loop-number-preserved : goal.loop-number-preserved
loop-number-preserved c =
    let ns = c.args.numbers.now in
    let i = c.loop-number.number-index in
    let keys = c.args.places.now.keys in
    subst (λ l. AreNoFurther keys c.args.place l c.args.first c.no_further-least.result) (sym (take_more ns i 0 c.loop-number-test.true))
    (no_further_more keys c.args.place (take i ns) (get_or ns i 0) c.args.first c.loop-number.least c.no_further-least.result c.loop-number.invariant c.no_further-least.ensures.within c.no_further-least.ensures.found)

pub returns-clause-within : goal.returns-clause-within
returns-clause-within c = c.loop-number.invariant.0

pub returns-clause-numbers : goal.returns-clause-numbers
returns-clause-numbers c n d =
    let ns = c.args.numbers.now in
    c.loop-number.invariant.1 n (subst (In n) (sym (take_all c.loop-number.number-index ns c.loop-number-test.false)) d)
