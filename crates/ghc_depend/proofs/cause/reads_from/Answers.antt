use Rattle.ghc_depend.proofs.Words.{◌≡◌, true, false, refl, sym, ap, ◌∙◌, arith, take_all, one_more_member, In_at, has_member, is_member, Binds}
use Rattle.std.specs.FinSet as set
use Rattle.ghc_depend.proofs.cause.reads_from.Goals as goal

pub returns-then-binds : goal.returns-then-binds
returns-then-binds c =
    let items = c.members-x-items.result.now in
    let all : set.from_list items ≡ c.args.later.now.effect.reads = c.members-x-items.ensures.all ∙ c.reads.ensures ∙ ap (λ f. f.reads) c.effect.ensures in
    let there = In_at items c.loop-x.x-index (record { step = 0; place = 0 }) c.loop-x-test.true in
    (λ _. (_, (has_member c.args.later.now.effect.reads items all _ there, c.binds.ensures.0 c.if-binds.true)), λ _. refl)

pub loop-x-preserved : goal.loop-x-preserved
loop-x-preserved c =
    one_more_member (λ x. ¬ Binds c.args.earlier.now x) c.members-x-items.result.now c.loop-x.x-index (record { step = 0; place = 0 }) c.loop-x-test.true c.loop-x.invariant
    (λ h. let clash : true ≡ false = sym (c.binds.ensures.1 h) ∙ c.if-binds.false in cc)

pub returns : goal.returns
returns c = grind (arith, take_all, is_member)
