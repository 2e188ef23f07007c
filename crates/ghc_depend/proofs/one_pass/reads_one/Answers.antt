use Rattle.ghc_depend.proofs.Words.{◌≡◌, true, false, get_or, refl, sym, ap, ◌∙◌, subst, arith, VarName, In, take_all, one_more_member, In_at, has_member, is_member}
use Rattle.std.specs.FinSet as set
use Rattle.ghc_depend.proofs.OnePass.{has_variable}
use Rattle.ghc_depend.proofs.one_pass.reads_one.Goals as goal

pub returns-then-contains : goal.returns-then-contains
returns-then-contains c =
    let items = c.members-x-items.result.now in
    let all : set.from_list items ≡ c.args.later.now.effect.reads = c.members-x-items.ensures.all ∙ c.reads.ensures ∙ ap (λ f. f.reads) c.effect.ensures in
    let x = get_or items c.loop-x.x-index (record { step = 0; place = 0 }) in
    let there = In_at items c.loop-x.x-index (record { step = 0; place = 0 }) c.loop-x-test.true in
    let has = has_variable c.args.bound.now x c.contains.result c.contains.ensures in
    (λ _. (x, has_member c.args.later.now.effect.reads items all x there, has.0 c.if-contains.true), λ _. refl)

pub loop-x-preserved : goal.loop-x-preserved
loop-x-preserved c =
    let items = c.members-x-items.result.now in
    let x = get_or items c.loop-x.x-index (record { step = 0; place = 0 }) in
    let has = has_variable c.args.bound.now x c.contains.result c.contains.ensures in
    one_more_member (λ x. ¬ In x c.args.bound.now.keys) items c.loop-x.x-index (record { step = 0; place = 0 }) c.loop-x-test.true c.loop-x.invariant
    (λ i. let clash : true ≡ false = sym (has.1 i) ∙ c.if-contains.false in cc)

pub returns : goal.returns
returns c =
    let items = c.members-x-items.result.now in
    let all : set.from_list items ≡ c.args.later.now.effect.reads = c.members-x-items.ensures.all ∙ c.reads.ensures ∙ ap (λ f. f.reads) c.effect.ensures in (
      λ e. absurd (let clash : false ≡ true = e in cc),
      λ w. absurd (c.loop-x.invariant w.0 (subst (In w.0) (sym (take_all c.loop-x.x-index items c.loop-x-test.false)) (is_member c.args.later.now.effect.reads items all w.0 w.1)) w.2),
    )
