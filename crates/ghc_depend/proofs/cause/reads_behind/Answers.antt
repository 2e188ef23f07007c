use Rattle.ghc_depend.proofs.Words.{◌≡◌, true, false, refl, sym, ap, ◌∙◌, subst, arith, take_all, In, one_more_member, In_at, has_member, is_member, Record, StandsIn, IsBoundBehind}
use Rattle.std.specs.FinSet as set
use Rattle.ghc_depend.proofs.cause.reads_behind.Goals as goal

pub returns-then-is_bound_behind : goal.returns-then-is_bound_behind
returns-then-is_bound_behind c a at =
    let items = c.members-x-items.result.now in
    let all : set.from_list items ≡ c.args.later.now.effect.reads = c.members-x-items.ensures.all ∙ c.reads.ensures ∙ ap (λ f. f.reads) c.effect.ensures in
    let there = In_at items c.loop-x.x-index (record { step = 0; place = 0 }) c.loop-x-test.true in (
      λ _. (_, has_member c.args.later.now.effect.reads items all _ there, (c.is_bound_behind.ensures a at).0 c.if-is_bound_behind.true),
      λ _. refl,
    )

pub loop-x-preserved : goal.loop-x-preserved
loop-x-preserved c =
    let rs = c.args.records.now.held in
    one_more_member (λ x. (a : Record) → StandsIn c.args.records.now.slots c.args.place a → ¬ IsBoundBehind rs a x) c.members-x-items.result.now c.loop-x.x-index (record { step = 0; place = 0 }) c.loop-x-test.true c.loop-x.invariant
    (λ a at h. let clash : true ≡ false = sym ((c.is_bound_behind.ensures a at).1 h) ∙ c.if-is_bound_behind.false in cc)

pub returns : goal.returns
returns c a at =
    let items = c.members-x-items.result.now in
    let all : set.from_list items ≡ c.args.later.now.effect.reads = c.members-x-items.ensures.all ∙ c.reads.ensures ∙ ap (λ f. f.reads) c.effect.ensures in (
      λ h. absurd (let clash : false ≡ true = h in cc),
      λ t. absurd (c.loop-x.invariant t.0 (subst (In t.0) (sym (take_all c.loop-x.x-index items (omega (arith, c.loop-x-test.false)))) (is_member c.args.later.now.effect.reads items all t.0 t.1)) a at t.2),
    )
