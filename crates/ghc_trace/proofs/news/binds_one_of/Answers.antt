use Rattle.ghc_trace.proofs.Words.{◌≡◌, true, false, get_or, refl, ap, sym, subst, ◌∙◌, IsTrue, is_some, take_all, In, VarName, each_next, in_get, not_both, has_member, is_member}
use Rattle.std.specs.FinMap as finite
use Rattle.ghc_trace.proofs.Disturbing.{handled}
use Rattle.ghc_trace.proofs.news.binds_one_of.Goals as goal

pub returns-then-is_some : goal.returns-then-is_some
returns-then-is_some c =
    let none : VarName = record { step = 0; place = 0 } in
    let xs = c.members-x-items.result.now in
    let x = get_or xs c.loop-x.x-index none in (
      λ yes. (x, has_member c.args.xs.now xs c.members-x-items.ensures.all x (in_get xs c.loop-x.x-index none c.loop-x-test.true), ap is_some (sym c.get.ensures) ∙ handled c.get.result ∙ sym c.is_some.ensures ∙ c.if-is_some.true),
      λ h. refl,
    )

pub loop-x-preserved : goal.loop-x-preserved
loop-x-preserved c =
    each_next (λ y. ¬ IsTrue (finite.contains_key c.args.binds.now y)) c.members-x-items.result.now c.loop-x.x-index (record { step = 0; place = 0 }) c.loop-x-test.true c.loop-x.invariant
    (λ bound. not_both c.is_some.result c.if-is_some.false (c.is_some.ensures ∙ sym (handled c.get.result) ∙ ap is_some c.get.ensures ∙ bound))

pub returns : goal.returns
returns c =
    let xs = c.members-x-items.result.now in (
      λ no. absurd (let clash : false ≡ true = no in cc),
      λ h. absurd (c.loop-x.invariant h.0 (subst (In h.0) (sym (take_all c.loop-x.x-index xs c.loop-x-test.false)) (is_member c.args.xs.now xs c.members-x-items.ensures.all h.0 h.1)) h.2),
    )
