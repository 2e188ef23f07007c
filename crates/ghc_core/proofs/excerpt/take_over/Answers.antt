use Rattle.ghc_core.proofs.Words.{◌≡◌, map, ap, sym, ◌∙◌, subst, Some, value_at, Tree}
use Rattle.std.specs.Borrow.{Bor}
use Rattle.std.specs.FinMap as finite
use Rattle.std.specs.Prelude.{option_copied}
use Rattle.ghc_term.proofs.Names.{name_total}
use Rattle.ghc_term.proofs.Merged.{by_answers}
use Rattle.ghc_term.specs.Bindings.{with_binding}
use Rattle.ghc_core.specs.inner.CutOut.{OpenOnesWait, TakesOver, is_unbound, takes}
use Rattle.ghc_core.proofs.CutOut.{is_bound, not_bound}
use Rattle.ghc_core.proofs.excerpt.take_over.Goals as goal

pub returns-then-is_some : goal.returns-then-is_some
returns-then-is_some c = is_bound c.get.result c.get.ensures (sym c.is_some.ensures ∙ c.if-is_some.true)

pub returns-in_default : goal.returns-in_default
returns-in_default c =
    is_unbound (not_bound c.get.result c.get.ensures (sym c.is_some.ensures ∙ c.if-is_some.false)) (sym c.get-2.ensures ∙ ap option_copied c.in_default.is)

pub returns : goal.returns
returns c =
    let S = value_at c.args.store.now.held in
    let m = c.args.cut.now.held in
    let x = c.args.x in
    let u = c.in-Some.value.now in
    let same : finite.insert m x c.in_ok-share.field-0 ≡ finite.insert m x u = ap (finite.insert m x) c.in_ok-share.ensures in
    let bound : value_at c.bind.new.self.held ≡ with_binding (value_at m) x u = ap value_at (c.in-Ok.ensures.ok ∙ same) ∙ by_answers (λ y. finite.get-insert name_total m x u y) in
    let free = not_bound c.get.result c.get.ensures (sym c.is_some.ensures ∙ c.if-is_some.false) in
    let found : S x ≡ Some u = sym c.get-2.ensures ∙ ap option_copied c.in-Some.is in
    let now = map (λ (b : Bor Tree). b.now) in
    let old = now c.args.waiting.now.items in
    let new = now c.push_all.new.waiting.items in
    subst (λ M'. TakesOver S x (value_at m) M' old new) (sym bound) (takes free found (subst (λ l. OpenOnesWait l old new) c.from_ref.ensures.value c.in_ok-push_all.ensures))
