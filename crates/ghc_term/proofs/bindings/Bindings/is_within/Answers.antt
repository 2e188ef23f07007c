use Rattle.ghc_term.proofs.Words.{◌≡◌, true, false, sym, ap, ◌∙◌, subst, refl, length, Some, slice_get_read, AreOnce, In, value_at}
use Rattle.std.specs.FinMap as finite
use Rattle.std.proofs.lemmas.List.{take_all}
use Rattle.ghc_term.proofs.BindingLists.{value_there}
use Rattle.ghc_term.proofs.ListsLemmas.{each_next, in_at, not_both}
use Rattle.ghc_term.proofs.MapsLemmas.{place_of}
use Rattle.ghc_term.proofs.Names.{name_total}
use Rattle.ghc_term.proofs.bindings.Bindings.is_within.Goals as goal

pub returns-then-not-branch : goal.returns-then-not-branch
returns-then-not-branch c =
    let es = c.entries-x-items.result.now in
    let b = c.loop-x-item.result in
    let different : AreOnce es = subst AreOnce (sym c.entries-x-items.ensures) c.self.invariant in
    let here = value_there es c.loop-x.x-index b different (slice_get_read es (length es) c.loop-x.x-index b refl c.loop-x-test.true c.loop-x-item.is) in (
      λ h. absurd (let clash : false ≡ true = h in cc),
      λ w. absurd (not_both c.in_ok-binds.field-0 c.if-not-branch.true (c.in_ok-binds.ensures.1 (w b.0 b.1 (sym (ap (λ l. value_at (finite.from_entries l) b.0) c.entries-x-items.ensures ∙ ap (λ m. value_at m b.0) c.self.view_is) ∙ here)))),
    )

pub loop-x-preserved : goal.loop-x-preserved
loop-x-preserved c =
    let b = c.loop-x-item.result in
    each_next (λ b. value_at c.args.other.now b.0 ≡ Some b.1) c.entries-x-items.result.now c.loop-x.x-index b c.loop-x-test.true c.loop-x.invariant
    (subst (λ b. value_at c.args.other.now b.0 ≡ Some b.1) c.loop-x-item.is (c.in_ok-binds.ensures.0 c.if-not-branch.false))

pub returns : goal.returns
returns c = (
  λ h x t g.
      let es = c.entries-x-items.result.now in
      let found = place_of x t es (sym (finite.get-from_entries name_total es x) ∙ ap (λ l. value_at (finite.from_entries l) x) c.entries-x-items.ensures ∙ ap (λ m. value_at m x) c.self.view_is ∙ g) in
      c.loop-x.invariant (x, t) (subst (In (x, t)) (sym (take_all c.loop-x.x-index es c.loop-x-test.false)) (in_at es found.0 (x, t) found.2)),
  λ w. refl,
)
