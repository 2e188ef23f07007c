use Rattle.ghc_core.proofs.Words.{◌≡◌, ◌++◌, [], ◌∷◌, map, ap, sym, ◌∙◌, subst, arith, value_at, Tree}
use Rattle.std.proofs.lemmas.Bool.{eqb-true}
use Rattle.std.specs.FinMap as finite
use Rattle.ghc_term.specs.Bindings.{name_cmp}
use Rattle.std.specs.Borrow.{Bor}
use Rattle.ghc_term.proofs.Searching.{popped, nothing_open}
use Rattle.ghc_core.specs.inner.CutOut.{IsCuttingOut, IsGoingThrough}
use Rattle.ghc_core.proofs.CutOut.{cut_begins, cut_ends, opened, taken_over, seen_closed}
use Rattle.ghc_core.proofs.GoingThrough.{open_ones_of, going_begins, some_wait, left_over, never_waits, goes_into, goes_over}
use Rattle.ghc_core.proofs.excerpt.cut_out.Goals as goal
use Rattle.ghc_core.proofs.excerpt.cut_out.Goals.{in-Var+in_ok-take_over-in-Var, in-Struct+in_ok-push_all-in-Struct, in_default-view}

pub loop-init : goal.loop-init
loop-init c =
    let S = value_at c.args.store.now.held in
    let ts = c.args.terms.now in
    let open_ones = open_ones_of ts _ _ (ap (map (λ (b : Bor Tree). b.now)) c.new-waiting.ensures.items) c.in_ok-push_all.ensures in
    record {
      cutting = cut_begins _ open_ones (λ x. ap (λ m. value_at m x) c.new-cut.ensures ∙ finite.get-empty name_cmp x);
      going = going_begins S ts _ open_ones;
    }

pub returns-in_default : goal.returns-in_default
returns-in_default c =
    let none : map (λ (b : Bor Tree). b.now) c.loop.waiting.items ≡ [] = nothing_open c.loop.waiting.items _ c.loop.waiting.ok.0 c.in_default.ensures.cases.0 in
    cut_ends (subst (IsCuttingOut (value_at c.args.store.now.held) (value_at c.loop.cut.held) c.args.terms.now) none c.loop.invariant.cutting)

pub loop-preserved : goal.loop-preserved
loop-preserved c =
    let S = value_at c.args.store.now.held in
    let m = value_at c.loop.cut.held in
    let ts = c.args.terms.now in
    let i = c.loop.counter in
    let t = c.in-Some.term.now in
    let now = map (λ (b : Bor Tree). b.now) in
    let rest = now c.pop.new.self.items in
    let all = subst (IsCuttingOut S m ts) (popped _ _ c.in-Some.term c.in-Some.ensures.items) c.loop.invariant.cutting in
    let going = subst (λ l. IsGoingThrough S ts l i) (popped _ _ c.in-Some.term c.in-Some.ensures.items) c.loop.invariant.going in
    elim c.match-view.branch [
      | in-Var+in_ok-take_over-in-Var w ↦
          let takes = w.in_ok-take_over-in-Var.ensures in
          let is = sym w.in-Var.ensures.shown in
          rw w.cut-is (rw w.waiting-is (record {
            cutting = taken_over S ts _ m w.in-Var.x _ _ takes (subst (λ z. IsCuttingOut S m ts (rest ++ z ∷ [])) is all);
            going = goes_over S ts i rest m w.in-Var.x _ _ takes (subst (λ z. IsGoingThrough S ts (rest ++ z ∷ []) i) is going);
          }))
      | in-Struct+in_ok-push_all-in-Struct w ↦
          let waits = w.in_ok-push_all-in-Struct.ensures in
          let is = sym w.in-Struct.ensures.shown in
          rw w.cut-is (rw w.waiting-is (record {
            cutting = opened S ts _ m _ w.in-Struct.arguments.now _ waits (subst (λ z. IsCuttingOut S m ts (rest ++ z ∷ [])) is all);
            going = goes_into S ts i rest _ w.in-Struct.arguments.now _ waits (subst (λ z. IsGoingThrough S ts (rest ++ z ∷ []) i) is going);
          }))
      | in_default-view w ↦ absurd (never_waits S ts i rest t (seen_closed c.view.result t c.view.ensures.shown w.in_default-view.not-Var w.in_default-view.not-Struct) going)
    ]

pub returns-then-is_empty : goal.returns-then-is_empty
returns-then-is_empty c =
    let none : map (λ (b : Bor Tree). b.now) c.loop.waiting.items ≡ [] = nothing_open c.loop.waiting.items _ c.loop.waiting.ok.0 (eqb-true _ _ (sym c.is_empty.ensures ∙ c.if-is_empty.true)) in
    cut_ends (subst (IsCuttingOut (value_at c.args.store.now.held) (value_at c.loop.cut.held) c.args.terms.now) none c.loop.invariant.cutting)

pub returns : goal.returns
returns c =
    let some = some_wait c.loop.waiting.items _ c.loop.waiting.ok.0 (sym c.is_empty.ensures ∙ c.if-is_empty.false) in
    λ few. let over = left_over (value_at c.args.store.now.held) c.args.terms.now _ c.loop.counter few.0 some c.loop.invariant.going few.1 in omega (arith, few.2, c.loop-test.false)
