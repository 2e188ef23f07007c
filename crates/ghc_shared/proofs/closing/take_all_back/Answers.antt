use Rattle.ghc_shared.proofs.Words.{drop, sym, subst, ◌∙◌, arith, length-append, ◌∷◌, [], All, IsStrictlyIncreasing, map-id, All-append, All-cons, All-nil, YieldsList-from_vec, YieldsList-end, ArePlacesBy, Known}
use mathlib.Core.List.{IsPrefix}
use Rattle.ghc_shared.proofs.PlacesOnce.{weight-one, weight_more, theirs_too, increasing}
use Rattle.ghc_shared.proofs.closing.take_all_back.Goals as goal

pub loop-pass-preserved : goal.loop-pass-preserved
loop-pass-preserved g c =
    let was = c.loop-pass.invariant in
    let t = c.take_back.ensures in
    let p = c.in-Some.pass in
    let so_far = c.loop-pass.yielded in
    let log = c.args.seat.now.me.0.seen in
    let base = g.N.Naming.base in
    let Begins : Known g.row.C-Item.Denot → Type 0 = λ q. IsPrefix q.front (g.C.Growing.history c.args.value.now) in
    let Rises : Known g.row.C-Item.Denot → Type 0 = λ q. IsStrictlyIncreasing q.places in
    let theirs = subst (λ m. ArePlacesBy p.number base (drop base m.0.seen) p.places) was.1 t.theirs in (
      t.seat.0 ∙ was.0,
      t.seat.1 ∙ was.1,
      omega (arith, t.rest.0, was.2, length-append so_far (p ∷ [])),
      omega (arith, t.rest.1, was.3, weight_more (λ _. 1) so_far p, weight-one p.places),
      All-append Begins so_far (p ∷ []) was.4 (All-cons Begins p [] t.begins (All-nil Begins)),
      All-append Rises so_far (p ∷ []) was.5 (All-cons Rises p [] (increasing p.number base (drop base log) p.places theirs) (All-nil Rises)),
      theirs_too base (drop base log) so_far p was.6 theirs,
    )

pub returns-clause-begins : goal.returns-clause-begins
returns-clause-begins g c =
    let Begins : Known g.row.C-Item.Denot → Type 0 = λ q. IsPrefix q.front (g.C.Growing.history c.args.value.now) in
    let gives = c.into_iter-pass-iterator.ensures.into_iter_gives in
    let all = YieldsList-from_vec {s = c.into_iter-pass-iterator.result} c.args.passes.items gives.0 (gives.1 ∙ c.args.passes.ok.0) in
    let end = YieldsList-end all c.loop-pass.yielded c.loop-pass.pass-iterator c.loop-pass.yielded_by c.next.result c.next.new.self c.in-None.is c.next.ensures.steps in
    subst (All Begins) (sym (map-id c.loop-pass.yielded) ∙ end.0) c.loop-pass.invariant.4
