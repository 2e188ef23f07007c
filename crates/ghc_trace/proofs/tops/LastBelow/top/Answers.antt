use Rattle.ghc_trace.proofs.Words.{◌≡◌, ◌<◌, length, Option, Some, refl, sym, subst, slice_get}
use Rattle.std.proofs.lemmas.Option.{slice_get_read}
use Rattle.std.specs.Prelude.{IfSome}
use Rattle.ghc_trace.proofs.CallTops.{IsOnTheWay, fewer_left, first_within, left_from, next_within, way_begins, way_ends, way_goes_on}
use Rattle.ghc_trace.specs.declared.answered.ToldWrong.{ToldWrong}
use Rattle.ghc_trace.proofs.tops.LastBelow.top.Goals as goal

pub loop-next-init : goal.loop-next-init
loop-next-init c = (first_within c.args.self.now c.requires, λ rs t target told calls are. way_begins rs t target told calls c.args.self.now are)

pub loop-next-preserved : goal.loop-next-preserved
loop-next-preserved c =
    let last = c.args.self.now in
    let w = c.in-Some.wrong in
    let low = subst (λ (o : Option ToldWrong). IfSome o (λ w. w.call < length last.calls.items)) c.in-Some.is c.loop-next.invariant.0 in
    let next = c.index-next.result.now in
    let there : slice_get last.calls.items w.call ≡ Some next = slice_get_read last.calls.items (length last.calls.items) w.call next refl low c.index-next.ensures in (
      next_within last c.requires w.call next there,
      λ rs t target told calls are.
          let way = subst (IsOnTheWay rs t target told calls c.loop-next.top) c.in-Some.is (c.loop-next.invariant.1 rs t target told calls are) in
          way_goes_on rs t target told calls last are c.loop-next.top w next way there,
    )

pub loop-next-smaller : goal.loop-next-smaller
loop-next-smaller c =
    let last = c.args.self.now in
    let w = c.in-Some.wrong in
    let low = subst (λ (o : Option ToldWrong). IfSome o (λ w. w.call < length last.calls.items)) c.in-Some.is c.loop-next.invariant.0 in
    let next = c.index-next.result.now in
    let there : slice_get last.calls.items w.call ≡ Some next = slice_get_read last.calls.items (length last.calls.items) w.call next refl low c.index-next.ensures in
    subst (λ (o : Option ToldWrong). left_from (length last.calls.items) next < left_from (length last.calls.items) o) (sym c.in-Some.is) (fewer_left last c.requires w.call next low there)

pub returns : goal.returns
returns c rs t target told calls are =
    way_ends rs t target told calls c.args.self.now are c.loop-next.top (subst (IsOnTheWay rs t target told calls c.loop-next.top) c.in_default.is (c.loop-next.invariant.1 rs t target told calls are))
