use Rattle.ghc_trace.proofs.Words.{◌≡◌, ◌+◌, [], ◌∷◌, ◌++◌, get_or, take, sym, subst, arith, take_more, take_all, AreDistinct, numbers}
use Rattle.ghc_trace.specs.Causes.{HasNumbered}
use Rattle.ghc_trace.proofs.CausePlaces.{numbered_none, numbered_still, numbered_more}
use Rattle.ghc_trace.proofs.slices.add_numbered.Goals.{in-Some+in-Ok, in_default}
use Rattle.ghc_trace.proofs.slices.add_numbered.Goals as goal

pub loop-n-init : goal.loop-n-init
loop-n-init c = numbered_none c.args.records.now.slots c.args.places.now.keys

pub loop-n-preserved : goal.loop-n-preserved
loop-n-preserved c =
    let ss = c.args.records.now.slots in
    let is = c.len-count.ensures.slots in
    let distinct = subst (λ l. AreDistinct (numbers l)) is c.len-count.ensures.distinct in
    let ns = c.args.ns.now in
    let i = c.loop-n.n-index in
    let n = get_or ns i 0 in
    let old = c.args.places.now.keys in
    let ks = c.loop-n.places.keys in
    let more : take (i + 1) ns ≡ take i ns ++ n ∷ [] = take_more ns i 0 c.loop-n-test.true in
    elim c.match-place_of.branch [
      | in-Some+in-Ok w ↦ rw w.places-is (subst (λ l. HasNumbered ss l old w.insert.new.self.keys) (sym more)
          (subst (λ new. HasNumbered ss (take i ns ++ n ∷ []) old new) (sym w.in-Ok.ensures.keys) (numbered_more ss (take i ns) n old ks c.loop-n.invariant distinct w.in-Some.place w.in-Some.ensures.found)))
      | in_default w ↦ rw w.places-is (subst (λ l. HasNumbered ss l old ks) (sym more) (numbered_still ss (take i ns) n old ks c.loop-n.invariant (rw is at w.in_default.ensures.none)))
    ]

pub returns : goal.returns
returns c = subst (λ l. HasNumbered c.args.records.now.slots l c.args.places.now.keys c.loop-n.places.keys) (take_all c.loop-n.n-index c.args.ns.now (omega (arith, c.loop-n-test.false))) c.loop-n.invariant
