use Rattle.ghc_depend.proofs.Words.{◌≡◌, [], ◌∷◌, ◌++◌, take, get_or, sym, subst, take_more, take_all, In, AreDistinct, Record, numbers, HasPlacesOf}
use Rattle.ghc_depend.proofs.Ahead.{places_still, places_more}
use Rattle.ghc_depend.proofs.consequence.add_places.Goals.{in-Some+in-Ok, in_default}
use Rattle.ghc_depend.proofs.consequence.add_places.Goals as goal

pub loop-n-preserved : goal.loop-n-preserved
loop-n-preserved c =
    let ss = c.args.records.now.slots in
    let is = c.len-count.ensures.slots in
    let distinct = subst (λ l. AreDistinct (numbers l)) is c.len-count.ensures.distinct in
    let ns = c.args.ns.now in
    let i = c.loop-n.n-index in
    let n = get_or ns i 0 in
    let old = c.args.ahead.now.keys in
    let more = sym (take_more ns i 0 c.loop-n-test.true) in
    elim c.match-place_of.branch [
      | in-Some+in-Ok w ↦
          let f = w.in-Some.ensures.found in
          let put = places_more ss (take i ns) n old c.loop-n.ahead.keys c.loop-n.invariant distinct w.in-Some.place f.0 f.1 f.2 in
          rw w.ahead-is (subst (λ l. HasPlacesOf ss l old w.insert.new.self.keys) more (subst (HasPlacesOf ss (take i ns ++ n ∷ []) old) (sym w.in-Ok.ensures.keys) put))
      | in_default w ↦
          let none = subst (λ l. (r : Record) → In r l → ¬ (r.number ≡ n)) is w.in_default.ensures.none in
          rw w.ahead-is (subst (λ l. HasPlacesOf ss l old c.loop-n.ahead.keys) more (places_still ss (take i ns) n old c.loop-n.ahead.keys c.loop-n.invariant none))
    ]

pub returns : goal.returns
returns c =
    subst (λ l. HasPlacesOf c.args.records.now.slots l c.args.ahead.now.keys c.loop-n.ahead.keys) (take_all c.loop-n.n-index c.args.ns.now c.loop-n-test.false) c.loop-n.invariant
