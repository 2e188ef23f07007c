use Rattle.ghc_depend.proofs.Words.{◌≡◌, take, get_or, Some, sym, subst, take_more, take_all, In, AreDistinct, Record, numbers, IsFirstAmong}
use Rattle.ghc_depend.proofs.FirstPlace.{first_still, first_more}
use Rattle.ghc_depend.proofs.consequence.first_among.Goals.{in-Some, in_default}
use Rattle.ghc_depend.proofs.consequence.first_among.Goals as goal

pub loop-n-preserved : goal.loop-n-preserved
loop-n-preserved c =
    let ss = c.args.records.now.slots in
    let is = c.len-count.ensures.slots in
    let distinct = subst (λ l. AreDistinct (numbers l)) is c.len-count.ensures.distinct in
    let ns = c.args.ns.now in
    let i = c.loop-n.n-index in
    let n = get_or ns i 0 in
    let more = sym (take_more ns i 0 c.loop-n-test.true) in
    elim c.match-place_of.branch [
      | in-Some w ↦
          let f = w.in-Some.ensures.found in
          rw w.first-is (subst (λ l. IsFirstAmong ss l (Some w.sooner.result)) more
          (first_more ss distinct (take i ns) n c.loop-n.first c.loop-n.invariant w.in-Some.place w.sooner.result f.0 f.1 f.2 w.sooner.ensures.place w.sooner.ensures.first w.sooner.ensures.one))
      | in_default w ↦
          let none = subst (λ l. (r : Record) → In r l → ¬ (r.number ≡ n)) is w.in_default.ensures.none in
          rw w.first-is (subst (λ l. IsFirstAmong ss l c.loop-n.first) more (first_still ss distinct (take i ns) n c.loop-n.first c.loop-n.invariant none))
    ]

pub returns : goal.returns
returns c = subst (λ l. IsFirstAmong c.args.records.now.slots l c.loop-n.first) (take_all c.loop-n.n-index c.args.ns.now c.loop-n-test.false) c.loop-n.invariant
