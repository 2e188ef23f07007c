use Rattle.ghc_term.proofs.Words.{rules, ◌∙◌, FitsSigned, w64, sym, ap, subst, arith, to_z-of_z, MatchOption-at_some, trees, integer, height, height_of_all, MeasuredAt}
use Rattle.ghc_term.proofs.Trees.{height_item, height_front}
use Rattle.ghc_term.proofs.Along.{finished, refused, all_refused, no_own_room, no_front_room, go_on, go_down, no_mark, no_term, one_more}
use Rattle.ghc_term.proofs.measure.+measure.Goals as goal

pub measure-returns-in-Int : goal.measure-returns-in-Int
measure-returns-in-Int t c =
    let fits : FitsSigned w64 c.in-Int.k = search rules in
    let shown = ap integer (to_z-of_z w64 c.in-Int.k fits) ∙ c.in-Int.ensures.shown in
    finished c.args.term.now c.args.depth c.args.room c.loop-k.place c.loop-k.part.now c.loop-k.within c.loop-k.left c.loop-k.invariant c.measure_integer.result
    (subst (λ u. MeasuredAt c.loop-k.place u c.loop-k.within c.loop-k.left c.measure_integer.result) shown (c.measure_integer.ensures c.loop-k.within))

pub measure-returns-in-Atom : goal.measure-returns-in-Atom
measure-returns-in-Atom t c =
    finished c.args.term.now c.args.depth c.args.room c.loop-k.place c.loop-k.part.now c.loop-k.within c.loop-k.left c.loop-k.invariant c.measure_atom.result
    (subst (λ u. MeasuredAt c.loop-k.place u c.loop-k.within c.loop-k.left c.measure_atom.result) c.in-Atom.ensures.shown c.measure_atom.ensures)

pub measure-returns-in_err-inside-in-Struct : goal.measure-returns-in_err-inside-in-Struct
measure-returns-in_err-inside-in-Struct t c =
    let split = (MatchOption-at_some _ _ c.unwrap.result c.unwrap.ensures c.split_last.ensures.cases).0 in
    refused c.args.term.now c.args.depth c.args.room c.from_residual.result c.from_residual.ensures
    (no_own_room c.args.term.now c.args.depth c.args.room c.loop-k.place c.loop-k.part.now c.loop-k.within c.loop-k.left c.loop-k.invariant
    c.in-Struct.name.now c.in-Struct.arguments.now c.unwrap.result.1.now c.unwrap.result.0.now (sym c.in-Struct.ensures.shown) split c.in_err-inside-in-Struct.ensures)

pub measure-measure_all-requires : goal.measure-measure_all-requires
measure-measure_all-requires t c =
    let split = (MatchOption-at_some _ _ c.unwrap.result c.unwrap.ensures c.split_last.ensures.cases).0 in
    let front = height_front c.unwrap.result.1.now c.unwrap.result.0.now in
    let whole = ap (λ l. height_of_all (trees l)) split in
    let seen = ap height c.in-Struct.ensures.shown in
    (omega (arith, front, whole, seen, c.loop-k.invariant.low, c.decreases), tt)

pub measure-returns-in_err-left-in-Struct : goal.measure-returns-in_err-left-in-Struct
measure-returns-in_err-left-in-Struct t c =
    let split = (MatchOption-at_some _ _ c.unwrap.result c.unwrap.ensures c.split_last.ensures.cases).0 in
    refused c.args.term.now c.args.depth c.args.room c.from_residual-in_err-left-in-Struct.result c.from_residual-in_err-left-in-Struct.ensures
    (no_front_room c.args.term.now c.args.depth c.args.room c.loop-k.place c.loop-k.part.now c.loop-k.within c.loop-k.left c.loop-k.invariant
    c.in-Struct.name.now c.in-Struct.arguments.now c.unwrap.result.1.now c.unwrap.result.0.now (sym c.in-Struct.ensures.shown) split
    c.in_ok-inside-in-Struct.inside c.in_ok-inside-in-Struct.ensures c.in_err-left-in-Struct.ensures)

pub measure-loop-k-smaller : goal.measure-loop-k-smaller
measure-loop-k-smaller t c =
    let split = (MatchOption-at_some _ _ c.unwrap.result c.unwrap.ensures c.split_last.ensures.cases).0 in
    go_down c.args.term.now c.args.depth c.args.room c.loop-k.place c.loop-k.part.now c.loop-k.within c.loop-k.left c.loop-k.invariant
    c.in-Struct.name.now c.in-Struct.arguments.now c.unwrap.result.1.now c.unwrap.result.0.now (sym c.in-Struct.ensures.shown) split
    c.in_ok-inside-in-Struct.inside c.in_ok-inside-in-Struct.ensures

pub measure-loop-k-preserved : goal.measure-loop-k-preserved
measure-loop-k-preserved t c =
    let split = (MatchOption-at_some _ _ c.unwrap.result c.unwrap.ensures c.split_last.ensures.cases).0 in
    go_on c.args.term.now c.args.depth c.args.room c.loop-k.place c.loop-k.part.now c.loop-k.within c.loop-k.left c.loop-k.invariant
    c.in-Struct.name.now c.in-Struct.arguments.now c.unwrap.result.1.now c.unwrap.result.0.now (sym c.in-Struct.ensures.shown) split
    c.in_ok-inside-in-Struct.inside c.in_ok-inside-in-Struct.ensures c.in_ok-left-in-Struct.left c.in_ok-left-in-Struct.ensures

pub measure_all-returns-in_err-spend : goal.measure_all-returns-in_err-spend
measure_all-returns-in_err-spend t c =
    all_refused c.args.terms.now c.args.depth c.args.room c.from_residual.result c.from_residual.ensures
    (no_mark c.args.terms.now c.loop-term.term-index c.term-item.result c.args.depth c.args.room c.loop-term.left c.loop-term-test.true c.term-item.is c.loop-term.invariant c.in_err-spend.ensures)

pub measure_all-measure-requires : goal.measure_all-measure-requires
measure_all-measure-requires t c =
    let falls = height_item c.args.terms.now c.loop-term.term-index c.term-item.result c.loop-term-test.true c.term-item.is in
    (omega (arith, falls, c.decreases), tt)

pub measure_all-returns-in_err-left : goal.measure_all-returns-in_err-left
measure_all-returns-in_err-left t c =
    all_refused c.args.terms.now c.args.depth c.args.room c.from_residual-in_err-left.result c.from_residual-in_err-left.ensures
    (no_term c.args.terms.now c.loop-term.term-index c.term-item.result c.args.depth c.args.room c.loop-term.left c.loop-term-test.true c.term-item.is c.loop-term.invariant
    c.in_ok-spend.field-0 c.in_ok-spend.ensures c.in_err-left.ensures)

pub measure_all-loop-term-preserved : goal.measure_all-loop-term-preserved
measure_all-loop-term-preserved t c =
    one_more c.args.terms.now c.loop-term.term-index c.term-item.result c.args.depth c.args.room c.loop-term.left c.loop-term-test.true c.term-item.is c.loop-term.invariant
    c.in_ok-spend.field-0 c.in_ok-spend.ensures c.in_ok-left.left c.in_ok-left.ensures
