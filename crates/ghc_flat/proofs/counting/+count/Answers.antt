use Rattle.ghc_flat.proofs.Words.{◌≡◌, ◌++◌, ◌∙◌, ap, sym, subst, arith, take, Ok, Err, MatchOption-at_some, err_from_is_err_and, trees, height, height_of_all, height_item, height_last, height_front, variables, variables_of_list, CountsTo}
use Rattle.ghc_flat.proofs.Counts.{counts_none, counts_append, counts_stop, node_variables, list_next, list_rest}
use Rattle.ghc_flat.proofs.counting.+count.Goals as goal

pub count_term-returns-in-Int : goal.count_term-returns-in-Int
count_term-returns-in-Int t c = c.loop-x.invariant.1 (Ok c.loop-x.last) (rw (← c.in-Int.ensures.shown) (counts_none c.loop-x.last))

pub count_term-returns-in-Atom : goal.count_term-returns-in-Atom
count_term-returns-in-Atom t c = c.loop-x.invariant.1 (Ok c.loop-x.last) (rw (← c.in-Atom.ensures.shown) (counts_none c.loop-x.last))

pub count_term-count_terms-requires : goal.count_term-count_terms-requires
count_term-count_terms-requires t c =
    let split = (MatchOption-at_some _ _ c.unwrap.result c.unwrap.ensures c.split_last.ensures.cases).0 in
    let front = height_front c.unwrap.result.1.now c.unwrap.result.0.now in
    let whole = ap (λ l. height_of_all (trees l)) split in
    let seen = ap height c.in-Struct.ensures.shown in
    (omega (arith, front, whole, seen, c.loop-x.invariant.0, c.decreases), tt)

pub count_term-returns-in_err-last-in-Struct : goal.count_term-returns-in_err-last-in-Struct
count_term-returns-in_err-last-in-Struct t c =
    let p = err_from_is_err_and c.from_residual.result c.from_residual.ensures.1 in
    let split = (MatchOption-at_some _ _ c.unwrap.result c.unwrap.ensures c.split_last.ensures.cases).0 in
    let stopped = counts_stop (variables_of_list c.unwrap.result.1.now) (variables c.unwrap.result.0.now) c.loop-x.last c.in_err-last-in-Struct.field-0.0 c.in_err-last-in-Struct.ensures in
    let whole = node_variables c.in-Struct.field-0.now c.in-Struct.arguments.now c.unwrap.result.1.now c.unwrap.result.0.now split ∙ ap variables c.in-Struct.ensures.shown in
    subst (λ r. CountsTo (variables c.args.term.now) c.args.count r) (sym (p.1 ∙ ap Err p.2))
    (c.loop-x.invariant.1 (Err c.in_err-last-in-Struct.field-0.0) (subst (λ xs. CountsTo xs c.loop-x.last (Err c.in_err-last-in-Struct.field-0.0)) whole stopped))

pub count_term-loop-x-smaller : goal.count_term-loop-x-smaller
count_term-loop-x-smaller t c =
    let split = (MatchOption-at_some _ _ c.unwrap.result c.unwrap.ensures c.split_last.ensures.cases).0 in
    omega (arith, height_last c.unwrap.result.1.now c.unwrap.result.0.now, ap height c.in-Struct.ensures.shown, ap (λ l. height_of_all (trees l)) split)

pub count_term-loop-x-preserved : goal.count_term-loop-x-preserved
count_term-loop-x-preserved t c =
    let split = (MatchOption-at_some _ _ c.unwrap.result c.unwrap.ensures c.split_last.ensures.cases).0 in
    let at : height_of_all (trees c.in-Struct.arguments.now) ≡ height c.loop-x.part.now = ap height c.in-Struct.ensures.shown in
    let same = ap (λ l. height_of_all (trees l)) split in
    let whole = node_variables c.in-Struct.field-0.now c.in-Struct.arguments.now c.unwrap.result.1.now c.unwrap.result.0.now split ∙ ap variables c.in-Struct.ensures.shown in (
      omega (arith, height_last c.unwrap.result.1.now c.unwrap.result.0.now, at, same, c.loop-x.invariant.0),
      λ r rest. c.loop-x.invariant.1 r (subst (λ xs. CountsTo xs c.loop-x.last r) whole
          (counts_append (variables_of_list c.unwrap.result.1.now) (variables c.unwrap.result.0.now) c.loop-x.last c.in_ok-last-in-Struct.last r c.in_ok-last-in-Struct.ensures rest)),
    )

pub count_terms-count_term-requires : goal.count_terms-count_term-requires
count_terms-count_term-requires t c =
    let falls = height_item c.args.terms.now c.loop-term.term-index c.term-item.result c.loop-term-test.true c.term-item.is in
    (omega (arith, falls, c.decreases), tt)

pub count_terms-returns-in_err-last : goal.count_terms-returns-in_err-last
count_terms-returns-in_err-last t c =
    let p = err_from_is_err_and c.from_residual.result c.from_residual.ensures.1 in
    let xs = variables_of_list (take c.loop-term.term-index c.args.terms.now) in
    let next = counts_append xs (variables c.term-item.result) c.args.count c.loop-term.last (Err c.in_err-last.field-0.0) c.loop-term.invariant c.in_err-last.ensures in
    let rest = list_rest c.args.terms.now c.loop-term.term-index c.term-item.result c.loop-term-test.true c.term-item.is in
    let stopped = counts_stop (xs ++ variables c.term-item.result) rest.0 c.args.count c.in_err-last.field-0.0 next in
    subst (λ r. CountsTo (variables_of_list c.args.terms.now) c.args.count r) (sym (p.1 ∙ ap Err p.2))
    (subst (λ ys. CountsTo ys c.args.count (Err c.in_err-last.field-0.0)) rest.1 stopped)

pub count_terms-loop-term-preserved : goal.count_terms-loop-term-preserved
count_terms-loop-term-preserved t c =
    let xs = variables_of_list (take c.loop-term.term-index c.args.terms.now) in
    subst (λ ys. CountsTo ys c.args.count (Ok c.in_ok-last.last)) (list_next c.args.terms.now c.loop-term.term-index c.term-item.result c.loop-term-test.true c.term-item.is)
    (counts_append xs (variables c.term-item.result) c.args.count c.loop-term.last (Ok c.in_ok-last.last) c.loop-term.invariant c.in_ok-last.ensures)
