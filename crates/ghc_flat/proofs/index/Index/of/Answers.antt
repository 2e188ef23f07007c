use Rattle.ghc_flat.proofs.Words.{◌≡◌, ◌∙◌, cond, [], ◌∷◌, ◌++◌, ◌+◌, length, take, ap, sym, subst, arith, take_more, length-take, common_steps, WrittenClause, keys_of_written, is_same_key, IsIndexOf, numbers_at}
use Rattle.ghc_flat.proofs.Numbers.{index_more}
use Rattle.ghc_flat.proofs.index.Index.of.Goals as goal

pub loop-clause-preserved : goal.loop-clause-preserved
loop-clause-preserved c =
    let number : c.loop-clause.number + 1 ≡ c.loop-clause.clause-index + 1 = grind (arith, common_steps) in
    let so_far = take c.loop-clause.clause-index c.args.clauses.now in
    let many : length (take c.loop-clause.clause-index c.args.clauses.now) ≡ c.loop-clause.clause-index = omega (arith, length-take {A = WrittenClause}, c.loop-clause-test.true) in
    let place : c.loop-clause.number + 1 ≡ length (take c.loop-clause.clause-index c.args.clauses.now) + 1 = omega (arith, number, many) in
    let more = take_more c.args.clauses.now c.loop-clause.clause-index c.clause-item.result c.loop-clause-test.true ∙ ap (λ u. take c.loop-clause.clause-index c.args.clauses.now ++ u ∷ []) (sym c.clause-item.is) in
    let name = ap (λ (w : WrittenClause). w.name) c.clause.view_is in
    let arity = c.len.ensures ∙ c.clause.inside.head.ok.0 ∙ ap (λ (w : WrittenClause). length w.head) c.clause.view_is in (
      number,
      subst (λ ws. IsIndexOf (keys_of_written ws) c.add.new.self) (sym more)
          (index_more so_far c.clause-item.result c.loop-clause.index c.add.new.self (c.loop-clause.number + 1) c.loop-clause.invariant.1 place
          (λ f n. c.in_ok-add.ensures f n ∙ (λ i. numbers_at c.loop-clause.index f n ++ cond (is_same_key f n (name i, arity i)) ((c.loop-clause.number + 1) ∷ []) []))),
    )
