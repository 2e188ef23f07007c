use Rattle.ghc_flat.proofs.Words.{◌≡◌, ◌∙◌, List, ap, sym, subst, inl, inr, length, err_from_is_err_and, Memory, In, Guard, WrittenClause, AreNarrow, Test, variables_of_list, ◌⊎◌, IsClauseFault, IsFirstCallWithout, MakeTests, MakesAmong, Rises, Knows}
use Rattle.ghc_flat.proofs.Clauses.{passed, linear_written, flat_written, not_flat_written, clause_of, fresh_of}
use Rattle.ghc_flat.proofs.checker.check_clause.Goals as goal

pub returns-in_err-tests-clause-refused : goal.returns-in_err-tests-clause-refused
returns-in_err-tests-clause-refused c =
    let n = c.in_ok-head_variables.head_variables in
    let p = err_from_is_err_and c.from_residual-in_err-tests.result c.from_residual-in_err-tests.ensures.1 in
    let head = c.in_ok-head_variables.ensures in
    passed (λ e. (e ≡ Memory) ⊎ IsClauseFault (Knows c.args.index.now) c.args.number c.args.written e) c.from_residual-in_err-tests.result p.0 c.in_err-tests.field-0.0 p.1 p.2
    (elim c.in_err-tests.ensures.refused [
      | inl m ↦ inl m
      | inr q ↦
          let bad = subst (λ (w : WrittenClause). (g : Guard) × In g w.guards × ((ts : List Test) → ¬ MakesAmong n g ts)) c.written.view_is q.1 in
          inr (inr (inl (linear_written c.args.written head.rising, not_flat_written c.args.written _ head.rising head.count bad, q.0)))
    ])

pub check_calls-requires : goal.check_calls-requires
check_calls-requires c = subst AreNarrow (sym (c.deref.ensures.value ∙ ap (λ (w : WrittenClause). w.body) c.written.view_is)) c.requires.limited.arguments

pub returns-in_err-check_calls-clause-refused : goal.returns-in_err-check_calls-clause-refused
returns-in_err-check_calls-clause-refused c =
    let p = err_from_is_err_and c.from_residual-in_err-check_calls.result c.from_residual-in_err-check_calls.ensures.1 in
    let head = c.in_ok-head_variables.ensures in
    let made = subst (λ (w : WrittenClause). MakeTests w.guards c.in_ok-tests.tests.items) c.written.view_is c.in_ok-tests.ensures.made in
    let body = c.deref.ensures.value ∙ ap (λ (w : WrittenClause). w.body) c.written.view_is in
    passed (λ e. (e ≡ Memory) ⊎ IsClauseFault (Knows c.args.index.now) c.args.number c.args.written e) c.from_residual-in_err-check_calls.result p.0 c.in_err-check_calls.field-0.0 p.1 p.2
    (elim c.in_err-check_calls.ensures.refused [
      | inl m ↦ inl m
      | inr q ↦ inr (inr (inr (
        linear_written c.args.written head.rising,
        flat_written c.args.written c.in_ok-tests.tests.items _ made head.rising head.count c.in_ok-tests.ensures.among,
        (q.0, q.1, subst (λ b. IsFirstCallWithout (Knows c.args.index.now) b q.0 q.1) body q.2, q.3),
      )))
    ])

pub invariant_of-result : goal.invariant_of-result
invariant_of-result c =
    let n = c.in_ok-head_variables.head_variables in (
      clause_of _ c.args.written c.in_ok-tests.tests.items n c.written.view_is c.requires c.in_ok-tests.ensures.made c.in_ok-head_variables.ensures.rising c.in_ok-head_variables.ensures.count c.in_ok-tests.ensures.among,
      c.in_ok-head_variables.ensures.count ∙ ap (λ (w : WrittenClause). length (variables_of_list w.head)) (sym c.written.view_is),
      subst (λ (w : WrittenClause). Rises 0 (variables_of_list w.head)) (sym c.written.view_is) c.in_ok-head_variables.ensures.rising,
      fresh_of _ c.args.written c.in_ok-tests.tests.items n c.written.view_is c.requires c.in_ok-tests.ensures.made c.in_ok-head_variables.ensures.rising c.in_ok-head_variables.ensures.count c.in_ok-tests.ensures.among c.count_fresh-fresh.result c.count_fresh-fresh.ensures,
    )

pub returns-clause-well_made : goal.returns-clause-well_made
returns-clause-well_made c =
    clause_of _ c.args.written c.in_ok-tests.tests.items c.in_ok-head_variables.head_variables c.written.view_is c.requires c.in_ok-tests.ensures.made c.in_ok-head_variables.ensures.rising c.in_ok-head_variables.ensures.count c.in_ok-tests.ensures.among
