use Rattle.ghc_flat.proofs.Words.{◌≡◌, ◌∙◌, ◌+◌, ◌⊎◌, [], ◌∷◌, ◌++◌, sym, subst, inl, inr, length, length-append, arith, common_steps, err_from_is_err_and, YieldsList-from_vec, YieldsList-turn, YieldsList-so_far, Memory, AreMadeOf, IsFirstFault, Knows, AreSound, in_place, map_same}
use Rattle.ghc_flat.proofs.Clauses.{passed, fault_behind, made_more, sound_more}
use Rattle.ghc_flat.proofs.checker.check_clauses.Goals as goal

pub check_clause-requires : goal.check_clause-requires
check_clause-requires c =
    let gives = c.into_iter-clause-iterator.ensures.into_iter_gives in
    let all = YieldsList-from_vec {s = c.into_iter-clause-iterator.result} c.args.written.items gives.0 (gives.1 ∙ c.args.written.ok.0) in
    let turn = YieldsList-turn all c.loop-clause.yielded c.loop-clause.clause-iterator c.loop-clause.yielded_by c.next.result c.next.new.self c.in-Some.clause c.in-Some.is c.next.ensures.steps in
    c.requires.each c.in-Some.clause (in_place c.args.written.items (length c.loop-clause.yielded) c.in-Some.clause turn.0 turn.1)

pub returns-in_err-checked-clause-refused : goal.returns-in_err-checked-clause-refused
returns-in_err-checked-clause-refused c =
    let number : c.loop-clause.number + 1 ≡ length c.loop-clause.yielded + 1 = grind (arith, common_steps) in
    let gives = c.into_iter-clause-iterator.ensures.into_iter_gives in
    let all = YieldsList-from_vec {s = c.into_iter-clause-iterator.result} c.args.written.items gives.0 (gives.1 ∙ c.args.written.ok.0) in
    let turn = YieldsList-turn all c.loop-clause.yielded c.loop-clause.clause-iterator c.loop-clause.yielded_by c.next.result c.next.new.self c.in-Some.clause c.in-Some.is c.next.ensures.steps in
    let so_far = sym (map_same c.loop-clause.yielded) ∙ YieldsList-so_far all c.loop-clause.yielded c.loop-clause.clause-iterator c.loop-clause.yielded_by in
    let p = err_from_is_err_and c.from_residual.result c.from_residual.ensures.1 in
    passed (λ e. (e ≡ Memory) ⊎ IsFirstFault (Knows c.args.index.now) c.args.written.items e) c.from_residual.result p.0 c.in_err-checked.field-0.0 p.1 p.2
    (elim c.in_err-checked.ensures.refused [
      | inl m ↦ inl m
      | inr f ↦ inr (fault_behind (Knows c.args.index.now) c.args.written.items c.loop-clause.yielded c.loop-clause.clauses.items c.in-Some.clause (c.loop-clause.number + 1) c.in_err-checked.field-0.0 so_far turn.0 turn.1
          c.loop-clause.invariant.1 c.loop-clause.invariant.2 number f)
    ])

pub loop-clause-preserved : goal.loop-clause-preserved
loop-clause-preserved c =
    let number : c.loop-clause.number + 1 ≡ length c.loop-clause.yielded + 1 = grind (arith, common_steps) in
    let pushed = c.in_ok-push.ensures.items in (
      omega (arith, number, length-append c.loop-clause.yielded (c.in-Some.clause ∷ [])),
      subst (AreMadeOf (c.loop-clause.yielded ++ c.in-Some.clause ∷ [])) (sym pushed) (made_more c.loop-clause.yielded c.in-Some.clause c.loop-clause.clauses.items c.in_ok-checked.checked c.loop-clause.invariant.1 c.in_ok-checked.ensures.made),
      subst (AreSound c.args.index.now) (sym pushed)
          (sound_more (Knows c.args.index.now) c.loop-clause.clauses.items c.in_ok-checked.checked c.loop-clause.invariant.2 c.in_ok-checked.ensures.well_made c.in_ok-checked.ensures.defined),
    )
