use Rattle.ghc_flat.proofs.Words.{◌≡◌, ◌<◌, ◌-◌, ◌+◌, ◌∙◌, ap, sym, subst, inr, length, refl, arith, Err, Some, slice_get, slice_get-get_or, VarName, WrittenClause, variables_of_list, CountsTo}
use Rattle.ghc_flat.proofs.Repeated.{named_place, repeated}
use Rattle.ghc_flat.proofs.checker.check_head.Goals as goal

pub overflow_sub-x : goal.overflow_sub-x
overflow_sub-x c =
    let heads = ap variables_of_list (c.deref.ensures.value ∙ ap (λ (w : WrittenClause). w.head) c.written.view_is) in
    let p = named_place c.args.written.now c.requires c.in-Err.x (subst (λ xs. CountsTo xs 0 (Err c.in-Err.x)) heads c.in-Err.ensures) in
    omega (arith, ap (λ (y : VarName). y.place) p.1)

pub index-requires : goal.index-requires
index-requires c =
    let heads = ap variables_of_list (c.deref.ensures.value ∙ ap (λ (w : WrittenClause). w.head) c.written.view_is) in
    let p = named_place c.args.written.now c.requires c.in-Err.x (subst (λ xs. CountsTo xs 0 (Err c.in-Err.x)) heads c.in-Err.ensures) in
    let less : p.0 < length c.args.written.now.variables = p.2 in
    let same : length c.written.inside.variables.items ≡ length c.args.written.now.variables = ap (λ (w : WrittenClause). length w.variables) c.written.view_is in
    omega (arith, ap (λ (y : VarName). y.place) p.1, less, same, c.written.inside.variables.ok.0)

pub returns-in_ok-variable-in-Err-clause-refused : goal.returns-in_ok-variable-in-Err-clause-refused
returns-in_ok-variable-in-Err-clause-refused c =
    let heads = ap variables_of_list (c.deref.ensures.value ∙ ap (λ (w : WrittenClause). w.head) c.written.view_is) in
    let counted = subst (λ xs. CountsTo xs 0 (Err c.in-Err.x)) heads c.in-Err.ensures in
    let p = named_place c.args.written.now c.requires c.in-Err.x counted in
    let less : p.0 < length c.args.written.now.variables = p.2 in
    let same : length c.written.inside.variables.items ≡ length c.args.written.now.variables = ap (λ (w : WrittenClause). length w.variables) c.written.view_is in
    let place : c.in-Err.x.place ≡ p.0 + 1 = ap (λ (y : VarName). y.place) p.1 in
    let found : slice_get c.written.inside.variables.items (c.in-Err.x.place - 1) ≡ Some c.in_ok-variable-in-Err.variable =
    slice_get-get_or c.written.inside.variables.items (c.in-Err.x.place - 1) c.index.result.now (omega (arith, place, less, same)) ∙ ap Some (sym c.index.ensures ∙ sym c.in_ok-variable-in-Err.ensures.same) in
    let named = ap (λ (w : WrittenClause). slice_get w.variables (c.in-Err.x.place - 1)) (sym c.written.view_is) ∙ found in
    inr (
      c.in_ok-variable-in-Err.variable,
      repeated c.args.written.now c.requires c.in-Err.x counted c.in_ok-variable-in-Err.variable
          (λ i e. let at : i ≡ c.in-Err.x.place - 1 = omega (arith, e) in ap (slice_get c.args.written.now.variables) at ∙ named),
      refl,
    )
