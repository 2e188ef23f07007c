use Rattle.ghc_trace.proofs.Words.{ℕ, List, subst, arith, IsTrue, Tree, StoreValue, value_at, Record}
use Rattle.std.specs.FinSet as set
use Rattle.ghc_term.specs.Bindings.{Reaches}
use Rattle.ghc_term.specs.Sets.{IsSetOf}
use Rattle.ghc_term.specs.Tree.{variable}
use Rattle.ghc_depend.specs.Parts.{GavePlace}
use Rattle.ghc_trace.specs.Causes.{IsSliceTold}
use Rattle.ghc_trace.proofs.Giving.{told_slice}
use Rattle.ghc_trace.proofs.place_slices.slice_of_place.Goals as goal

pub given_to_place-requires : goal.given_to_place-requires
given_to_place-requires c =
    subst (λ (s : StoreValue). IsSetOf c.in_ok-reached.reached (Reaches (value_at s) (variable c.args.x))) c.store.ensures
    (subst (λ (u : Tree). IsSetOf c.in_ok-reached.reached (Reaches (value_at c.store.result.now.held) u)) c.variable-variable.ensures c.in_ok-reached.ensures)

pub returns-clause-there : goal.returns-clause-there
returns-clause-there c =
    let w = c.args.core.now.world in
    let S = value_at w.state.store in
    let x = c.args.x in
    let y = c.args.y in
    let is : IsSetOf c.in_ok-reached.reached (Reaches S (variable x)) = subst (λ (s : StoreValue). IsSetOf c.in_ok-reached.reached (Reaches (value_at s) (variable x))) c.store.ensures
    (subst (λ (u : Tree). IsSetOf c.in_ok-reached.reached (Reaches (value_at c.store.result.now.held) u)) c.variable-variable.ensures c.in_ok-reached.ensures) in
    let there : IsTrue (set.contains c.in_ok-reached.reached y) = grind (arith, c.contains.ensures, c.if-not-contains.false, c.if-not-contains.ensures) in
    let told = subst (λ (l : List Record). IsSliceTold l c.in_ok-givers.givers.items c.in_ok-steps.steps.items) c.records.ensures
    (subst (λ (l : List ℕ). IsSliceTold c.records.result.now.held l c.in_ok-steps.steps.items) c.as_slice.ensures.value c.in_ok-steps.ensures) in
    ((is y).0 there, told_slice w.kept (GavePlace S x y) c.in_ok-givers.givers.items c.in_ok-steps.steps.items c.in_ok-givers.ensures told)
