use Rattle.ghc_trace.proofs.Words.{◌≡◌, true, false, refl, sym, ◌∙◌, subst, AreDistinct, numbers, held_in, Tree, StoreValue, value_at}
use Rattle.ghc_term.specs.Bindings.{Reaches}
use Rattle.ghc_term.specs.Sets.{IsSetOf}
use Rattle.ghc_term.specs.Tree.{variable}
use Rattle.ghc_depend.specs.Slices.{Gave}
use Rattle.ghc_records.specs.Uses.{MakesVariable}
use Rattle.ghc_trace.specs.Causes.{AreBindersOf}
use Rattle.ghc_trace.proofs.Giving.{AreNumbersOf, binders_of_set, givers_end}
use Rattle.ghc_trace.proofs.given.given_to.Goals.{then-is_some+in_ok-push, else-is_some}
use Rattle.ghc_trace.proofs.given.given_to.Goals as goal

pub returns : goal.returns
returns c =
    let records = c.records-records.result.now in
    let ss = records.slots in
    let held = c.len-count.ensures.slots in
    let S = value_at c.args.core.now.world.state.store in
    let x = c.args.x in
    let items = c.members.result.now in
    let ns = c.in_ok-givers.givers.items in
    let distinct = subst (λ l. AreDistinct (numbers l)) held c.len-count.ensures.distinct in
    let reached = c.in_ok-reached.reached in
    let is : IsSetOf reached (Reaches S (variable x)) =
    subst (λ (u : Tree). IsSetOf reached (Reaches S u)) c.variable-variable.ensures (subst (λ (s : StoreValue). IsSetOf reached (Reaches (value_at s) c.variable-variable.result)) c.store.ensures c.in_ok-reached.ensures) in
    let bound : AreBindersOf (held_in ss) (Reaches S (variable x)) ns =
    subst (λ l. AreBindersOf l (Reaches S (variable x)) ns) held (binders_of_set records.held (Reaches S (variable x)) reached items ns c.members.ensures.all is c.in_ok-givers.ensures) in
    let kept : held_in ss ≡ c.args.core.now.world.kept = sym held ∙ c.records-records.ensures in
    let end = givers_end ss distinct (Reaches S (variable x)) (λ r. MakesVariable r x) x.step (λ r m. m.0) ns bound c.place_of_maker.result c.place_of_maker.ensures in
    elim c.if-is_some.branch [
      | then-is_some+in_ok-push w ↦ rw w.givers-is (subst (λ l. AreNumbersOf l (Gave S x) w.push.new.self.items) kept
          (end w.push.new.self.items (λ _. w.in_ok-push.ensures.items) (λ e. let clash : true ≡ false = sym w.if-is_some.true ∙ c.is_some.ensures ∙ e in cc)))
      | else-is_some w ↦ rw w.givers-is (subst (λ l. AreNumbersOf l (Gave S x) ns) kept (end ns (λ e. let clash : false ≡ true = sym w.if-is_some.false ∙ c.is_some.ensures ∙ e in cc) (λ _. refl)))
    ]
