use Rattle.ghc_trace.proofs.Words.{◌≡◌, [], ◌∷◌, ◌++◌, length, sym, ap, ◌∙◌, subst, append_assoc, append-nil, arith, StoreValue, Goals, value_at}
use Rattle.std.specs.FinMap as finite
use Rattle.ghc_term.specs.Sets.{IsSetOf}
use Rattle.ghc_trace.specs.GoalLines.{Named}
use Rattle.ghc_trace.specs.inner.GoalLinesCode.{lent}
use Rattle.ghc_trace.specs.Holding.{AreHoldersAmong, GoalReaches, HasGained}
use Rattle.std.proofs.lemmas.List.{nil_from_length}
use Rattle.ghc_core.proofs.Redone.{if_ok}
use Rattle.ghc_trace.proofs.Held.{IsHeldOfThem, among_are, held_of_more, held_of_none, none_among}
use Rattle.ghc_trace.proofs.holding.holders_among.Goals as goal

pub returns-then-is_empty : goal.returns-then-is_empty
returns-then-is_empty c =
    let t = c.args.core.now.world.state in
    let xs = c.args.variables.now in
    let items = c.members.result.now in
    let none : length items ≡ 0 = grind (arith, c.is_empty.ensures, c.if-is_empty.true) in
    subst (λ hs. AreHoldersAmong t xs hs) (sym c.new.ensures.items) (none_among t xs items c.members.ensures.all (nil_from_length items none))

pub loop-name-init : goal.loop-name-init
loop-name-init c =
    let t = c.args.core.now.world.state in
    let xs = c.args.variables.now in
    let entries : finite.entries t.goals ≡ lent c.into_iter-name-iterator.result =
    ap (λ (goals : Goals). finite.entries goals) (sym c.goals.ensures) ∙ sym c.in_ok-goals.ensures ∙ ap lent (sym c.into_iter-name-iterator.ensures.into_iter_gives.0) in
    ([], entries, subst (λ ks. HasGained [] ks (IsHeldOfThem (value_at t.store) xs [])) (sym c.new-held.ensures.empty) (held_of_none (value_at t.store) xs))

pub loop-name-preserved : goal.loop-name-preserved
loop-name-preserved c =
    let t = c.args.core.now.world.state in
    let goal : Named = (c.in-Some.name.now, c.in-Some.goal.now.now) in
    let done = c.loop-name.invariant.0 in
    let reached = c.in_ok-reached.reached in
    let is : IsSetOf reached (GoalReaches (value_at t.store) goal.1) =
    subst (λ (s : StoreValue). IsSetOf reached (GoalReaches (value_at s) goal.1)) c.store.ensures c.in_ok-reached.ensures in (
      done ++ goal ∷ [],
      c.loop-name.invariant.1 ∙ ap (λ es. done ++ lent es) c.in-Some.ensures.steps ∙ sym (append_assoc done (goal ∷ []) (lent c.next.new.self)),
      held_of_more (value_at t.store) c.args.variables.now reached done goal c.loop-name.held.keys c.add_holder.new.holders.keys is c.loop-name.invariant.2 c.in_ok-add_holder.ensures,
    )

pub returns : goal.returns
returns c =
    let t = c.args.core.now.world.state in
    let xs = c.args.variables.now in
    let ks = c.loop-name.held.keys in
    let done = c.loop-name.invariant.0 in
    let all : done ≡ finite.entries t.goals = sym (c.loop-name.invariant.1 ∙ ap (λ es. done ++ lent es) c.in-None.ensures.steps.0 ∙ append-nil done) in
    if_ok c.listed.result c.listed.ensures (λ list is. subst (λ hs. AreHoldersAmong t xs hs) (sym is)
    (among_are t xs ks (subst (λ goals. HasGained [] ks (IsHeldOfThem (value_at t.store) xs goals)) all c.loop-name.invariant.2) c.len-count.ensures.ordered))
