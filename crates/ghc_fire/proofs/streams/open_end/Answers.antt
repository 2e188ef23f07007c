use Rattle.ghc_fire.proofs.Words.{[], ◌∷◌, ◌++◌, Some, sym, ap, ◌∙◌, subst, IsValue, now, name_total, name_antisymmetric, walk_step, at_value, shown_value, value_at}
use Rattle.std.specs.FinSet as set
use Rattle.ghc_fire.proofs.OpenTails.{comes_next, comes_to_value}
use Rattle.ghc_fire.proofs.streams.open_end.Goals as goal

pub loop-value-init : goal.loop-value-init
loop-value-init c = ([], now, c.new-before.ensures)

pub loop-value-smaller : goal.loop-value-smaller
loop-value-smaller c =
    let s = c.args.store.now.held in
    rw c.in-Var.ensures.shown (walk_step s c.acyclic.ensures c.loop-value.end c.in-Some.value.now (sym c.in-Some.ensures))

pub loop-value-preserved : goal.loop-value-preserved
loop-value-preserved c =
    let i = c.loop-value.invariant in
    let x = c.loop-value.end in (
      i.0 ++ x ∷ [],
      comes_next i.1 (sym c.in-Some.ensures ∙ ap Some (sym c.in-Var.ensures.shown)),
      c.in_ok-insert-in-Var.ensures.ok ∙ ap (λ s. set.insert s x) i.2 ∙ sym (set.from_list_push name_total name_antisymmetric i.0 x),
    )

pub returns-in_default-view : goal.returns-in_default-view
returns-in_default-view c =
    let v = c.view.result in
    let value = c.view.ensures.shown in
    let leads = rw value at (at_value {S = value_at c.args.store.now.held} v c.in_default-view.not-Var) in
    record { «open» = tt; bound = (c.in-Some.value.now, comes_to_value c.loop-value.invariant.1 (sym c.in-Some.ensures) leads, subst IsValue value (shown_value v c.in_default-view.not-Var)) }
