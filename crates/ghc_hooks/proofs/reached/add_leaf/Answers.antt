use Rattle.ghc_hooks.proofs.Words.{◌≡◌, ◌∙◌, sym, Some, None, Tree, IsClosed, value_at}
use Rattle.ghc_hooks.proofs.AtOnce.{gains_one, shut_value}
use Rattle.ghc_hooks.proofs.reached.add_leaf.Goals as goal
use Rattle.ghc_hooks.proofs.reached.add_leaf.Goals.{in-Some+else-not-is_closed, in_default-get}

pub returns : goal.returns
returns c seen =
    let x = c.in-Var.x in
    let S = value_at c.args.store.now.held in
    let shut : (u : Tree) → S x ≡ Some u → IsClosed u = elim c.match-get.branch [
      | in-Some+else-not-is_closed w ↦ λ u e. shut_value (S x) w.in-Some.value.now (sym w.in-Some.ensures) (w.is_closed-in-Some.ensures.0 w.if-not-is_closed.false) u e
      | in_default-get w ↦ λ u e. let clash : None ≡ Some u = w.in_default-get.ensures ∙ e in absurd (cc)
    ] in
    gains_one c.args.reached.now c.insert.new.self x c.args.term.now c.in-Var.ensures.shown c.in_ok-insert.ensures.ok shut
