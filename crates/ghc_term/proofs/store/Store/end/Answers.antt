use Rattle.ghc_term.proofs.Words.{◌+◌, ◌<◌, [], ◌∷◌, sym, subst, value_at, Leads, at_free, along}
use Rattle.std.specs.FinMap as finite
use Rattle.ghc_term.proofs.Total.{walk, walk_step}
use Rattle.ghc_term.proofs.Walks.{at_value}
use Rattle.ghc_term.proofs.store.Store.end.Goals as goal

pub loop-x-smaller : goal.loop-x-smaller
loop-x-smaller c =
    let s = c.args.self.now.held in
    subst (λ p. walk (finite.len s + 1) s c.in-Some.value.now < walk (finite.len s + 1) s p) c.in-Var.ensures.shown
    (walk_step s c.acyclic.ensures c.in-Var.x c.in-Some.value.now (sym c.in-Some.ensures))

pub loop-x-preserved : goal.loop-x-preserved
loop-x-preserved c xs e rest =
    c.loop-x.invariant _ e (subst (λ p. Leads (value_at c.args.self.now.held) p (c.in-Var.x ∷ xs) e) c.in-Var.ensures.shown (along (sym c.in-Some.ensures) rest))

pub returns-in-None : goal.returns-in-None
returns-in-None c =
    c.loop-x.invariant _ _ (subst (λ p. Leads (value_at c.args.self.now.held) p (c.in-Var.x ∷ []) p) c.in-Var.ensures.shown (at_free (sym c.in-None.ensures)))

pub returns-in_default : goal.returns-in_default
returns-in_default c =
    c.loop-x.invariant _ _ (subst (λ p. Leads (value_at c.args.self.now.held) p [] p) c.view.ensures.shown (at_value c.view.result c.in_default.not-Var))
