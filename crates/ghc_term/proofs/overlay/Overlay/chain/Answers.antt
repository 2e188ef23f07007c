use Rattle.ghc_term.proofs.Words.{◌+◌, ◌<◌, [], ◌∷◌, ◌∙◌, ap, sym, subst, append_assoc, append-nil, Leads, at_free, along, value_in}
use Rattle.std.specs.FinMap as finite
use Rattle.ghc_term.proofs.Total.{walk, walk_step}
use Rattle.ghc_term.proofs.Walks.{at_value}
use Rattle.ghc_term.proofs.Merged.{all_bound, all_acyclic, all_is}
use Rattle.ghc_term.proofs.overlay.Overlay.chain.Goals as goal

pub loop-x-smaller : goal.loop-x-smaller
loop-x-smaller c =
    let s = all_bound c.args.self.now in
    subst (λ p. walk (finite.len s + 1) s c.in-Some.value.now < walk (finite.len s + 1) s p) c.in-Var.ensures.shown
    (walk_step s (all_acyclic c.args.self.now) c.in-Var.x c.in-Some.value.now (ap (λ V. V c.in-Var.x) (all_is c.args.self.now) ∙ sym c.in-Some.ensures))

pub loop-x-preserved : goal.loop-x-preserved
loop-x-preserved c xs e rest =
    let here = subst (λ p. Leads (value_in c.args.self.now) p (c.in-Var.x ∷ xs) e) c.in-Var.ensures.shown (along (sym c.in-Some.ensures) rest) in
    rw (c.in_ok-push-in-Var.ensures.items, append_assoc) (c.loop-x.invariant _ e here)

pub returns-in-None : goal.returns-in-None
returns-in-None c =
    let here = subst (λ p. Leads (value_in c.args.self.now) p (c.in-Var.x ∷ []) p) c.in-Var.ensures.shown (at_free (sym c.in-None.ensures)) in
    rw c.in_ok-push-in-Var.ensures.items (c.loop-x.invariant _ _ here)

pub returns-in_default : goal.returns-in_default
returns-in_default c =
    let here = subst (λ p. Leads (value_in c.args.self.now) p [] p) c.view.ensures.shown (at_value c.view.result c.in_default.not-Var) in
    simp append-nil at (c.loop-x.invariant _ _ here)
