use Rattle.ghc_unify.proofs.Words.{sym}
use Rattle.ghc_unify.proofs.Noted.{noted, noted_before}
use Rattle.ghc_unify.proofs.step.are_met_again.Goals as goal

pub returns-clause-noted : goal.returns-clause-noted
returns-clause-noted c = noted (c.in-Var.x, c.in-Var-view.y) (sym c.in-Var.ensures.shown) (sym c.in-Var-view.ensures.shown) c.args.met.now.keys _ c.in_ok-is_new.ensures.keys

pub returns-clause-again : goal.returns-clause-again
returns-clause-again c e = noted_before (c.in-Var.x, c.in-Var-view.y) (sym c.in-Var.ensures.shown) (sym c.in-Var-view.ensures.shown) c.args.met.now.keys _ c.in_ok-is_new.ensures.added e
