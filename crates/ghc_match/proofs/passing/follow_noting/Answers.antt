use Rattle.ghc_match.proofs.Words.{◌+◌, ◌<◌, [], ◌∷◌, sym, subst, value_at, at_free, along, walk, walk_step, at_value}
use Rattle.std.specs.FinMap as finite
use Rattle.ghc_match.proofs.FollowNoting.{both_ways, sees_on, sees_last, sees_value}
use Rattle.ghc_match.proofs.AlikeLemmas.{value_seen}
use Rattle.ghc_match.proofs.passing.follow_noting.Goals as goal

pub loop-x-smaller : goal.loop-x-smaller
loop-x-smaller c =
    let s = c.args.store.now.held in
    subst (λ p. walk (finite.len s + 1) s c.in-Some.value.now < walk (finite.len s + 1) s p) c.in-Var.ensures.shown
    (walk_step s c.acyclic.ensures c.in-Var.x c.in-Some.value.now (sym c.in-Some.ensures))

pub loop-x-preserved : goal.loop-x-preserved
loop-x-preserved c = record {
  ends = λ e l. c.loop-x.invariant.ends e (rw (← c.in-Var.ensures.shown) (c.in-Var.x ∷ l.0, along (sym c.in-Some.ensures) l.1));
  looks = λ y. both_ways
      (sees_on (value_at c.args.store.now.held) _ _ _ _ _ c.in-Var.ensures.shown (sym c.in-Some.ensures) c.in_ok-insert-in-Var.ensures.ok y)
      (c.loop-x.invariant.looks y);
}

pub returns-in-None : goal.returns-in-None
returns-in-None c = record {
  end = c.loop-x.invariant.ends c.loop-x.place.now (rw (← c.in-Var.ensures.shown) (c.in-Var.x ∷ [], at_free (sym c.in-None.ensures)));
  looked = λ y. both_ways
      (sees_last (value_at c.args.store.now.held) c.loop-x.looked _ _ _ c.in-Var.ensures.shown (sym c.in-None.ensures) c.in_ok-insert-in-Var.ensures.ok y)
      (c.loop-x.invariant.looks y);
}

pub returns-in_default : goal.returns-in_default
returns-in_default c = record {
  end = c.loop-x.invariant.ends c.loop-x.place.now (rw (← c.view.ensures.shown) ([], at_value c.view.result c.in_default.not-Var));
  looked = λ y. both_ways
      (sees_value (value_at c.args.store.now.held) c.loop-x.looked c.loop-x.place.now (value_seen _ _ c.view.ensures.shown c.in_default.not-Var) y)
      (c.loop-x.invariant.looks y);
}
