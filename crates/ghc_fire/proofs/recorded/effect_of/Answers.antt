use Rattle.std.proofs.Common.{sym}
use Rattle.ghc_fire.proofs.FoundEffects.{none_weaker}
use Rattle.ghc_fire.proofs.OpenTails.{takes_no_input, takes_no_close}
use Rattle.ghc_fire.proofs.recorded.effect_of.Goals as goal

pub returns-in-Call-ByClause-clause-none : goal.returns-in-Call-ByClause-clause-none
returns-in-Call-ByClause-clause-none c = let m = c.in-Call-ByClause in rw (sym m.ensures, m.is-1) c.by_clause.ensures.none

pub returns-in-Unify-Unified-clause-none : goal.returns-in-Unify-Unified-clause-none
returns-in-Unify-Unified-clause-none c = let m = c.in-Unify-Unified in rw (sym m.ensures, m.is-1) c.by_unification.ensures.none

pub returns-in-Assign-Assigned-clause-none : goal.returns-in-Assign-Assigned-clause-none
returns-in-Assign-Assigned-clause-none c = let m = c.in-Assign-Assigned in rw (sym m.ensures, m.is-1) c.by_assignment.ensures.none

pub returns-in-Stream-Given-clause-none : goal.returns-in-Stream-Given-clause-none
returns-in-Stream-Given-clause-none c =
    let m = c.in-Stream-Given in
    rw (sym m.ensures, m.is-1) (none_weaker c.feed.result (takes_no_input m.stream m.tail _ c.args.number) c.feed.ensures.bound)

pub returns-in-Stream-Closed-clause-none : goal.returns-in-Stream-Closed-clause-none
returns-in-Stream-Closed-clause-none c =
    let m = c.in-Stream-Closed in rw (sym m.ensures, m.is-1) (none_weaker c.close.result (takes_no_close m.tail) c.close.ensures.bound)
