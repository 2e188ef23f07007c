use Rattle.ghc_reader.proofs.Words.{◌≡◌, subst, take, take_all, clause_view, clause_views, Each, SaysClause}
use Rattle.ghc_reader.proofs.ClausesLowered.{each_more}
use Rattle.ghc_reader.proofs.WithinLimits.{program_well_written}
use Rattle.ghc_reader.proofs.lowering.clauses.lower_program.Goals as goal

pub loop-clause-preserved : goal.loop-clause-preserved
loop-clause-preserved c =
    let u = c.in_ok-lower_clause in
    each_more SaysClause SaysClause clause_view c.args.clauses.now c.loop-clause.clause-index c.clause-item.result c.loop-clause.lowered.items c.push.new.self.items u.field-0 (λ x y h. h) c.loop-clause-test.true c.clause-item.is c.in_ok-push.ensures.items c.loop-clause.invariant u.ensures

pub invariant_of-result : goal.invariant_of-result
invariant_of-result c =
    let whole : take c.loop-clause.clause-index c.args.clauses.now ≡ c.args.clauses.now = take_all c.loop-clause.clause-index c.args.clauses.now c.loop-clause-test.false in
    program_well_written (clause_views c.args.clauses.now) c.loop-clause.lowered.items c.requires (subst (λ l. Each SaysClause (clause_views l) c.loop-clause.lowered.items) whole c.loop-clause.invariant)
