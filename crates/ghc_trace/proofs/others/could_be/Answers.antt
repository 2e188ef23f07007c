use Rattle.ghc_trace.proofs.Words.{◌≡◌, ◌∙◌, false, true, sym, subst}
use Rattle.ghc_flat.specs.Clause.{IsClause, IsFor}
use Rattle.ghc_fire.specs.declared.act.Act.TheVariants.{ByClause as by_clause}
use Rattle.ghc_fire.proofs.Calling.{some_there}
use Rattle.ghc_fire.proofs.Steps.{clause_once}
use Rattle.ghc_core.proofs.Redone.{if_ok}
use Rattle.ghc_trace.proofs.OtherClauses.{could_by}
use Rattle.ghc_trace.proofs.others.could_be.Goals as goal

pub unwrap-clause-requires : goal.unwrap-clause-requires
unwrap-clause-requires c =
    let asked = c.requires.clause in
    let P = c.program.result.now in
    some_there (IsClause P c.args.number) c.clause.result c.clause.ensures.none asked.1 (subst (λ z. IsClause z c.args.number asked.1) (sym c.program.ensures) asked.3)

pub returns : goal.returns
returns c =
    let w = c.args.core.now.world in
    let r = c.args.step.now in
    let k = c.args.number in
    let ts = c.args.arguments.now in
    let asked = c.requires.clause in
    let clause = c.unwrap-clause.result.now in
    let found = rw c.unwrap-clause.ensures at c.clause.ensures.found in
    let is : IsClause w.opening.program k clause = subst (λ z. IsClause z k clause) c.program.ensures found in
    let for : IsFor asked.0 ts clause = subst (IsFor asked.0 ts) (clause_once w.opening.program asked.3 is) asked.4 in
    let other : ¬ (r.act ≡ by_clause k) = λ own. (let clash : false ≡ true = sym c.if-is_by.false ∙ c.is_by.ensures.1 own in cc) in
    let by = could_by w r asked.0 ts asked.2 k clause is for other in
    if_ok c.accepts_without.result c.accepts_without.ensures (λ could h. (λ t. by.0 (h.0 t), λ b. h.1 (by.1 b)))
