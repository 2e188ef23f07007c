use Rattle.ghc_depend.proofs.Words.{sym, ap, subst, Some, None, option_copied, held_in, StepDependsOn, rank, ranked_at, some_of}
use Rattle.ghc_depend.proofs.FirstPlace.{IsFirstOf, first_ranked, first_is, first_none}
use Rattle.ghc_depend.proofs.consequence.first_consequence.Goals as goal

pub returns-in_err-place-clause-none : goal.returns-in_err-place-clause-none
returns-in_err-place-clause-none c =
    let ss = c.args.records.now.slots in
    let n = c.args.number in
    let none = subst (λ l. IsFirstOf l (λ m. StepDependsOn l m n) None) (sym c.len-count.ensures.slots) (first_ranked ss (λ m. StepDependsOn (held_in ss) m n) None c.in_err-place.ensures) in
    rw c.from_residual.ensures (first_none c.args.records.now.held c.len-count.ensures.distinct n none)

pub unwrap-requires : goal.unwrap-requires
unwrap-requires c = let b = c.in_ok-place.ensures.0 in some_of c.at.result b.0 ((c.at.ensures b.0).1 b.1)

pub returns-clause-found : goal.returns-clause-found
returns-clause-found c =
    let rs = c.args.records.now.held in
    let ss = c.args.records.now.slots in
    let n = c.args.number in
    let is = c.len-count.ensures.slots in
    let place = c.in_ok-place.place in
    let b = c.unwrap.result.now in
    let at = ranked_at rs ss is place b ((c.at.ensures b).0 (ap option_copied c.unwrap.ensures)) in
    let first = subst (λ l. IsFirstOf l (λ m. StepDependsOn l m n) (Some (rank ss place))) (sym is) (first_ranked ss (λ m. StepDependsOn (held_in ss) m n) (Some place) c.in_ok-place.ensures) in
    let f = first_is rs c.len-count.ensures.distinct n (rank ss place) first b at in
    (f.0, b, f.1, f.2, sym c.number.ensures)
