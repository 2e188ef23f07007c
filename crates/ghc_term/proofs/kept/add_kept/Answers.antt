use Rattle.ghc_term.proofs.Words.{IfSome, subst}
use Rattle.ghc_term.specs.inner.KeptList.{IsListOf}
use Rattle.ghc_term.proofs.Gathered.{found_kept, none_kept}
use Rattle.ghc_term.proofs.kept.add_kept.Goals.{in-Some, in-None}
use Rattle.ghc_term.proofs.kept.add_kept.Goals as goal

pub returns-clause-found : goal.returns-clause-found
returns-clause-found c = elim c.match-get.branch [
  | in-Some w ↦
      let here = subst (λ o. IfSome o (λ l. IsListOf c.turn-found.result.1.tag.numbers l.variables.value.items)) w.in-Some.is c.get.ensures.1 in
      let fits = subst (λ t. IsListOf t.numbers w.in-Some.listed.variables.value.items) c.turn-found.ensures.2 here in
      found_kept c.match-get.outcome w.add_listed-outcome.result c.args.kept.now.numbers w.in-Some.listed.variables.value.items c.args.into.now c.match-get.into w.add_listed-outcome.new.into
      w.outcome-is w.into-is fits w.add_listed-outcome.ensures
  | in-None w ↦ none_kept _ c.match-get.outcome w.outcome-is
]
