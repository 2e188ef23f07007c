use Rattle.ghc_core.proofs.Words.{◌≡◌, sym, ap, ◌∙◌, subst, In, Record, found_behind, split_found, picked_number}
use Rattle.ghc_core.proofs.changes.rollback.Rollback.of.Goals as goal

pub removals_of-requires : goal.removals_of-requires
removals_of-requires c =
    let kept = c.args.records.now.held in
    let found = c.in_ok-found.ensures.found in
    let number : c.number.result ≡ c.args.step.number = c.number.ensures ∙ ap (λ (r : Record). r.number) c.step.ensures in
    record {
      kept = λ n i. picked_number kept found.0 n (found_behind kept c.args.step c.number.result found.0 c.len-count.ensures.distinct c.requires.kept number found.1) (subst (In n) (c.deref.ensures.value ∙ sym found.2) i);
    }

pub returns-clause-split : goal.returns-clause-split
returns-clause-split c =
    let kept = c.args.records.now.held in
    let found = c.in_ok-found.ensures.found in
    let removals = c.in_ok-consequences.consequences.items in
    let number : c.number.result ≡ c.args.step.number = c.number.ensures ∙ ap (λ (r : Record). r.number) c.step.ensures in
    split_found kept c.args.step c.number.result found.0 removals c.len-count.ensures.distinct c.requires.kept number found.1
    (c.in_ok-consequences.ensures.numbers ∙ c.deref.ensures.value ∙ sym found.2) c.in_ok-consequences.ensures.kept
