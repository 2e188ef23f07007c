use Rattle.ghc_records.proofs.Words.{subst, arith, In, held_in}
use Rattle.ghc_records.proofs.IndexOf.{index_none}
use Rattle.ghc_records.proofs.records.Records.new.Goals as goal

pub invariant_of-result : goal.invariant_of-result
invariant_of-result c = (
  omega arith,
  index_none c.new-2.result.users c.new-2.result.binders.held c.new-2.ensures.users c.new-2.ensures.binders,
  λ a b x i. absurd (subst (λ ss. In a (held_in ss)) c.new.ensures i),
)
