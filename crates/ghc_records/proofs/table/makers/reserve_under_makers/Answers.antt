use Rattle.ghc_records.proofs.Words.{ℕ, ◌∙◌, subst, take_all, held_before, CanTake, IsMakerOf, MadeOneOf}
use Rattle.ghc_records.proofs.Giving.{can_next}
use Rattle.ghc_records.proofs.table.makers.reserve_under_makers.Goals as goal

pub returns-in_err-reserve_at-clause-kept : goal.returns-in_err-reserve_at-clause-kept
returns-in_err-reserve_at-clause-kept c m n h = c.reserve_at.ensures.kept m n (c.loop-x.invariant.2 m n h)

pub loop-x-preserved : goal.loop-x-preserved
loop-x-preserved c = (
  λ m. c.reserve_at.ensures.held m ∙ c.loop-x.invariant.0 m,
  can_next (IsMakerOf (held_before c.args.before c.args.slots.now.held)) c.args.xs.now c.loop-x.x-index _ c.loop-x-test.true c.maker_of.result c.maker_of.ensures c.loop-x.users c.reserve_at.new.self c.loop-x.invariant.1
      c.reserve_at.ensures.kept (λ m n e. c.in_ok-reserve_at.ensures.room m n e),
  λ m n h. c.reserve_at.ensures.kept m n (c.loop-x.invariant.2 m n h),
)

pub returns-clause-room : goal.returns-clause-room
returns-clause-room c = subst (λ xs. (m n : ℕ) → MadeOneOf (held_before c.args.before c.args.slots.now.held) xs m → CanTake c.loop-x.users m n) (take_all c.loop-x.x-index c.args.xs.now c.loop-x-test.false) c.loop-x.invariant.1
