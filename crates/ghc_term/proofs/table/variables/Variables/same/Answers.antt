use Rattle.std.proofs.Common.{◌≡◌, true, false, sym, ◌∙◌}
use Rattle.ghc_term.proofs.SetsLemmas.{same_held, has_member, is_member}
use Rattle.ghc_term.proofs.table.variables.Variables.same.Goals as goal

pub returns-then-has_all : goal.returns-then-has_all
returns-then-has_all c = (
  λ yes. same_held c.args.self.now c.args.other.now
      (λ x i. c.has_all-then-has_all.ensures.0 yes x (is_member c.args.self.now _ c.members-then-has_all.ensures.all x i))
      (λ x i. c.has_all.ensures.0 c.if-has_all.true x (is_member c.args.other.now _ c.members.ensures.all x i)),
  λ e. c.has_all-then-has_all.ensures.1 (λ x i. has_member c.args.other.now _ (c.members-then-has_all.ensures.all ∙ e) x i),
)

pub returns-else-has_all : goal.returns-else-has_all
returns-else-has_all c = (
  λ yes. absurd (let clash : true ≡ false = sym yes ∙ c.if-has_all.false in cc),
  λ e. c.has_all.ensures.1 (λ x i. has_member c.args.self.now _ (c.members.ensures.all ∙ sym e) x i),
)
