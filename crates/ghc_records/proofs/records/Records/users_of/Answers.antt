use Rattle.ghc_records.proofs.Words.{arith, sym, subst, ◌↔◌, List, In, Record, IsUser, StepDependsOn, IsIndexOf}
use Rattle.ghc_records.proofs.SlotFronts.{front_all}
use Rattle.ghc_records.proofs.records.Records.users_of.Goals as goal

pub returns-then-not-is_whole-clause-none : goal.returns-then-not-is_whole-clause-none
returns-then-not-is_whole-clause-none c = grind (arith, c.is_whole.ensures.within, c.is_whole.ensures.whole, c.if-not-is_whole.true)

pub returns-clause-users : goal.returns-clause-users
returns-clause-users c n =
    let inside = c.self.inside in
    let whole = (rw (← c.self.view_is) at c.is_whole.ensures.whole).0 c.if-not-is_whole.false in
    let is = subst (λ (l : List Record). IsIndexOf l inside.index.users inside.index.binders.held) (front_all inside.slots.held inside.indexed whole) c.self.invariant.1 in
    subst (λ l. In n l ↔ StepDependsOn c.args.self.now.held n c.args.number) (sym c.users_of.ensures)
    (subst (λ t. IsUser inside.index.users c.args.number n ↔ StepDependsOn t.held n c.args.number) c.self.view_is (is.used c.args.number n))
