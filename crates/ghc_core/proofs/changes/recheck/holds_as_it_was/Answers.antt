use Rattle.ghc_core.proofs.Words.{◌≡◌, ap, sym, ◌∙◌, arith, Some, ByClause as by_clause, Core, World}
use Rattle.std.specs.FinMap as finite
use Rattle.std.specs.FinSet as set
use Rattle.ghc_fire.specs.Proposal.{Proposal}
use Rattle.ghc_core.proofs.Committing.{holds_as_it_was}
use Rattle.ghc_core.proofs.changes.recheck.holds_as_it_was.Goals as goal

pub returns-clause-holds : goal.returns-clause-holds
returns-clause-holds c t =
    let w : World = c.args.core.now.world in
    let p : Proposal = c.args.proposal.now in
    let is : p.act ≡ by_clause c.in-ByClause.field-0 = sym c.act.ensures ∙ c.in-ByClause.is in
    let none : set.len p.effect.reads ≡ 0 = omega (arith, c.if-len-gt0.false, sym c.len.ensures, ap set.len c.reads.ensures, ap (λ e. set.len e.reads) c.effect.ensures) in
    let goals = c.goals.ensures ∙ ap (λ (x : Core). x.world.state.goals) c.core.view_is in
    let same = (rw c.in-Some-found.is at c.in-Ok.ensures).0 t ∙ c.consumed.ensures in
    let there : finite.get w.state.goals p.goal ≡ Some p.consumed = ap (λ m. finite.get m p.goal) (sym goals) ∙ ap (finite.get c.goals.result.now.held) (sym c.goal.ensures) ∙ sym c.in-Some.ensures ∙ ap Some same in
    holds_as_it_was c.effect_is_of_what_it_read.ensures w p c.in-ByClause.field-0 c.requires is none there
