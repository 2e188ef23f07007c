use Rattle.ghc_pool.proofs.Words.{true, sym, subst, refl, ◌↔◌, IsTrue, Option, GoalName, IsInQuestion}
use Rattle.ghc_pool.proofs.runs.question.is_in_question.Goals as goal

pub returns-in-Some : goal.returns-in-Some
returns-in-Some c = subst (λ (root : Option GoalName). IsTrue c.descends.result ↔ IsInQuestion root c.args.core.now.world.kept c.args.goal) (sym c.in-Some.is) c.descends.ensures

pub returns-in-None : goal.returns-in-None
returns-in-None c = subst (λ (root : Option GoalName). IsTrue true ↔ IsInQuestion root c.args.core.now.world.kept c.args.goal) (sym c.in-None.is) (λ yes. tt, λ q. refl)
