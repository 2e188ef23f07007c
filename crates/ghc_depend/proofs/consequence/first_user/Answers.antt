use Rattle.ghc_depend.proofs.Words.{ℕ, subst, ◌↔◌, In, held_in, StepDependsOn}
use Rattle.ghc_depend.proofs.Using.{first_alike}
use Rattle.ghc_depend.proofs.consequence.first_user.Goals as goal

pub returns-in-Some : goal.returns-in-Some
returns-in-Some c =
    let ss = c.args.records.now.slots in
    let users = subst (λ l. (n : ℕ) → In n c.in-Some.users.now ↔ StepDependsOn l n c.args.number) c.len-count.ensures.slots c.in-Some.ensures.users in
    first_alike ss (λ n. In n c.in-Some.users.now) (λ m. StepDependsOn (held_in ss) m c.args.number) users c.first_among.result c.first_among.ensures
