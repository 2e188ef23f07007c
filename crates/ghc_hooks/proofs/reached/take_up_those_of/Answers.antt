use Rattle.ghc_hooks.proofs.Words.{on_ok_weaker, value_at, has_member, is_member}
use Rattle.ghc_hooks.proofs.TakingUp.{taken_as}
use Rattle.ghc_hooks.proofs.reached.take_up_those_of.Goals as goal

pub returns : goal.returns
returns c =
    let names = c.in_ok-names.names in
    let all = c.members.ensures.all in
    let found = c.in_ok-names.ensures in
    on_ok_weaker c.take_up_all.result
    (taken_as (value_at c.args.store.now.held) c.args.reached.now c.take_up_all.new.reached _ _
    (λ x. (λ i. (found x).0 (has_member names c.members.result.now all x i), λ o. is_member names c.members.result.now all x ((found x).1 o))))
    c.take_up_all.ensures
