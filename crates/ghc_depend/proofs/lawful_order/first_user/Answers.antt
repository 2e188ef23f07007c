use Rattle.ghc_depend.proofs.lawful_order.first_user.Goals as goal

pub returns-in-Some-clause-users : goal.returns-in-Some-clause-users
returns-in-Some-clause-users c n d = c.first_of.ensures.numbers n ((c.in-Some.ensures.users n).1 d)
