use Rattle.ghc_fire.proofs.Words.{◌∙◌, ap}
use Rattle.ghc_fire.proofs.FreshPlaces.{behind_head}
use Rattle.ghc_fire.proofs.Origins.{stands}
use Rattle.ghc_fire.proofs.calls.try_clause_as_step.Goals as goal

pub instance-requires : goal.instance-requires
instance-requires c =
    let clause = c.args.clause.now in
    let o = rw c.in-Yes.is at c.in_ok-lay_until_no.ensures in
    behind_head c.head_variables-head_variables.result clause c.head_variables-head_variables.ensures.fresh c.lay_until_no.new.met.stands
    (λ y i. let t = stands c.args.store.now.held c.acyclic.ensures clause c.args.arguments.now c.requires o.0.0 y i in (t.0, (o.1 y t.0).1 t.1))

pub returns-in_ok-makes-in-Yes : goal.returns-in_ok-makes-in-Yes
returns-in_ok-makes-in-Yes c =
    let o = rw c.in-Yes.is at c.in_ok-lay_until_no.ensures in
    let e = c.new-effect.ensures in
    let made = c.in_ok-makes-in-Yes.ensures in
    let read = rw (← e.reads) at o in
    (o.0, λ P f k ic is. (c.args.clause.now, c.lay_until_no.new.met.stands, ic, is, read, e.binds ∙ c.new.ensures, e.makes ∙ ap (λ m. m.goals) made, e.fresh ∙ ap (λ m. m.fresh) made))
