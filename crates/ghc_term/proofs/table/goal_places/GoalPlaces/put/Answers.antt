use Rattle.std.proofs.Common.{arith}
use Rattle.ghc_term.proofs.GoalNames.{goal_total, goal_antisymmetric}
use Rattle.ghc_term.specs.inner.GoalPlaces.{IsNear}
use Rattle.ghc_term.proofs.Slots.{none_put}
use Rattle.ghc_term.proofs.GoalPlaces.{put_near, put_far, put_past}
use Rattle.ghc_term.proofs.table.goal_places.GoalPlaces.put.Goals as goal

pub invariant_of-self : goal.invariant_of-self
invariant_of-self c none = none_put goal_total goal_antisymmetric IsNear _ _ c.args.name c.args.number c.in_default.ensures.none c.put_other.ensures.held (c.self.invariant none)

pub returns-in_default-clause-held : goal.returns-in_default-clause-held
returns-in_default-clause-held c = put_far c.self.inside.near.items c.self.inside.others.entries c.self.view_is c.args.name c.args.number c.put_other.new.others.entries c.in_default.ensures.none c.put_other.ensures.held

pub returns-then-slot-len-clause-held : goal.returns-then-slot-len-clause-held
returns-then-slot-len-clause-held c =
    put_past c.self.inside.near.items c.self.inside.others.entries c.self.view_is c.args.name c.args.number c.in-Some.slot c.in-Some.ensures.some c.put_other-then-slot-len.new.others.entries (omega (arith, c.if-slot-len.true, c.len.ensures))
    c.put_other-then-slot-len.ensures.held

pub returns-clause-held : goal.returns-clause-held
returns-clause-held c =
    put_near c.self.inside.near.items c.self.inside.others.entries c.self.view_is c.args.name c.args.number c.in-Some.slot c.in-Some.ensures.some c.put_number.new.near.items (omega (arith, c.if-slot-len.false, c.len.ensures)) c.put_number.ensures
