use Rattle.ghc_term.proofs.Words.{sym, subst, arith, IsTrue, IsNear}
use Rattle.std.specs.FinMap as finite
use Rattle.ghc_term.proofs.GoalNames.{goal_total, goal_antisymmetric}
use Rattle.ghc_term.proofs.Slots.{none_put}
use Rattle.ghc_term.proofs.GoalPlaces.{put_near, put_far, put_past, near_written, there_far, there_past}
use Rattle.ghc_term.proofs.table.goal_places.GoalPlaces.replace.Goals as goal

pub replace_other-requires : goal.replace_other-requires
replace_other-requires c =
    let i = c.self.inside in
    there_far i.near.items i.others.entries c.args.name c.in_default.ensures.none (subst (λ t. IsTrue (finite.contains_key t.held c.args.name)) (sym c.self.view_is) c.requires.there)

pub invariant_of-self : goal.invariant_of-self
invariant_of-self c none = none_put goal_total goal_antisymmetric IsNear _ _ c.args.name c.args.number c.in_default.ensures.none c.replace_other.ensures.held (c.self.invariant none)

pub returns-in_default-clause-held : goal.returns-in_default-clause-held
returns-in_default-clause-held c = put_far c.self.inside.near.items c.self.inside.others.entries c.self.view_is c.args.name c.args.number c.replace_other.new.others.entries c.in_default.ensures.none c.replace_other.ensures.held

pub replace_other-requires-then-slot-len : goal.replace_other-requires-then-slot-len
replace_other-requires-then-slot-len c =
    let i = c.self.inside in
    there_past i.near.items i.others.entries c.in-Some.slot c.args.name c.in-Some.ensures.some (omega (arith, c.if-slot-len.true, c.len.ensures))
    (subst (λ t. IsTrue (finite.contains_key t.held c.args.name)) (sym c.self.view_is) c.requires.there)

pub invariant_of-self-then-slot-len : goal.invariant_of-self-then-slot-len
invariant_of-self-then-slot-len c none =
    let i = c.self.inside in
    let there = there_past i.near.items i.others.entries c.in-Some.slot c.args.name c.in-Some.ensures.some (omega (arith, c.if-slot-len.true, c.len.ensures))
    (subst (λ t. IsTrue (finite.contains_key t.held c.args.name)) (sym c.self.view_is) c.requires.there) in
    absurd (near_written i.others.entries c.in-Some.slot c.args.name c.in-Some.ensures.some (c.self.invariant none) there)

pub returns-then-slot-len-clause-held : goal.returns-then-slot-len-clause-held
returns-then-slot-len-clause-held c =
    put_past c.self.inside.near.items c.self.inside.others.entries c.self.view_is c.args.name c.args.number c.in-Some.slot c.in-Some.ensures.some c.replace_other-then-slot-len.new.others.entries (omega (arith, c.if-slot-len.true, c.len.ensures))
    c.replace_other-then-slot-len.ensures.held

pub returns-clause-held : goal.returns-clause-held
returns-clause-held c =
    put_near c.self.inside.near.items c.self.inside.others.entries c.self.view_is c.args.name c.args.number c.in-Some.slot c.in-Some.ensures.some c.put_number.new.near.items (omega (arith, c.if-slot-len.false, c.len.ensures)) c.put_number.ensures
