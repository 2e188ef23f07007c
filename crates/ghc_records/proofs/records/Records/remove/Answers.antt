use Rattle.ghc_records.proofs.Words.{arith, sym, subst, List, Record, held_in, IsIndexOf}
use Rattle.ghc_records.proofs.IndexOf.{index_none}
use Rattle.ghc_records.proofs.PickLemmas.{picks_in}
use Rattle.ghc_records.proofs.SlotLemmas.{stands_held}
use Rattle.ghc_records.proofs.SlotClosing.{none_in}
use Rattle.ghc_records.proofs.SlotFronts.{front_all, apart_within}
use Rattle.ghc_records.proofs.records.Records.remove.Goals as goal

pub returns-in_err-place_of-clause-rest : goal.returns-in_err-place_of-clause-rest
returns-in_err-place_of-clause-rest c r i e =
    absurd (none_in c.self.inside.slots.held c.args.number c.place_of.result c.in_err-place_of.was c.place_of.ensures r (rw (← c.self.view_is) at i) e)

pub returns-in_err-place_of-clause-none : goal.returns-in_err-place_of-clause-none
returns-in_err-place_of-clause-none c = rw c.from_residual.ensures (
    λ r i. none_in c.self.inside.slots.held c.args.number c.place_of.result c.in_err-place_of.was c.place_of.ensures r (rw (← c.self.view_is) at i))

pub invariant_of-self : goal.invariant_of-self
invariant_of-self c =
    let h = (c.place_of.ensures c.in_ok-place_of.field-0).0 c.in_ok-place_of.was in
    absurd (c.in_err-removed.ensures.none h.0 (stands_held c.self.inside.slots.held c.in_ok-place_of.field-0 h.0 h.1) h.2)

pub returns-in_err-removed-clause-none : goal.returns-in_err-removed-clause-none
returns-in_err-removed-clause-none c =
    let h = (c.place_of.ensures c.in_ok-place_of.field-0).0 c.in_ok-place_of.was in
    absurd (c.in_err-removed.ensures.none h.0 (stands_held c.self.inside.slots.held c.in_ok-place_of.field-0 h.0 h.1) h.2)

pub invariant_of-self-then-was_whole : goal.invariant_of-self-then-was_whole
invariant_of-self-then-was_whole c =
    let inside = c.self.inside in
    let old = inside.slots.held in
    let new = c.remove.new.self.held in
    let index = c.remove-then-was_whole.new.self in
    let found = c.in_ok-removed.ensures.found in
    let rest = c.in_ok-removed.ensures.rest c.in_ok-removed.removed found.0 found.1 in
    let whole = (rw (← c.self.view_is) at c.is_whole-was_whole.ensures.whole).0 c.if-was_whole.true in
    let is = subst (λ (l : List Record). IsIndexOf l inside.index.users inside.index.binders.held) (front_all old inside.indexed whole) c.self.invariant.1 in
    let left = c.remove-then-was_whole.ensures (held_in old) is found.0 (rw (← c.self.view_is) at c.len-count.ensures.distinct) rest in (
      omega (arith, c.slot_count-self-inside.ensures),
      subst (λ (l : List Record). IsIndexOf l index.users index.binders.held) (sym (front_all new c.slot_count-self-inside.result c.slot_count-self-inside.ensures)) left,
      apart_within (held_in old) (held_in new) (λ r i. (picks_in (held_in old) (held_in new) r rest i).0) c.self.invariant.2,
    )

pub invariant_of-self-else-was_whole : goal.invariant_of-self-else-was_whole
invariant_of-self-else-was_whole c =
    let old = c.self.inside.slots.held in
    let new = c.remove.new.self.held in
    let found = c.in_ok-removed.ensures.found in
    let rest = c.in_ok-removed.ensures.rest c.in_ok-removed.removed found.0 found.1 in (
      omega arith,
      index_none c.clear.new.self.users c.clear.new.self.binders.held c.clear.ensures.users c.clear.ensures.binders,
      apart_within (held_in old) (held_in new) (λ r i. (picks_in (held_in old) (held_in new) r rest i).0) c.self.invariant.2,
    )
