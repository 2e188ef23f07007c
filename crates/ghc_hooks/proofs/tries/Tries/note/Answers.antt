use Rattle.ghc_hooks.proofs.Words.{◌∙◌, refl, ap, sym, subst, arith, IsTrue, AreUnblocked}
use Rattle.std.specs.FinMap as finite
use Rattle.std.specs.FinSet as set
use Rattle.ghc_hooks.proofs.Fitting.{one_more_note}
use Rattle.ghc_hooks.proofs.Changing.{fit_same, fit_noted}
use Rattle.ghc_hooks.proofs.Unblocking.{same_kept}
use Rattle.ghc_hooks.proofs.tries.Tries.note.Goals as goal

pub invariant_of-self : goal.invariant_of-self
invariant_of-self c =
    let t = c.self.inside in
    let room = c.make_room.ensures in
    rw room.notes (
      fit_same t.notes.held t.untried c.make_room.new.untried t.looks c.self.invariant.0 t.looks room.untried room.kept (λ y h. (λ k. k, λ k. k)),
      same_kept t.notes.held t.unblocked (record { unsorted = c.make_room.new.unsorted; ready = t.unblocked.ready; failed = t.unblocked.failed }) c.self.invariant.1 room.unsorted refl refl,
    )

pub invariant_of-self-in_err-add_all : goal.invariant_of-self-in_err-add_all
invariant_of-self-in_err-add_all c =
    let t = c.self.inside in
    rw c.make_room.ensures.notes (
      fit_same t.notes.held t.untried c.make_room.new.untried t.looks c.self.invariant.0 c.add_all.new.self c.make_room.ensures.untried c.make_room.ensures.kept
          c.in_err-add_all.ensures.err,
      same_kept t.notes.held t.unblocked (record { unsorted = c.make_room.new.unsorted; ready = t.unblocked.ready; failed = t.unblocked.failed }) c.self.invariant.1 c.make_room.ensures.unsorted refl refl,
    )

pub invariant_of-self-2 : goal.invariant_of-self-2
invariant_of-self-2 c =
    let t = c.self.inside in
    let reserved = c.in_ok-make_room.ensures.untried_room in
    let kept = c.remove.ensures.room in
    let marked : IsTrue (set.contains t.untried.held c.args.goal) = ap (λ v. set.contains v.untried c.args.goal) c.self.view_is ∙ c.requires in
    let put = c.put.ensures ∙ ap (λ m. finite.insert m c.args.goal c.args.note) c.make_room.ensures.notes in (
      fit_noted t.notes.held t.untried c.remove.new.self t.looks c.self.invariant.0 c.put.new.self.held c.add_all.new.self c.args.goal c.args.note c.members.result.now (c.members.ensures.all ∙ c.looked.ensures)
          marked put (c.remove.ensures.held ∙ ap (λ s. set.remove s c.args.goal) c.make_room.ensures.untried) (omega (arith, reserved, kept)) c.in_ok-add_all.ensures.ok,
      subst (λ m. AreUnblocked m c.add.new.self) (sym put)
          (c.add.ensures t.notes.held c.args.note (same_kept t.notes.held t.unblocked (record { unsorted = c.make_room.new.unsorted; ready = t.unblocked.ready; failed = t.unblocked.failed }) c.self.invariant.1 c.make_room.ensures.unsorted refl refl)
          (c.self.invariant.0.apart c.args.goal marked) c.verdict.ensures),
    )

pub returns-clause-room : goal.returns-clause-room
returns-clause-room c = grind (arith, one_more_note)
