use Rattle.ghc_core.proofs.Words.{[], ◌∷◌, ◌++◌, step_of, sym, subst, ◌∙◌, ap, World, IsPossibleAs, with_loaded, Comes as comes, Coming}
use Rattle.ghc_core.specs.Change.{HasRoomFor}
use Rattle.ghc_core.proofs.core_state.Core.load_step.Goals as goal

pub add_loaded-requires-clause-room : goal.add_loaded-requires-clause-room
add_loaded-requires-clause-room c =
    let v = c.reserve_to_add.new.self in
    subst (λ r. HasRoomFor v.world v.room (comes Coming.Next r)) c.step.ensures c.in_ok-reserve_to_add.ensures.room

pub add_loaded-requires-clause-loaded : goal.add_loaded-requires-clause-loaded
add_loaded-requires-clause-loaded c =
    let w : World = c.args.self.now.world in
    let possible : IsPossibleAs w.opening.program w.state c.args.step.now c.in-Some.record = rw c.in-Some.is at c.in_ok-found.ensures.some in
    let step = ap step_of c.in_ok-addition.ensures ∙ possible.0 in
    let same = c.in_ok-reserve_to_add.ensures.stays.world ∙ c.in_ok-found.ensures.world in
    c.requires.loaded ∙ ap (λ s. record { steps = w.opening.steps ++ s ∷ []; next = w.opening.next }) (sym step)
    ∙ ap (λ (v : World). record { steps = v.opening.steps ++ step_of c.in_ok-addition.addition ∷ []; next = v.opening.next }) (sym same)

pub returns-clause-carried : goal.returns-clause-carried
returns-clause-carried c _ =
    let w : World = c.args.self.now.world in
    let r = c.in-Some.record in
    let possible : IsPossibleAs w.opening.program w.state c.args.step.now r = rw c.in-Some.is at c.in_ok-found.ensures.some in
    let same = c.in_ok-reserve_to_add.ensures.stays.world ∙ c.in_ok-found.ensures.world in (
      c.in_ok-addition.addition,
      subst (IsPossibleAs w.opening.program w.state c.args.step.now) (sym c.in_ok-addition.ensures) possible,
      c.add_loaded.ensures.world ∙ ap (with_loaded c.in_ok-addition.addition) same,
    )
