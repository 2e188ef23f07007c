use Rattle.ghc_core.proofs.Words.{subst, IfOk-weaker, IsAcyclic, value_at, Face, settled_notes, IsFaceOf, IsNotedFaceOf}
use Rattle.ghc_core.proofs.core_state.Core.face.Goals as goal

pub returns-clause-noted : goal.returns-clause-noted
returns-clause-noted c settled =
    let w = c.args.self.now.world in
    let notes = c.args.self.now.notes in
    let acyclic = subst (λ s. IsAcyclic (value_at s)) c.store.ensures c.acyclic.ensures in
    let shown = λ (face : Face) (f : IsFaceOf w face). (settled_notes w.opening.program w.state.goals w.state.store notes c.args.self.now.untried face acyclic c.stands.ensures.exact settled).1 f in
    IfOk-weaker c.new.result (IsFaceOf w) (IsNotedFaceOf w notes) shown (rw (c.program.ensures, c.goals.ensures, c.store-2.ensures) at c.new.ensures)
