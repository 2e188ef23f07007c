use Rattle.ghc_trace.proofs.Words.{List, sym, ◌∙◌, subst, StoreValue, Program, Record, value_at}
use Rattle.ghc_hooks.specs.Notes.{IsExact}
use Rattle.ghc_match.specs.Looked.{GoalLooksAt}
use Rattle.ghc_trace.specs.Causes.{AreBindersOf}
use Rattle.ghc_trace.proofs.Giving.{binders_of_set, no_looks}
use Rattle.ghc_core.proofs.Redone.{if_ok}
use Rattle.ghc_trace.proofs.given_goal.binders_for.Goals as goal

pub returns-then-is_stream : goal.returns-then-is_stream
returns-then-is_stream c n =
    let w = c.args.core.now.world in
    subst (λ l. AreBindersOf w.kept (GoalLooksAt w.opening.program (value_at w.state.store) c.args.goal.now) l) (sym c.new.ensures.items)
    (no_looks w.kept w.opening.program (value_at w.state.store) c.args.goal.now (sym c.is_stream.ensures ∙ c.if-is_stream.true)) n

pub returns : goal.returns
returns c = if_ok c.binders_of.result c.binders_of.ensures (λ ns h.
    let w = c.args.core.now.world in
    let b = c.args.goal.now in
    let note = c.in_ok-note.note in
    let exact : IsExact w.opening.program (value_at w.state.store) b note = subst (λ (s : StoreValue). IsExact w.opening.program (value_at s) b note) c.store.ensures
    (subst (λ (P : Program). IsExact P (value_at c.store.result.now.held) b note) c.program.ensures c.in_ok-note.ensures) in
    let Q = GoalLooksAt w.opening.program (value_at w.state.store) b in
    subst (λ (kept : List Record). AreBindersOf kept Q ns.items) c.records.ensures
    (binders_of_set c.records.result.now.held Q note.looked c.members.result.now ns.items (c.members.ensures.all ∙ c.looked.ensures) exact.1 h))
