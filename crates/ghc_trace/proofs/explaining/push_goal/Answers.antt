use Rattle.ghc_trace.proofs.Words.{NotesByGoal, StoreValue, sym, ap, ◌∙◌, subst, value_at, IsGoalTextOf, StandsByNote}
use Rattle.std.specs.FinMap as finite
use Rattle.ghc_trace.proofs.Explained.{known_there, stands_there}
use Rattle.ghc_trace.proofs.explaining.push_goal.Goals as goal

pub write_line-requires : goal.write_line-requires
write_line-requires c no_stream none =
    let g = c.args.name in
    known_there c.args.core.now.world c.args.core.now.notes g c.args.goal.now c.requires.settled c.requires.there no_stream (ap (λ (notes : NotesByGoal). finite.get notes g) (sym c.tries.ensures.notes) ∙ none)

pub returns-in-Ok-clause-text : goal.returns-in-Ok-clause-text
returns-in-Ok-clause-text c =
    let w = c.args.core.now.world in
    let g = c.args.name in
    let b = c.args.goal.now in
    let added = c.in-Ok.ensures.text in
    let t = added.1.tells in (
      added.0,
      record {
        status = t.status;
        has = stands_there w c.args.core.now.notes g b t.status c.requires.settled c.requires.there (subst (λ (notes : NotesByGoal). StandsByNote notes (g, b) t.status) c.tries.ensures.notes t.has);
        text = t.text;
        shown = subst (λ (s : StoreValue). IsGoalTextOf (value_at s) b t.text) c.store.ensures t.shown;
        written = t.written;
      },
      added.2,
    )
