use Rattle.ghc_trace.proofs.Words.{NotesByGoal, refl, sym, ap, ◌∙◌, ◌++◌, subst, arith, codes, common_steps, StandsByNote}
use Rattle.std.specs.FinMap as finite
use Rattle.ghc_records.specs.StepText.{goal_name_text}
use Rattle.ghc_trace.specs.News.{status_text}
use Rattle.ghc_trace.proofs.Explained.{known_there, stands_there}
use Rattle.ghc_trace.proofs.part_lines.write_standing.Goals as goal

pub write_status-requires : goal.write_status-requires
write_status-requires c no_stream none =
    known_there c.args.core.now.world c.args.core.now.notes c.args.name c.args.goal.now c.requires.settled c.requires.there no_stream (ap (λ (notes : NotesByGoal). finite.get notes c.args.name) (sym c.tries.ensures.notes) ∙ none)

pub returns-clause-text : goal.returns-clause-text
returns-clause-text c =
    let w = c.args.core.now.world in
    let g = c.args.name in
    let s = c.in_ok-write_status.ensures.text in (
      goal_name_text g ++ (codes " " ++ (status_text s.0 ++ codes "\n")),
      (s.0, stands_there w c.args.core.now.notes g c.args.goal.now s.0 c.requires.settled c.requires.there (subst (λ (notes : NotesByGoal). StandsByNote notes (g, c.args.goal.now) s.0) c.tries.ensures.notes s.1), refl),
      grind (arith, common_steps),
    )
