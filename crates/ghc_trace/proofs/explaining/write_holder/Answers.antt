use Rattle.ghc_trace.proofs.Words.{◌≡◌, ◌++◌, Some, Goals, NotesByGoal, sym, ap, ◌∙◌, subst, string_bytes, option_copied, StandsByNote}
use Rattle.std.specs.Prelude.{codes}
use Rattle.ghc_term.specs.Text.{variable_text}
use Rattle.ghc_records.specs.StepText.{goal_name_text}
use Rattle.ghc_trace.specs.News.{status_text}
use Rattle.std.specs.FinMap as finite
use Rattle.ghc_trace.proofs.Explained.{joined, known_there, stands_there}
use Rattle.ghc_trace.proofs.explaining.write_holder.Goals as goal

pub write_status-requires : goal.write_status-requires
write_status-requires c no_stream none =
    let w = c.args.core.now.world in
    let g = c.args.holder.goal in
    let is : finite.get w.state.goals g ≡ Some c.unwrap-goal.result.now =
    ap (λ (goals : Goals). finite.get goals g) (sym c.goals.ensures) ∙ sym c.get.ensures ∙ ap option_copied c.unwrap-goal.ensures in
    known_there w c.args.core.now.notes g c.unwrap-goal.result.now c.requires.settled is no_stream (ap (λ (notes : NotesByGoal). finite.get notes g) (sym c.tries.ensures.notes) ∙ none)

pub returns : goal.returns
returns c =
    let w = c.args.core.now.world in
    let g = c.args.holder.goal in
    let b = c.unwrap-goal.result.now in
    let is : finite.get w.state.goals g ≡ Some b = ap (λ (goals : Goals). finite.get goals g) (sym c.goals.ensures) ∙ sym c.get.ensures ∙ ap option_copied c.unwrap-goal.ensures in
    let s = c.in_ok-write_status.ensures.text in (
      s.0,
      stands_there w c.args.core.now.notes g b s.0 c.requires.settled is (subst (λ (notes : NotesByGoal). StandsByNote notes (g, b) s.0) c.tries.ensures.notes s.1),
      c.in_ok-push_str-3.ensures.bytes
          ∙ ap (λ t. t ++ codes "\n") (s.2
          ∙ ap (λ t. t ++ status_text s.0) (c.in_ok-push_str-2.ensures.bytes
          ∙ ap (λ t. t ++ codes " ") (c.in_ok-push_goal_name.ensures
          ∙ ap (λ t. t ++ goal_name_text g) (c.in_ok-push_str.ensures.bytes
          ∙ ap (λ t. t ++ codes " in ") c.in_ok-push_variable.ensures.text))))
          ∙ joined (string_bytes c.args.out.now) (variable_text c.args.holder.variable) (codes " in ") (goal_name_text g) (codes " ") (status_text s.0) (codes "\n"),
    )
