use Rattle.ghc_console.proofs.CitedWords.{sym, ap, ◌∙◌}
use Rattle.std.specs.FinMap as finite
use Rattle.ghc_fire.specs.Goals.{Goals}
use Rattle.ghc_console.proofs.replies.keep.slice_of_named.Goals as goal

pub returns-in_ok-slice-in-Some : goal.returns-in_ok-slice-in-Some
returns-in_ok-slice-in-Some c =
    (c.in-Some.goal.now, ap (λ (goals : Goals). finite.get goals c.args.name) (sym c.goals.ensures) ∙ sym c.in-Some.ensures, c.in_ok-slice-in-Some.ensures)

pub returns-in-None : goal.returns-in-None
returns-in-None c = ap (λ (goals : Goals). finite.get goals c.args.name) (sym c.goals.ensures) ∙ sym c.in-None.ensures
