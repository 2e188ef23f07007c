use Rattle.ghc_trace.proofs.Words.{◌++◌, codes, sym, ap, ◌∙◌, subst, inr, append_assoc, string_bytes, StoreValue}
use Rattle.ghc_trace.specs.GoalLines.{IsTooLong}
use Rattle.ghc_trace.specs.PartLines.{IsShown}
use Rattle.ghc_trace.proofs.CausePlaces.{on_ok}
use Rattle.ghc_trace.proofs.blame_lines.write_taken.Goals as goal

pub returns-in-Err-clause-too_long : goal.returns-in-Err-clause-too_long
returns-in-Err-clause-too_long c e rs t about = c.write_given_here.ensures.too_long (c.in-Err.is ∙ e) rs t about

pub returns-clause-text : goal.returns-clause-text
returns-clause-text c = on_ok c.write_goal.result c.write_goal.ensures.text (λ (shown, shows, eq) rs t about.
    let g = c.in-Ok.ensures.text rs t about in
    let tail = codes "gave " ++ (shown ++ codes "\n") in
    (g.0, shown, g.1, subst (λ (s : StoreValue). IsShown s c.args.goal.now shown) (sym about.world.left) shows, eq ∙ ap (λ m. m ++ tail) g.2 ∙ append_assoc (string_bytes c.args.out.now) g.0 tail))

pub returns-clause-too_long : goal.returns-clause-too_long
returns-clause-too_long c e rs t about = inr (subst (λ (s : StoreValue). IsTooLong s c.args.goal.now) (sym about.world.left) (c.write_goal.ensures.too_long e))
