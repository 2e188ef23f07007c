use Rattle.ghc_console.proofs.CitedWords.{IfOk, sym, subst, IsBoundBy, Change, AreDisturbed, Brings}
use Rattle.ghc_console.proofs.replies.obey_reply.disturbed_by.Goals as goal

pub returns-in-Goes : goal.returns-in-Goes
returns-in-Goes c =
    subst (λ (change : Change). IfOk c.by_rolling_back.result (λ d. AreDisturbed c.args.tries.now.notes (IsBoundBy change) (Brings change) d)) (sym c.in-Goes.is) c.by_rolling_back.ensures

pub returns-in-Reorders : goal.returns-in-Reorders
returns-in-Reorders c =
    let notes = c.args.tries.now.notes in
    subst (λ (change : Change). AreDisturbed notes (IsBoundBy change) (Brings change) c.by_arranging.result) (sym c.in-Reorders.is) (c.by_arranging.ensures notes)
