use Rattle.ghc_console.proofs.CitedWords.{◌≡◌, List, sym, subst, string_bytes, Record, Change, Port, ArePorts, ports_text, IsFrontOf}
use Rattle.ghc_console.proofs.StepReplies.{on_ok}
use Rattle.ghc_console.proofs.replies.obey_reply.push_change.Goals as goal

pub returns-in-Comes : goal.returns-in-Comes
returns-in-Comes c = on_ok c.push_ports.result c.push_ports.ensures (λ told.
    let w = c.args.core.now.world in
    let text = string_bytes c.push_ports.new.reply in
    subst (λ (change : Change). IsFrontOf w change text) (sym c.in-Comes.is)
    (subst (λ (r : Record). (ports : List Port) × ArePorts w r ports × (text ≡ ports_text ports)) c.step.ensures told))
