use Rattle.ghc_console.proofs.CitedWords.{◌++◌, map, sym, ap, ◌∙◌, resumed, taken_ports, ports_text}
use Rattle.ghc_console.proofs.StepReplies.{ports_joined}
use Rattle.ghc_console.proofs.replies.push_ports.Goals as goal

pub returns : goal.returns
returns c =
    let r = c.args.step.now in
    let first = taken_ports r in
    let woken = c.in_ok-push_resumed.ensures.ok in
    let names = map resumed woken.0 in (
      first ++ names,
      c.notes_tell_ports.ensures c.args.core.now.world r c.args.core.now.notes c.args.disturbed.now woken.0 c.requires.settled c.requires.disturbed woken.1,
      woken.2 ∙ ap (λ l. l ++ ports_text names) (c.in_ok-push_ports_of.ensures ∙ ap (λ l. l ++ ports_text first) c.requires.empty) ∙ sym (ports_joined first names),
    )
