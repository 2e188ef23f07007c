use Rattle.ghcdb.proofs.CitedWords.{◌≡◌, ◌∙◌, true, ap, codes, subst, sym, bytes_eq, bytes_eq-Decides, option_map, Some, IsGhcdb}
use Rattle.ghcdb.proofs.CommandLine.{has_options}
use Rattle.ghcdb.proofs.command_line.by_auto.Goals as goal

pub options_in-options-requires : goal.options_in-options-requires
options_in-options-requires c = has_options _ _ _ c.in_ok-command.ensures c.in_ok-matches.ensures.parsed

pub returns-in-Some : goal.returns-in-Some
returns-in-Some c =
    let same : bytes_eq c.in-Some.text.now (codes "auto") ≡ true = sym c.eq.ensures ∙ c.if-eq.true in
    let auto : c.in-Some.text.now ≡ codes "auto" = (bytes_eq-Decides c.in-Some.text.now (codes "auto")).0 same in
    record {
      command = c.in_ok-command.command;
      matches = c.in_ok-matches.matches;
      is_ghcdb = subst (λ by. IsGhcdb by c.in_ok-command.command) c.string.ensures c.in_ok-command.ensures;
      parsed = c.in_ok-matches.ensures.parsed;
      found = c.in_ok-matches.ensures.matches;
      options = c.options_in-options.ensures;
      workers = sym c.get_str.ensures ∙ (ap (option_map (λ s. s.now)) c.in-Some.is ∙ ap Some auto);
    }
