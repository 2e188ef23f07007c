use Rattle.ghc_core.proofs.Words.{◌++◌, ◌+◌, map, drop, sym, ap, ◌∙◌, option_map, entry_of, said_by}
use Rattle.ghc_core.proofs.ResumeSteps.{told_pushed}
use Rattle.ghc_core.proofs.saved.told.push_told.Goals as goal

pub returns : goal.returns
returns c =
    ap (λ items. map said_by items ++ drop (c.args.place + 1) c.args.journal.now.held) c.in_ok-push.ensures.items
    ∙ told_pushed c.args.journal.now.held c.args.place c.args.told.now.items c.in_ok-entry_told.field-0 (entry_of c.in-Some.entry.now) (sym c.at.ensures ∙ ap (option_map (λ e. entry_of e.now)) c.in-Some.is) c.in_ok-entry_told.ensures
