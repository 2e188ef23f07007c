use Rattle.ghc_hooks.proofs.Words.{sym, ap, ◌∙◌, status_of}
use Rattle.ghc_hooks.proofs.unblocked.Unblocked.sort_one.Goals as goal

pub returns-in-Ready-clause-are : goal.returns-in-Ready-clause-are
returns-in-Ready-clause-are c = c.sort_ready.ensures.are c.args.notes.now.held c.requires.are (c.in-Some.note.now, sym c.in-Some.ensures, c.verdict.ensures ∙ ap status_of c.in-Ready.is)

pub returns-in-Failed-clause-are : goal.returns-in-Failed-clause-are
returns-in-Failed-clause-are c =
    c.sort_failed.ensures.are c.args.notes.now.held c.in-Failed.field-0 c.requires.are (c.in-Some.note.now, sym c.in-Some.ensures, c.verdict.ensures ∙ ap status_of c.in-Failed.is)
