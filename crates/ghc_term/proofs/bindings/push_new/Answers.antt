use Rattle.std.proofs.Common.{◌∙◌, sym}
use Rattle.std.specs.FinMap as finite
use Rattle.ghc_term.proofs.Names.{name_total}
use Rattle.ghc_term.proofs.BindingLists.{once_more, added, not_there}
use Rattle.ghc_term.proofs.bindings.push_new.Goals as goal

pub returns-clause-once : goal.returns-clause-once
returns-clause-once c =
    once_more c.args.list.now.items c.push.new.self.items c.args.x c.args.value c.requires.once
    (not_there c.args.list.now.items c.args.x (sym (finite.get-from_entries name_total c.args.list.now.items c.args.x) ∙ c.requires.new)) c.in_ok-push.ensures.items

pub returns-clause-ok : goal.returns-clause-ok
returns-clause-ok c =
    added c.args.list.now.items c.push.new.self.items c.args.x c.args.value
    (not_there c.args.list.now.items c.args.x (sym (finite.get-from_entries name_total c.args.list.now.items c.args.x) ∙ c.requires.new)) c.in_ok-push.ensures.items
