use Rattle.ghc_term.proofs.Words.{◌∙◌, ap, sym, on_ok_weaker}
use Rattle.std.specs.FinSet as set
use Rattle.ghc_term.proofs.ListsLemmas.{not_both}
use Rattle.ghc_term.proofs.Names.{name_total, name_antisymmetric}
use Rattle.ghc_term.proofs.SetsLemmas.{absorbed, has_member}
use Rattle.ghc_term.proofs.table.variables.Variables.insert.Goals as goal

pub returns-then-contains-clause-ok : goal.returns-then-contains-clause-ok
returns-then-contains-clause-ok c = absorbed c.args.self.now c.args.x (sym c.contains.ensures ∙ c.if-contains.true)

pub push-requires : goal.push-requires
push-requires c i =
    not_both (set.contains c.args.self.now c.args.x) (sym c.contains.ensures ∙ c.if-contains.false) (has_member c.args.self.now c.self.inside.members c.self.view_is c.args.x i)

pub returns-clause-ok : goal.returns-clause-ok
returns-clause-ok c =
    on_ok_weaker c.push.result (λ e. ap (λ l. set.from_list l) e ∙ set.from_list_push name_total name_antisymmetric c.self.inside.members c.args.x ∙ ap (λ s. set.insert s c.args.x) c.self.view_is) c.push.ensures.ok
