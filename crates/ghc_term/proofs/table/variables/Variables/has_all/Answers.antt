use Rattle.ghc_term.proofs.Words.{◌≡◌, true, false, sym, ◌∙◌, IsTrue}
use Rattle.std.specs.FinSet as set
use Rattle.ghc_term.proofs.ListsLemmas.{each_next, in_get}
use Rattle.ghc_term.proofs.table.variables.Variables.has_all.Goals as goal

pub returns-then-not-contains : goal.returns-then-not-contains
returns-then-not-contains c = (
  λ h. absurd (let clash : false ≡ true = h in cc),
  λ all. absurd (let clash : false ≡ true = sym c.if-not-contains.true ∙ c.contains.ensures ∙ all _ (in_get c.args.others.now c.loop-x.x-index (record { step = 0; place = 0 }) c.loop-x-test.true) in cc),
)

pub loop-x-preserved : goal.loop-x-preserved
loop-x-preserved c =
    each_next (λ x. IsTrue (set.contains c.args.self.now x)) c.args.others.now c.loop-x.x-index (record { step = 0; place = 0 }) c.loop-x-test.true c.loop-x.invariant
    (sym c.contains.ensures ∙ c.if-not-contains.false)
