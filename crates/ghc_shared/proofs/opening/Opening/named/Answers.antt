use Rattle.ghc_shared.proofs.Words.{◌≡◌, length, sym, ap, ◌∙◌, subst, arith, newcomers, AreAll}
use Rattle.ghc_shared.proofs.Newcomers.{keeper_is, all_newcomers}
use Rattle.ghc_shared.proofs.opening.Opening.named.Goals as goal

pub new-requires-clause-opened : goal.new-requires-clause-opened
new-requires-clause-opened g c = ap (λ v. g.C.Growing.opened v.value) c.self.view_is ∙ c.requires.opened

pub new-requires-clause-keeper : goal.new-requires-clause-keeper
new-requires-clause-keeper g c =
    let history = g.C.Growing.history c.self.inside.value in
    let loop = c.loop-number.invariant in
    let base = sym (ap (λ v. length (g.C.Growing.history v.value)) c.self.view_is ∙ c.requires.base) in
    (loop.0, keeper_is _ g.N.Naming.base g.N.Naming.passes c.loop-number.seat.me c.open-book.result.0.total history loop.1 base c.open-book.ensures.total)

pub returns-clause-all : goal.returns-clause-all
returns-clause-all g c =
    let history = g.C.Growing.history c.self.inside.value in
    let loop = c.loop-number.invariant in
    let named = ap (λ v. v.passes) c.self.view_is in
    let count : c.loop-number.number ≡ g.N.Naming.passes = omega (arith, named, c.requires.passes, c.loop-number-test.false, loop.2) in
    subst (λ l. AreAll g.N.Naming.passes 0 l) (sym loop.4) (subst (λ k. AreAll g.N.Naming.passes 0 (newcomers history k)) (sym count) (all_newcomers history g.N.Naming.passes))
