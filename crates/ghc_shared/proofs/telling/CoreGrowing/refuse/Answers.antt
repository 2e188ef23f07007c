use Rattle.ghc_shared.proofs.Words.{ap, refl, history, World, code_of}
use Rattle.ghc_shared.proofs.telling.CoreGrowing.refuse.Goals as goal

pub returns-clause-same : goal.returns-clause-same
returns-clause-same c = ap (λ (w : World). history w.opening w.journal) c.refuse_to.ensures.world

pub returns-clause-opened : goal.returns-clause-opened
returns-clause-opened c = ap (λ (w : World). code_of w.opening) c.refuse_to.ensures.world

pub returns-clause-reply : goal.returns-clause-reply
returns-clause-reply c =
    let w = c.args.self.now.world in
    let made = rw c.refuse_to.ensures.world at c.refuse_to.ensures.made.answer in
    record { told = record { before = w; after = w; left = made.0; legal = c.stands.ensures.legal; place = refl; answer = made.1; adds_nothing = refl }; anyway = c.refuse_to.ensures.made.anyway }
