use Rattle.ghc_trace.proofs.Words.{subst, ◌∙◌, Picks, IsNewsBy, standings, AreStuckOtherwise}
use Rattle.ghc_trace.proofs.Naming.{news_named}
use Rattle.ghc_trace.proofs.Writing.{when_ok}
use Rattle.ghc_trace.proofs.disturbed.Disturbed.push_news.Goals as goal

pub returns-clause-ok : goal.returns-clause-ok
returns-clause-ok c =
    let es = c.self.inside.goals.items in
    when_ok c.write_each_news-written.result c.or_cut_back.result _ _ c.or_cut_back.ensures.answer c.write_each_news-written.ensures.text (λ ok a.
    let bytes = rw ok at c.or_cut_back.ensures.bytes in
    (standings c.args.tries.now.notes a.0, subst (λ d. AreStuckOtherwise c.args.tries.now.notes d (standings c.args.tries.now.notes a.0)) c.self.view_is (news_named es a.0 c.self.invariant c.args.tries.now.notes (subst (λ l. Picks (IsNewsBy c.args.tries.now.notes) l a.0) c.deref.ensures.value a.1)), bytes ∙ a.2))
