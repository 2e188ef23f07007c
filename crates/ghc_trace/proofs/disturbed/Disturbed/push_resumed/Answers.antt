use Rattle.ghc_trace.proofs.Words.{map, subst, ◌∙◌, Picks, Former, WaitsWhereBound, AreResumedBy}
use Rattle.ghc_trace.proofs.Naming.{resumed_named}
use Rattle.ghc_trace.proofs.Writing.{when_ok}
use Rattle.ghc_trace.proofs.disturbed.Disturbed.push_resumed.Goals as goal

pub returns-clause-ok : goal.returns-clause-ok
returns-clause-ok c =
    let es = c.self.inside.goals.items in
    when_ok c.write_each_resumed-written.result c.or_cut_back.result _ _ c.or_cut_back.ensures.answer c.write_each_resumed-written.ensures.text (λ ok a.
    let bytes = rw ok at c.or_cut_back.ensures.bytes in
    (map (λ (e : Former). e.0) a.0, subst (λ d. AreResumedBy c.args.step.now d (map (λ (e : Former). e.0) a.0)) c.self.view_is (resumed_named es a.0 c.self.invariant c.args.step.now (subst (λ l. Picks (λ (e : Former). WaitsWhereBound c.args.step.now e.1) l a.0) c.deref.ensures.value a.1)), bytes ∙ a.2))
