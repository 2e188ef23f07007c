use Rattle.ghc_core.proofs.Words.{subst, sym, ap, ◌∙◌, IsTrue, take_absent, Core, AreExactIn, IsNoteOf, AreKept}
use Rattle.std.specs.FinMap as finite
use Rattle.std.specs.FinSet as set
use Rattle.ghc_term.proofs.ListsLemmas.{not_both}
use Rattle.ghc_core.proofs.Settling.{noted_before, noted_now, consistent_now, kept_put}
use Rattle.ghc_core.proofs.core_state.Core.enter.Goals as goal

-- where the code finds the goal not untried, it is not
tried : (c : goal.After-let_go) → ¬ IsTrue (set.contains c.args.self.now.untried c.args.goal)
tried c = not_both (set.contains c.args.self.now.untried c.args.goal) (ap (λ (x : Core). set.contains x.untried c.args.goal) (sym c.self.view_is) ∙ sym c.is_untried.ensures ∙ c.if-not-is_untried.true)

pub returns-then-not-is_untried-clause-noted : goal.returns-then-not-is_untried-clause-noted
returns-then-not-is_untried-clause-noted c =
    let exact = subst (λ (x : Core). AreExactIn x.world x.notes x.untried) c.self.view_is c.self.invariant.exact in
    noted_before c.args.self.now.world c.args.self.now.notes c.args.self.now.untried c.args.goal c.args.note exact c.requires (tried c)

pub returns-then-not-is_untried-clause-untried : goal.returns-then-not-is_untried-clause-untried
returns-then-not-is_untried-clause-untried c = take_absent c.args.self.now.untried c.args.goal (tried c)

pub invariant_of-self-2 : goal.invariant_of-self-2
invariant_of-self-2 c =
    let found = subst (λ (x : Core). IsNoteOf x.world c.args.goal c.args.note) (sym c.self.view_is) c.requires in
    let t = c.self.inside.tries in
    consistent_now _ t.notes c.note.new.self.notes t.untried c.note.new.self.untried c.self.inside.streams c.args.goal c.args.note c.self.invariant found c.in_ok-note.ensures.notes c.in_ok-note.ensures.untried

pub returns-clause-noted : goal.returns-clause-noted
returns-clause-noted c =
    noted_now c.args.self.now.world c.args.self.now.notes c.note.new.self.notes c.args.goal c.args.note c.requires
    (c.in_ok-note.ensures.notes ∙ ap (λ (x : Core). finite.insert x.notes c.args.goal c.args.note) c.self.view_is)

pub returns-clause-kept : goal.returns-clause-kept
returns-clause-kept c =
    let t = c.self.inside.tries in
    let none = ((c.self.invariant.exact.marked c.args.goal).0 (sym c.is_untried.ensures ∙ c.if-not-is_untried.false)).3 in
    subst (λ (x : Core). AreKept x.notes c.note.new.self.notes) c.self.view_is
    (subst (AreKept t.notes) (sym c.in_ok-note.ensures.notes) (kept_put t.notes c.args.goal c.args.note none))
