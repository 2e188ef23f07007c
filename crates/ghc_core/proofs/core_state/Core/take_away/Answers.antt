use Rattle.ghc_core.proofs.Words.{List, [], ◌∷◌, ◌++◌, refl, ap, ◌∙◌, sym, subst, inl, inr, In, AreDistinct, Picks, Record, loaded_opening, AreLeft, IsBoundIn, IsSplitAt, World, Core, told_back, TellStreams, Goes as goes, Going, Gone, all_gone, Changes, GoWithIt, gone_kept, gone_distinct}
use Rattle.std.specs.FinMap as finite
use Rattle.ghc_core.proofs.Reaching.{reached_good}
use Rattle.ghc_core.proofs.RolledBack.{struck_first, none_again, unnoted_roll, RolledAway, rolled_away}
use Rattle.ghc_core.proofs.core_state.Core.take_away.Goals as goal

-- The steps can go.
abbrev Can : List Record → Going → Gone → Type 0
Can kept how gone = In gone.first kept × ((left : List Record) × IsSplitAt kept gone.first (all_gone gone) left) × GoWithIt how gone.others

pub take_all_back-requires-clause-new : goal.take_all_back-requires-clause-new
take_all_back-requires-clause-new c r i =
    let can = subst (λ gone. Can c.self.inside.records.held c.args.how gone) (sym c.rollback.view_is) (subst (λ (x : Core). Can x.world.kept c.args.how c.args.rollback) (sym c.self.view_is) c.requires.found) in
    unnoted_roll _ c.self.invariant.standing c.self.inside.tries.notes c.self.inside.tries.untried c.self.invariant.exact c.args.how (record { first = c.rollback.inside.step; others = c.rollback.inside.consequences.items }) can r (inr i)

pub strike_all-requires-clause-kept : goal.strike_all-requires-clause-kept
strike_all-requires-clause-kept c r i =
    let can = subst (λ gone. Can c.self.inside.records.held c.args.how gone) (sym c.rollback.view_is) (subst (λ (x : Core). Can x.world.kept c.args.how c.args.rollback) (sym c.self.view_is) c.requires.found) in
    let a = c.rollback.inside.step in
    gone_kept c.self.inside.records.held (reached_good c.self.invariant.standing).kept_once a can.0 (a ∷ c.rollback.inside.consequences.items) can.1.0 can.1.1 r (inr (subst (In r) c.as_slice.ensures.value i))

pub strike_all-requires-clause-distinct : goal.strike_all-requires-clause-distinct
strike_all-requires-clause-distinct c =
    let can = subst (λ gone. Can c.self.inside.records.held c.args.how gone) (sym c.rollback.view_is) (subst (λ (x : Core). Can x.world.kept c.args.how c.args.rollback) (sym c.self.view_is) c.requires.found) in
    let a = c.rollback.inside.step in
    subst AreDistinct (sym c.as_slice.ensures.value) (gone_distinct c.self.inside.records.held (reached_good c.self.invariant.standing).kept_once a can.0 (a ∷ c.rollback.inside.consequences.items) can.1.0 can.1.1).1

pub take_one_back-requires-clause-new : goal.take_one_back-requires-clause-new
take_one_back-requires-clause-new c g used =
    let can = subst (λ gone. Can c.self.inside.records.held c.args.how gone) (sym c.rollback.view_is) (subst (λ (x : Core). Can x.world.kept c.args.how c.args.rollback) (sym c.self.view_is) c.requires.found) in
    none_again c.rollback.inside.consequences.items c.self.inside.tries c.take_all_back.new.tries c.take_all_back.ensures.tries g
    (unnoted_roll _ c.self.invariant.standing c.self.inside.tries.notes c.self.inside.tries.untried c.self.invariant.exact c.args.how (record { first = c.rollback.inside.step; others = c.rollback.inside.consequences.items }) can c.rollback.inside.step (inl refl) g used)

-- the world before the change, and the world that is left
abbrev before : goal.After-put → World
before c = record { opening = loaded_opening c.self.inside.program.value c.self.inside.query.goals c.self.inside.query.variables c.self.inside.loaded; state = c.self.inside.state.held; kept = c.self.inside.records.held; shelf = c.self.inside.shelf.held; next = c.self.inside.next; journal = c.self.inside.journal.held }

abbrev left : goal.After-put → World
left c = record { opening = loaded_opening c.self.inside.program.value c.self.inside.query.goals c.self.inside.query.variables c.self.inside.loaded; state = c.take_one_back.new.state.held; kept = c.strike.new.records.held; shelf = c.take_one_back.new.shelf.held; next = c.self.inside.next; journal = c.put.new.self.held }

-- the records that are left
struck : (c : goal.After-put) → Can c.self.inside.records.held c.args.how (record { first = c.rollback.inside.step; others = c.rollback.inside.consequences.items })
    → Picks (λ s. ¬ In s (c.rollback.inside.step ∷ c.rollback.inside.consequences.items)) c.self.inside.records.held c.strike.new.records.held
struck c can =
    let kept = c.self.inside.records.held in
    let a = c.rollback.inside.step in
    let rs = c.rollback.inside.consequences.items in
    let once = (reached_good c.self.invariant.standing).kept_once in
    struck_first kept c.strike_all.new.records.held c.strike.new.records.held rs a (gone_distinct kept once a can.0 (a ∷ rs) can.1.0 can.1.1) can.0
    (subst (λ l. Picks (λ s. ¬ In s l) kept c.strike_all.new.records.held) c.as_slice.ensures.value c.strike_all.ensures) (λ here. c.strike.ensures a here (sym (c.number-number.ensures ∙ ap (λ (r : Record). r.number) c.step.ensures)))

-- the change took the one to the other
all : (c : goal.After-put) → RolledAway (before c) c.args.how (record { first = c.rollback.inside.step; others = c.rollback.inside.consequences.items }) c.self.inside.tries c.take_one_back.new.tries (left c)
all c =
    let a = c.rollback.inside.step in
    let can = subst (λ gone. Can c.self.inside.records.held c.args.how gone) (sym c.rollback.view_is) (subst (λ (x : Core). Can x.world.kept c.args.how c.args.rollback) (sym c.self.view_is) c.requires.found) in
    rolled_away (before c) c.self.invariant.standing c.args.how (record { first = a; others = c.rollback.inside.consequences.items }) can c.self.inside.tries c.take_one_back.new.tries c.self.invariant.exact c.take_one_back.new.state.held
    (c.take_all_back.new.state.held, c.take_all_back.ensures.state, c.take_one_back.ensures.state)
    (c.take_all_back.new.tries, c.take_all_back.ensures.tries, c.take_one_back.ensures.tries)
    c.strike.new.records.held c.take_one_back.new.shelf.held c.put.new.self.held
    (c.take_one_back.ensures.shelf ∙ ap (λ s. finite.insert s a.number a) c.take_all_back.ensures.shelf)
    (struck c can) (c.put.ensures.held ∙ ap (λ e. c.self.inside.journal.held ++ e ∷ []) (c.entry_for.ensures a (sym (c.number-number.ensures ∙ ap (λ (r : Record). r.number) c.step.ensures))))

pub invariant_of-self : goal.invariant_of-self
invariant_of-self c =
    let a = c.rollback.inside.step in
    let names = c.take_one_back.ensures.streams ∙ ap (told_back a) c.take_all_back.ensures.streams in
    record {
      standing = (all c).standing;
      exact = (all c).exact;
      streams = subst (TellStreams c.self.inside.query.goals c.take_one_back.new.state.held.goals) (sym names) ((all c).streams c.self.inside.streams c.self.invariant.streams);
    }

pub returns-clause-changed : goal.returns-clause-changed
returns-clause-changed c =
    subst (λ (x : Core). Changes x.world (goes c.args.how c.args.rollback) (left c)) c.self.view_is (subst (λ gone. Changes (before c) (goes c.args.how gone) (left c)) c.rollback.view_is (all c).changes)

pub returns-clause-notes : goal.returns-clause-notes
returns-clause-notes c =
    subst (λ (x : Core). AreLeft c.take_one_back.new.state.held.goals (IsBoundIn (all_gone c.args.rollback)) x.notes c.take_one_back.new.tries.notes) c.self.view_is
    (subst (λ gone. AreLeft c.take_one_back.new.state.held.goals (IsBoundIn (all_gone gone)) c.self.inside.tries.notes c.take_one_back.new.tries.notes) c.rollback.view_is (all c).notes)
