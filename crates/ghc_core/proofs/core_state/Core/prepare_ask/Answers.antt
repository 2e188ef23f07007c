use Rattle.ghc_core.proofs.Words.{◌≡◌, inr, ap, sym, subst, ◌∙◌, Err, None, Asked as asked, NameNoneOf, asked_as, AreNarrow, AllCalls, IsFirstCallWithout, HasClauseFor, NameKnown, Core}
use Rattle.ghc_fire.specs.Asked.{Asks}
use Rattle.ghc_term.proofs.ListsLemmas.{not_both}
use Rattle.ghc_core.proofs.AskedGoals.{defined_by, unknown_told, full_told, one_ask_refusal, undefined_first, ask_not_refused, none_of_next, ask_step}
use Rattle.ghc_core.proofs.core_state.Core.prepare_ask.Goals as goal

pub check_calls-requires : goal.check_calls-requires
check_calls-requires c = subst AreNarrow (sym c.goals-goals.ensures.goals) c.goals-goals.ensures.proper.0.narrow

pub returns-in-Err-clause-anyway : goal.returns-in-Err-clause-anyway
returns-in-Err-clause-anyway c f fails =
    let gs = c.args.ask.now in
    let u = c.in-Err.ensures.refused in
    let first = subst (λ (x : Core). IsFirstCallWithout (HasClauseFor x.world.opening.program) gs u.0 u.1) c.self.view_is
    (rw (c.deref.ensures, c.goals-goals.ensures.goals) at u.2) in
    absurd (undefined_first c.args.self.now.world gs u.0 u.1 first fails)

pub returns-then-not-ask_is_known : goal.returns-then-not-ask_is_known
returns-then-not-ask_is_known c =
    let w = c.args.self.now.world in
    let gs = c.args.ask.now in
    let all = subst (λ (x : Core). AllCalls (HasClauseFor x.world.opening.program) gs) c.self.view_is
    (rw (c.deref.ensures, c.goals-goals.ensures.goals) at c.in-Ok.ensures.defined) in
    let told = unknown_told w gs all (λ known. not_both _ c.if-not-ask_is_known.true
    (c.ask_is_known.ensures.1 (subst (λ (x : Core). NameKnown x.world gs) (sym c.self.view_is) known))) in
    record { answer = (tt, inr told); anyway = λ f fails. ap Err (one_ask_refusal w gs told fails) }

pub returns-then-is_full : goal.returns-then-is_full
returns-then-is_full c =
    let w = c.args.self.now.world in
    let gs = c.args.ask.now in
    let all = subst (λ (x : Core). AllCalls (HasClauseFor x.world.opening.program) gs) c.self.view_is
    (rw (c.deref.ensures, c.goals-goals.ensures.goals) at c.in-Ok.ensures.defined) in
    let known = subst (λ (x : Core). NameKnown x.world gs) c.self.view_is (c.ask_is_known.ensures.0 c.if-not-ask_is_known.false) in
    let told = full_told w gs all known (c.is_full.ensures.full c.if-is_full.true) in
    record { answer = (tt, inr told); anyway = λ f fails. ap Err (one_ask_refusal w gs told fails) }

pub ask_addition-requires : goal.ask_addition-requires
ask_addition-requires c =
    let gs = c.args.ask.now in
    let known = subst (λ (x : Core). NameKnown x.world gs) c.self.view_is (c.ask_is_known.ensures.0 c.if-not-ask_is_known.false) in
    subst (λ (x : Core). NameNoneOf x.world.next gs) (sym c.self.view_is) (none_of_next c.args.self.now.world c.stands.ensures.standing gs c.goals-goals.ensures.proper known (c.is_full.ensures.room c.if-is_full.false).0)

pub returns-in_err-ask_addition-clause-anyway : goal.returns-in_err-ask_addition-clause-anyway
returns-in_err-ask_addition-clause-anyway c f fails =
    let gs = c.args.ask.now in
    let known = subst (λ (x : Core). NameKnown x.world gs) c.self.view_is (c.ask_is_known.ensures.0 c.if-not-ask_is_known.false) in
    absurd (ask_not_refused c.args.self.now.world gs known (c.is_full.ensures.room c.if-is_full.false) fails)

pub returns : goal.returns
returns c =
    let w = c.args.self.now.world in
    let gs = c.args.ask.now in
    let P = w.opening.program in
    let all = subst (λ (x : Core). AllCalls (HasClauseFor x.world.opening.program) gs) c.self.view_is
    (rw (c.deref.ensures, c.goals-goals.ensures.goals) at c.in-Ok.ensures.defined) in
    let known = subst (λ (x : Core). NameKnown x.world gs) c.self.view_is (c.ask_is_known.ensures.0 c.if-not-ask_is_known.false) in
    let room = c.is_full.ensures.room c.if-is_full.false in
    let number : c.self.inside.next ≡ w.next = ap (λ (x : Core). x.world.next) c.self.view_is in
    let step = c.in_ok-ask_addition.field-0 in
    let asks = subst (λ n. Asks P (asked_as n gs) n step.effect) number (c.in_ok-ask_addition.ensures.effect P (defined_by P gs all)) in
    let is = c.in_ok-ask_addition.ensures.step ∙ ap (λ n. record { number = n; goal = None; consumed = None; act = asked (asked_as n gs); effect = step.effect }) number in
    record {
      answer = (ask_step w c.stands.ensures.standing gs c.goals-goals.ensures.proper known room.0 all room step.effect asks step is, tt);
      anyway = λ f fails. absurd (ask_not_refused w gs known room fails);
    }
