use Rattle.ghc_core.proofs.Words.{◌∙◌, ap, sym, subst, subst₂, IsValue, value_at, Leads, Fault, EndsIn, shown_value, Core}
use Rattle.ghc_core.proofs.Refusing.{no_stream, tail_bound}
use Rattle.ghc_core.proofs.StreamSteps.{is_full, refused_anyway, takes_something}
use Rattle.ghc_core.proofs.core_state.Core.open_stream.Goals as goal

pub returns-in_default-clause-fault : goal.returns-in_default-clause-fault
returns-in_default-clause-fault c = no_stream c.in_default.ensures.none

pub returns-in_default-clause-anyway : goal.returns-in_default-clause-anyway
returns-in_default-clause-anyway c f fails = refused_anyway c.args.self.now.world c.stands.ensures.orderly c.args.stream Fault.NoStream f (no_stream c.in_default.ensures.none) fails

pub returns-then-is_full : goal.returns-then-is_full
returns-then-is_full c =
    let w = c.args.self.now.world in
    let store = c.store.ensures ∙ ap (λ (x : Core). x.world.state.store) c.self.view_is in
    let ends : EndsIn (value_at w.state.store) c.in-Some.tail c.end.result.now =
    (c.end.ensures.0, subst₂ (λ t m. Leads (value_at m) t c.end.ensures.0 c.end.result.now) c.variable-tail_term.ensures store c.end.ensures.1) in
    let unbound = rw (sym c.in-Var.ensures.shown) at ends in
    let full = is_full w c.stands.ensures.orderly c.args.stream c.in-Some.name c.in-Some.tail c.in-Var.field-0 c.in-Some.ensures.some unbound (c.is_full.ensures.full c.if-is_full.true) in
    record { found = tt; room = tt; fault = full; anyway = λ f fails. refused_anyway w c.stands.ensures.orderly c.args.stream Fault.Full f full fails }

pub returns-in-Var : goal.returns-in-Var
returns-in-Var c =
    let w = c.args.self.now.world in
    let store = c.store.ensures ∙ ap (λ (x : Core). x.world.state.store) c.self.view_is in
    let ends : EndsIn (value_at w.state.store) c.in-Some.tail c.end.result.now =
    (c.end.ensures.0, subst₂ (λ t m. Leads (value_at m) t c.end.ensures.0 c.end.result.now) c.variable-tail_term.ensures store c.end.ensures.1) in
    let unbound = rw (sym c.in-Var.ensures.shown) at ends in
    let room = c.is_full.ensures.room c.if-is_full.false in
    record {
      found = c.in-Some.ensures.some;
      room = room;
      fault = tt;
      anyway = λ f fails. absurd (takes_something w c.stands.ensures.orderly c.args.stream c.in-Some.name c.in-Some.tail c.in-Var.field-0 c.in-Some.ensures.some unbound room fails);
    }

pub returns : goal.returns
returns c =
    let w = c.args.self.now.world in
    let store = c.store.ensures ∙ ap (λ (x : Core). x.world.state.store) c.self.view_is in
    let ends : EndsIn (value_at w.state.store) c.in-Some.tail c.end.result.now =
    (c.end.ensures.0, subst₂ (λ t m. Leads (value_at m) t c.end.ensures.0 c.end.result.now) c.variable-tail_term.ensures store c.end.ensures.1) in
    let bound = tail_bound c.in-Some.name c.in-Some.tail c.end.result.now c.in-Some.ensures.some ends (subst IsValue c.view.ensures.shown (shown_value c.view.result c.in_default-view.not-Var)) in
    record { found = tt; room = tt; fault = bound; anyway = λ f fails. refused_anyway w c.stands.ensures.orderly c.args.stream Fault.TailBound f bound fails }
