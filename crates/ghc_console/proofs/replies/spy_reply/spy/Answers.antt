use Rattle.ghc_console.proofs.CitedWords.{◌↔◌, IsTrue, ap, refl, subst, sym, ◌∙◌, false≢true, Program, RepliesToSpy, is_spied, is_undefined, refusal, HasClauseFor}
use Rattle.ghc_term.specs.declared.fault.Fault.TheVariants as fault
use Rattle.ghc_console.proofs.Spying.{always}
use Rattle.ghc_console.proofs.StepReplies.{on_ok}
use Rattle.ghc_console.proofs.replies.spy_reply.spy.Goals as goal

pub returns-then-not-is_defined-clause-text : goal.returns-then-not-is_defined-clause-text
returns-then-not-is_defined-clause-text c = on_ok c.refused.result c.refused.ensures.text (λ told.
    let P = c.args.core.now.world.opening.program in
    let f = c.args.name.now in
    let n = c.args.arity in
    let is = subst (λ (P : Program). IsTrue c.is_defined.result ↔ HasClauseFor P f n) c.program.ensures c.is_defined.ensures in
    subst (RepliesToSpy P f n) (sym (told ∙ ap (λ name. refusal (fault.Undefined name n)) c.in_ok-name.ensures.same)) (is_undefined (λ h. false≢true (sym c.if-not-is_defined.true ∙ is.1 h))))

pub returns-then-not-is_defined-clause-spies : goal.returns-then-not-is_defined-clause-spies
returns-then-not-is_defined-clause-spies c =
    let f = c.args.name.now in
    let n = c.args.arity in
    let is = subst (λ (P : Program). IsTrue c.is_defined.result ↔ HasClauseFor P f n) c.program.ensures c.is_defined.ensures in
    always c.refused.result (record { defined = λ h. absurd (false≢true (sym c.if-not-is_defined.true ∙ is.1 h)); undefined = λ _. refl })

pub returns-clause-text : goal.returns-clause-text
returns-clause-text c =
    let P = c.args.core.now.world.opening.program in
    let f = c.args.name.now in
    let n = c.args.arity in
    let is = subst (λ (P : Program). IsTrue c.is_defined.result ↔ HasClauseFor P f n) c.program.ensures c.is_defined.ensures in
    always c.add.result (subst (RepliesToSpy P f n) (sym c.in_ok-tell.ensures) (is_spied (is.0 c.if-not-is_defined.false)))

pub returns-clause-spies : goal.returns-clause-spies
returns-clause-spies c =
    let f = c.args.name.now in
    let n = c.args.arity in
    let is = subst (λ (P : Program). IsTrue c.is_defined.result ↔ HasClauseFor P f n) c.program.ensures c.is_defined.ensures in
    on_ok c.add.result c.add.ensures.ok (λ grown. record { defined = λ _. grown; undefined = λ none. absurd (none (is.0 c.if-not-is_defined.false)) })
