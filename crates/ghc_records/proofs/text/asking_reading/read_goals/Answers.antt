use Rattle.ghc_records.proofs.Words.{◌<◌, sym, ap, ◌∙◌, subst, arith, is_some, list_all, most_open, body_text}
use Rattle.std.proofs.lemmas.Bool.{false≢true}
use Rattle.ghc_records.proofs.AskingLines.{all_named, none_read, one_unnamed, same_goals, unnamed_read}
use Rattle.ghc_records.proofs.OpenBytes.{few_open}
use Rattle.ghc_records.proofs.text.asking_reading.read_goals.Goals as goal

pub returns-then-opens_many-clause-none : goal.returns-then-opens_many-clause-none
returns-then-opens_many-clause-none c = λ gs says. absurd (omega (arith, says.4, c.opens_many.ensures.0 c.if-opens_many.true))

pub returns-in-Err-clause-none : goal.returns-in-Err-clause-none
returns-in-Err-clause-none c =
    none_read c.args.text.now c.read_body.result (c.read_body_is_exact.ensures c.args.text.now c.read_body.result c.read_body.ensures) c.in-Err.fault c.in-Err.is (c.is_memory.ensures c.if-is_memory.false)

pub returns-then-not-are_all_named-clause-none : goal.returns-then-not-are_all_named-clause-none
returns-then-not-are_all_named-clause-none c =
    unnamed_read c.args.text.now c.read_body.result (c.read_body_is_exact.ensures c.args.text.now c.read_body.result c.read_body.ensures) c.in-Ok.written c.in-Ok.is
    (one_unnamed c.in-Ok.written.named (ap (list_all is_some) (sym c.named.ensures) ∙ sym c.are_all_named.ensures ∙ c.if-not-are_all_named.true))

pub returns-then-is_deep-clause-none : goal.returns-then-is_deep-clause-none
returns-then-is_deep-clause-none c = λ gs says.
    let same = same_goals c.args.text.now c.read_body.result (c.read_body_is_exact.ensures c.args.text.now c.read_body.result c.read_body.ensures) c.in-Ok.written c.in_ok-ask.ask c.in-Ok.is c.in_ok-ask.ensures gs says in
    absurd (omega (arith, says.5, ap (λ l. most_open 0 (body_text l)) (same ∙ sym c.goals.ensures.goals), c.in_ok-is_deep.ensures.0 c.if-is_deep.true))

pub returns-clause-some : goal.returns-clause-some
returns-clause-some c = (
  c.in-Ok.written,
  c.in-Ok.ensures.0,
  all_named c.in-Ok.written.named (ap (list_all is_some) (sym c.named.ensures) ∙ sym c.are_all_named.ensures ∙ c.if-not-are_all_named.false),
  c.in_ok-ask.ensures,
  few_open c.args.text.now (λ h. false≢true (sym c.if-opens_many.false ∙ c.opens_many.ensures.1 h)),
  few_open (body_text c.in_ok-ask.ask) (λ h. false≢true (sym c.if-is_deep.false ∙ c.in_ok-is_deep.ensures.1 (subst (λ l. 1000 < most_open 0 (body_text l)) (sym c.goals.ensures.goals) h))),
)

pub returns-clause-one : goal.returns-clause-one
returns-clause-one c = λ gs says.
    same_goals c.args.text.now c.read_body.result (c.read_body_is_exact.ensures c.args.text.now c.read_body.result c.read_body.ensures) c.in-Ok.written c.in_ok-ask.ask c.in-Ok.is c.in_ok-ask.ensures gs says
