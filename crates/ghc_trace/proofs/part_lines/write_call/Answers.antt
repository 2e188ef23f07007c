use Rattle.ghc_trace.proofs.Words.{◌++◌, Option, Bor, subst, ap, ◌∙◌, append_assoc, inl, inr, Record, option_copied, string_bytes}
use Rattle.ghc_trace.specs.PartLines.{gave_too_long, given_too_long, made_too_long, standing, taken}
use Rattle.ghc_trace.specs.inner.PartsCode.{IsTakenOrThere}
use Rattle.ghc_trace.proofs.CausePlaces.{on_ok}
use Rattle.ghc_trace.proofs.part_lines.write_call.Goals as goal

pub returns-in-Err-clause-too_long : goal.returns-in-Err-clause-too_long
returns-in-Err-clause-too_long c e = let long = c.write_given_by_all.ensures.too_long (c.in-Err.is ∙ e) in given_too_long long.0 long.1 long.2

pub returns-in-Some-clause-text : goal.returns-in-Some-clause-text
returns-in-Some-clause-text c = on_ok c.write_gave.result c.write_gave.ensures.text (λ (gave, tells, eq).
    let w = c.args.core.now.world in
    let given = c.in-Ok.ensures.text in
    let r = subst (λ (o : Option (Bor Record)). IsTakenOrThere w c.args.name c.args.goal.now (option_copied o)) c.in-Some.is c.requires.taken in
    (given.0 ++ gave, taken c.in-Some.step.now r.0 r.1 r.2 given.1 tells, eq ∙ ap (λ t. t ++ gave) given.2 ∙ append_assoc (string_bytes c.args.out.now) given.0 gave))

pub returns-in-Some-clause-too_long : goal.returns-in-Some-clause-too_long
returns-in-Some-clause-too_long c e =
    let w = c.args.core.now.world in
    let step = c.in-Some.step.now in
    let r = subst (λ (o : Option (Bor Record)). IsTakenOrThere w c.args.name c.args.goal.now (option_copied o)) c.in-Some.is c.requires.taken in
    elim (c.write_gave.ensures.too_long e) [
      | inl long ↦ gave_too_long (step, r.0, r.1) long
      | inr q ↦ made_too_long step q.0 q.1 r.0 r.1 q.2 q.3
    ]

pub returns-in_ok-write_standing-in-None-clause-text : goal.returns-in_ok-write_standing-in-None-clause-text
returns-in_ok-write_standing-in-None-clause-text c =
    let w = c.args.core.now.world in
    let given = c.in-Ok.ensures.text in
    let status = c.in_ok-write_standing-in-None.ensures.text in
    let there = subst (λ (o : Option (Bor Record)). IsTakenOrThere w c.args.name c.args.goal.now (option_copied o)) c.in-None.is c.requires.taken in
    (given.0 ++ status.0, standing there given.1 status.1, status.2 ∙ ap (λ t. t ++ status.0) given.2 ∙ append_assoc (string_bytes c.args.out.now) given.0 status.0)
