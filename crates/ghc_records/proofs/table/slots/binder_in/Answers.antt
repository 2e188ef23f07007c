use Rattle.ghc_records.proofs.Words.{◌≡◌, sym, ap, ◌∙◌, subst, true, false, Some, None, is_some, option_copied, not_both, value_at, Record, Effect}
use Rattle.ghc_records.proofs.table.slots.binder_in.Goals as goal

pub returns-in_err-record-clause-none : goal.returns-in_err-record-clause-none
returns-in_err-record-clause-none c = rw c.from_residual.ensures (λ r at _. let clash : None ≡ Some r = sym (ap option_copied c.in_err-record.was) ∙ (c.record_in.ensures r).1 at in cc)

pub returns-in-Some-clause-some : goal.returns-in-Some-clause-some
returns-in-Some-clause-some c =
    let r = c.in_ok-record.record.now in
    let binds = c.binds.ensures ∙ ap (λ (e : Effect). e.binds) c.effect.ensures in
    (r, (c.record_in.ensures r).0 (ap option_copied c.in_ok-record.was), subst (λ b. is_some (value_at b c.args.x) ≡ true) binds (ap is_some (sym c.get.ensures ∙ ap option_copied c.in-Some.is)), sym c.number.ensures)

pub returns-in-None-clause-none : goal.returns-in-None-clause-none
returns-in-None-clause-none c r at bound =
    let own = c.in_ok-record.record.now in
    let both : Some own ≡ Some r = sym (ap option_copied c.in_ok-record.was) ∙ (c.record_in.ensures r).1 at in
    let same : own ≡ r = cc in
    let binds = c.binds.ensures ∙ ap (λ (e : Effect). e.binds) c.effect.ensures ∙ ap (λ (z : Record). z.effect.binds) same in
    not_both _ (subst (λ b. is_some (value_at b c.args.x) ≡ false) binds (ap is_some (sym c.get.ensures ∙ ap option_copied c.in-None.is))) bound
