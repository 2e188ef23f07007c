use Rattle.ghc_match.proofs.Words.{take, get_or, sym, ◌∙◌, subst, take_more, variable, IsSetOf, value_at, holds_nothing, EndsIn, Wants}
use Rattle.ghc_match.proofs.Values.{ends_once}
use Rattle.ghc_match.proofs.GainsLemmas.{has_more}
use Rattle.ghc_match.proofs.EndsLemmas.{not_unbound, after_unbound, after_other}
use Rattle.ghc_match.proofs.evaluation.unbound_ends.Goals as goal
use Rattle.ghc_match.proofs.evaluation.unbound_ends.Goals.{in-Unbound+in_ok-insert, in_default}

pub loop-name-init : goal.loop-name-init
loop-name-init c x = (λ h. absurd (holds_nothing c.new-wanted.result c.new-wanted.ensures x h), λ w. absurd w.1)

pub loop-name-preserved : goal.loop-name-preserved
loop-name-preserved c =
    let S = value_at c.args.store.now.held in
    let y = get_or c.args.names.now c.loop-name.name-index (record { step = 0; place = 0 }) in
    let goes = has_more (λ z x. EndsIn S z (variable x)) c.loop-name.wanted c.match-end_of.wanted (take c.loop-name.name-index c.args.names.now) y c.loop-name.invariant in
    subst (λ l. IsSetOf c.match-end_of.wanted (Wants (EndsIn S) l)) (sym (take_more c.args.names.now c.loop-name.name-index (record { step = 0; place = 0 }) c.loop-name-test.true))
    (goes (elim c.match-end_of.branch [
      | in-Unbound+in_ok-insert w ↦ after_unbound (EndsIn S y) c.loop-name.wanted c.match-end_of.wanted w.in-Unbound.x (ends_once y) w.in-Unbound.ensures (w.wanted-is ∙ w.in_ok-insert.ensures.ok)
      | in_default w ↦ after_other (EndsIn S y) c.loop-name.wanted c.match-end_of.wanted (not_unbound (EndsIn S y) c.end_of.result (ends_once y) w.in_default.not-Unbound c.end_of.ensures) w.wanted-is
    ]))
