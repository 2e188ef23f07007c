use Rattle.ghc_pool.proofs.Words.{ap, sym, subst, ◌∙◌, length, None}
use Rattle.ghc_core.specs.Proposes.{IsProposedIn}
use Rattle.ghc_pool.specs.inner.Plans.{made_if_stepped}
use Rattle.ghc_pool.proofs.Telling.{decided_submit}
use Rattle.ghc_pool.proofs.deciding.Deciding.submit.Goals as goal

pub submit_proposed-receipt-requires : goal.submit_proposed-receipt-requires
submit_proposed-receipt-requires g c =
    let said = c.requires.proposed in
    let proposed = said.1.answer.0 in
    (said.0, None, said.1.of_opening, subst (λ h. IsProposedIn said.0 h None c.args.proposal) (sym proposed.named) proposed)

pub returns : goal.returns
returns g c =
    let call = c.submit_proposed-receipt.ensures in
    let done = c.submitted.ensures in
    rw done.answer (decided_submit g.N.Naming.opened c.args.self.now.scope.now c.args.self.now.spies.now c.args.self.now.steps c.args.goal c.args.pass.now c.submit_proposed-receipt.new.me _ _ _ call.decided.0 c.args.proposal c.submit_proposed-receipt.result c.submitted.result.stop c.requires.steps c.requires.inside c.requires.proposed call.number call.begins call.submits call.decided.1 call.answered
    done.stop (done.step, (c.requires.proposed.0, c.args.proposal, c.requires.proposed.1, done.made ∙ ap (made_if_stepped c.submit_proposed-receipt.result.reply) (c.made-goals.ensures ∙ ap (λ e. length e.makes) c.effect.ensures))) (rw done.woken c.requires.woken))
