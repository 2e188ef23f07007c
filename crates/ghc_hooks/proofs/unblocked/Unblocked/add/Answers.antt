use Rattle.ghc_hooks.proofs.Words.{◌≡◌, ◌∙◌, refl, sym, ap, ready, waiting, failed, status_of}
use Rattle.ghc_hooks.proofs.Unblocking.{waiting_noted, free_noted}
use Rattle.ghc_hooks.proofs.unblocked.Unblocked.add.Goals as goal

pub returns-in-Waiting : goal.returns-in-Waiting
returns-in-Waiting c notes note are none says = waiting_noted notes c.args.self.now c.args.self.now are c.args.goal note none (λ free. free c.in-Waiting.field-0 (says ∙ ap status_of c.in-Waiting.is))

pub returns-in-Ready : goal.returns-in-Ready
returns-in-Ready c notes note are none says =
    free_noted notes c.args.self.now (record { unsorted = c.put.new.self; ready = c.args.self.now.ready; failed = c.args.self.now.failed }) are c.args.goal note none
    (λ xs waits. let clash : ready ≡ waiting xs = sym (says ∙ ap status_of c.in-Ready.is) ∙ waits in cc) c.put.ensures.held refl refl

pub returns-in-Failed : goal.returns-in-Failed
returns-in-Failed c notes note are none says =
    free_noted notes c.args.self.now (record { unsorted = c.put-in-Failed.new.self; ready = c.args.self.now.ready; failed = c.args.self.now.failed }) are c.args.goal note none
    (λ xs waits. let clash : failed c.in-Failed.field-0 ≡ waiting xs = sym (says ∙ ap status_of c.in-Failed.is) ∙ waits in cc) c.put-in-Failed.ensures.held refl refl
