use Rattle.ghc_hooks.proofs.Words.{◌∙◌, sym, inl, inr}
use Rattle.ghc_hooks.proofs.Unblocking.{free_gone, not_taken}
use Rattle.ghc_hooks.proofs.unblocked.Unblocked.take_out.Goals as goal

pub returns-then-remove : goal.returns-then-remove
returns-then-remove c notes are =
    let u = c.args.self.now in
    let unsorted = are.once c.args.goal (sym c.remove.ensures.there ∙ c.if-remove.true) in
    free_gone notes u (record { unsorted = c.remove.new.self; ready = u.ready; failed = u.failed }) are c.args.goal c.remove.ensures.held
    (not_taken u.ready c.args.goal (λ k. unsorted (inl k))) (not_taken u.failed c.args.goal (λ k. unsorted (inr k)))

pub returns : goal.returns
returns c notes are =
    let u = c.args.self.now in
    free_gone notes u (record { unsorted = c.remove.new.self; ready = c.take.new.goals; failed = c.take-2.new.goals }) are c.args.goal c.remove.ensures.held c.take.ensures c.take-2.ensures
