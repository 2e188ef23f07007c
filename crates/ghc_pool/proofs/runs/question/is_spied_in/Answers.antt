use Rattle.ghc_pool.proofs.Words.{◌≡◌, true, false, sym, ap, ◌∙◌, Goals}
use Rattle.std.specs.FinMap as finite
use Rattle.ghc_pool.proofs.Spied.{spied_there, none_spied, nothing_spied}
use Rattle.ghc_pool.proofs.runs.question.is_spied_in.Goals as goal

pub returns-then-is_empty : goal.returns-then-is_empty
returns-then-is_empty c =
    (λ no. absurd (let clash : false ≡ true = no in cc), λ s. absurd (nothing_spied c.args.spies.now c.args.core.now.world c.args.goal (c.is_empty.ensures.0 c.if-is_empty.true) s))

pub returns-in-Some : goal.returns-in-Some
returns-in-Some c =
    let at = ap (λ (m : Goals). finite.get m c.args.goal) (sym c.goals.ensures) ∙ sym c.in-Some.ensures in
    spied_there c.args.spies.now c.args.core.now.world c.args.goal c.is_spied.result c.in-Some.found.now at c.is_spied.ensures

pub returns-in-None : goal.returns-in-None
returns-in-None c =
    let at = ap (λ (m : Goals). finite.get m c.args.goal) (sym c.goals.ensures) ∙ sym c.in-None.ensures in
    (λ no. absurd (let clash : false ≡ true = no in cc), λ s. absurd (none_spied c.args.spies.now c.args.core.now.world c.args.goal at s))
