use Rattle.ghc_shared.proofs.Words.{◌≡◌, ◌-◌, length, drop, ap, sym, ◌∙◌, arith, length-drop, weight, numbers_from, weight_of_places}
use Rattle.ghc_shared.proofs.Extended.{length-items_of}
use Rattle.ghc_shared.proofs.PlacesOnce.{each_once, all_length}
use Rattle.ghc_shared.proofs.shared.Shared.close.Goals as goal

pub returns-clause-once : goal.returns-clause-once
returns-clause-once g c =
    let base = g.N.Naming.base in
    let kept = c.into_parts-value.ensures.keeper.1 in
    let log = c.into_parts-value.result.1.seat.me.0.seen in
    let ps = c.args.passes.items in
    let back = c.take_all_back.ensures in
    let rest = c.into_inner-rest.ensures in
    let parts : c.take_all_back.new.rest.parts ≡ g.N.Ledger.parts = omega (arith, back.rest.0, ap (λ s. s.parts) rest, c.args.self.one_part, all_length g.N.Naming.passes 0 ps c.requires.all, c.requires.parts) in
    let amount = c.audit.ensures.whole parts in
    let count : weight_of_places (λ _. 1) ps ≡ length (drop base log) = omega (arith, amount, back.rest.1, ap (λ s. s.amount) rest, c.args.self.no_amount, kept.counted, length-drop base log) in
    let size = length-drop base log ∙ ap (λ n. n - base) (sym (length-items_of log) ∙ ap length kept.same) in
    λ h. each_once h g.N.Naming.passes base (drop base log) ps c.requires.all kept.made_by back.theirs count ∙ ap (λ n. weight h (numbers_from base n)) size
