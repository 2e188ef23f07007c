use Rattle.std.proofs.Common.{ap, ◌∙◌, subst}
use mathlib.Core.List.{IsPrefix}
use Rattle.ghc_shared.proofs.Extended.{one_first}
use Rattle.ghc_shared.proofs.locked.Locked.meet.Goals as goal

pub returns-clause-one : goal.returns-clause-one
returns-clause-one g c =
    let history = g.C.Growing.history c.args.self.now in
    one_first c.args.me.now.front c.args.you.now.front history (subst (λ l. IsPrefix c.args.me.now.front l) c.look.ensures.front c.look.ensures.begins)
    (subst (λ l. IsPrefix c.args.you.now.front l) (c.look-2.ensures.front ∙ ap (λ v. g.C.Growing.history v) c.look.ensures.value) c.look-2.ensures.begins)
