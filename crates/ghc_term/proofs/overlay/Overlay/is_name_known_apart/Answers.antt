use Rattle.ghc_term.proofs.Words.{sym, subst, arith, variable, Reaches, value_at}
use Rattle.std.specs.FinMap as finite
use Rattle.ghc_term.proofs.Merged.{none_more}
use Rattle.ghc_term.proofs.overlay.Overlay.is_name_known_apart.Goals as goal

pub returns-then-len-eq0 : goal.returns-then-len-eq0
returns-then-len-eq0 c h =
    let o = c.args.self.now in
    let S = value_at o.store.now.held in
    let none = finite.empty_of_len o.binds.now (omega (arith, c.len.ensures, c.if-len-eq0.true)) in
    subst (λ T. ¬ Reaches T (variable c.args.y) c.args.x) (sym (none_more o.binds.now S none)) (c.is_known_apart.ensures h)
