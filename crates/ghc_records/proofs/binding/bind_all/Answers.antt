use Rattle.ghc_records.proofs.Words.{◌≡◌, ◌∙◌, sym, ap, arith, nil_from_length, with_binds}
use Rattle.std.specs.FinMap as finite
use Rattle.ghc_records.proofs.binding.bind_all.Goals as goal

pub returns-else-len-gt0 : goal.returns-else-len-gt0
returns-else-len-gt0 c =
    let none : finite.len c.args.binds ≡ 0 = omega (arith, c.len.ensures, c.if-len-gt0.false) in
    sym (ap (λ l. with_binds l c.args.store.now.held) (nil_from_length (finite.entries c.args.binds) (sym (finite.len-entries c.args.binds) ∙ none)))
