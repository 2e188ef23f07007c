use Rattle.ghc_records.proofs.Words.{◌≡◌, ◌∙◌, sym, arith}
use Rattle.std.specs.FinMap as finite
use Rattle.ghc_records.proofs.binding.share_all.Goals as goal

pub returns-then-len-eq0 : goal.returns-then-len-eq0
returns-then-len-eq0 c =
    let none : finite.len c.args.binds.now ≡ 0 = omega (arith, c.len.ensures, c.if-len-eq0.true) in
    c.new.ensures ∙ sym (finite.empty_of_len c.args.binds.now none)
