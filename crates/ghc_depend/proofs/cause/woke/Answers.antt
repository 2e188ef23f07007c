use Rattle.ghc_depend.proofs.Words.{◌≡◌, true, false, arith}
use Rattle.ghc_depend.proofs.Sourcing.{read_from, not_woken}
use Rattle.ghc_depend.proofs.cause.woke.Goals as goal

pub returns-then-place-last : goal.returns-then-place-last
returns-then-place-last c a at =
    let ss = c.args.records.now.slots in
    let reads = c.args.sources.now.reads in
    let b = c.args.later.now in
    let x = c.in-Some.field-0-1.now in
    let last = read_from ss b reads c.requires c.in-Some.last.now x c.in-Some.ensures.value in (
      λ e. absurd (let clash : false ≡ true = e in cc),
      λ w. absurd (not_woken c.args.records.now.held ss c.len-count.ensures.slots b a last.0 c.args.place c.in-Some.last.now x at last.1 last.2 (omega (arith, c.if-place-last.true)) w),
    )
