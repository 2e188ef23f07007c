use Rattle.ghc_depend.proofs.Words.{◌≡◌, refl, sym, ap, subst, ◌∙◌, arith, AreDistinct, Record, numbers, MakesVariable, some_of, one_record}
use Rattle.std.specs.Prelude.{option_copied}
use Rattle.ghc_depend.proofs.Sourcing.{only_there, not_there, nowhere}
use Rattle.ghc_depend.proofs.sources.place_of_maker.Goals.{then-x-eq0-via-then-x-eq0, then-x-eq0-via-else-x-eq0+then-fresh-x}
use Rattle.ghc_depend.proofs.sources.place_of_maker.Goals as goal

pub returns-in_err-place : goal.returns-in_err-place
returns-in_err-place c = rw c.from_residual.ensures (
    nowhere c.args.records.now.slots (subst (λ l. AreDistinct (numbers l)) c.len-count.ensures.slots c.len-count.ensures.distinct) (λ a. MakesVariable a c.args.x) c.args.x.step (λ a m. sym m.0)
    (rw c.len-count.ensures.slots at c.in_err-place.ensures.none))

pub unwrap-maker-requires : goal.unwrap-maker-requires
unwrap-maker-requires c = let f = c.in_ok-place.ensures.found in some_of c.at.result f.0 ((c.at.ensures f.0).1 f.1)

pub returns-then-x-eq0 : goal.returns-then-x-eq0
returns-then-x-eq0 c =
    let ss = c.args.records.now.slots in
    let maker = c.unwrap-maker.result.now in
    let stands = (c.at.ensures maker).0 (ap option_copied c.unwrap-maker.ensures) in
    let f = c.in_ok-place.ensures.found in
    let number : maker.number ≡ c.args.x.step = subst (λ (r : Record). r.number ≡ c.args.x.step) (one_record ss c.in_ok-place.place c.in_ok-place.place f.0 maker f.1 stands refl) f.2 in
    not_there ss (subst (λ l. AreDistinct (numbers l)) c.len-count.ensures.slots c.len-count.ensures.distinct) (λ a. MakesVariable a c.args.x) c.args.x.step (λ a m. sym m.0) c.in_ok-place.place maker stands number
    (λ m. elim c.then-x-eq0.branch [
      | then-x-eq0-via-then-x-eq0 w ↦ let low = m.1 in let zero = w.if-x-eq0.true in omega (arith, low, zero)
      | then-x-eq0-via-else-x-eq0+then-fresh-x w ↦
          let high = m.2 in
          let is = w.fresh.ensures ∙ ap (λ f. f.fresh) w.effect.ensures in
          let past = w.if-fresh-x.true in
          omega (arith, high, is, past)
    ])

pub returns : goal.returns
returns c =
    let ss = c.args.records.now.slots in
    let maker = c.unwrap-maker.result.now in
    let stands = (c.at.ensures maker).0 (ap option_copied c.unwrap-maker.ensures) in
    let f = c.in_ok-place.ensures.found in
    let number : maker.number ≡ c.args.x.step = subst (λ (r : Record). r.number ≡ c.args.x.step) (one_record ss c.in_ok-place.place c.in_ok-place.place f.0 maker f.1 stands refl) f.2 in
    let is = c.fresh.ensures ∙ ap (λ f. f.fresh) c.effect.ensures in
    only_there ss (subst (λ l. AreDistinct (numbers l)) c.len-count.ensures.slots c.len-count.ensures.distinct) (λ a. MakesVariable a c.args.x) c.args.x.step (λ a m. sym m.0) c.in_ok-place.place maker stands number
    (sym number, omega (arith, c.if-x-eq0.false), omega (arith, is, c.if-fresh-x.false))
