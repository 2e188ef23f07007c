use Rattle.ghc_depend.proofs.Words.{◌≡◌, true, false, refl, inl, inr, sym, ◌∙◌}
use Rattle.ghc_depend.proofs.OnePass.{consumes_one, reads_one, names_one, one_used}
use Rattle.ghc_depend.proofs.one_pass.uses_one.Goals as goal

pub returns-then-consumes_from : goal.returns-then-consumes_from
returns-then-consumes_from c rs of =
    let s = c.args.steps.now in
    (λ _. consumes_one c.args.records.now.slots rs s.places.keys s.bound.keys of c.args.later.now (c.consumes_from.ensures.0 c.if-consumes_from.true), λ _. refl)

pub returns-then-reads_one : goal.returns-then-reads_one
returns-then-reads_one c rs of =
    let s = c.args.steps.now in
    (λ _. reads_one c.args.records.now.slots rs s.places.keys s.bound.keys of c.args.later.now (c.reads_one.ensures.0 c.if-reads_one.true), λ _. refl)

pub returns : goal.returns
returns c rs of =
    let s = c.args.steps.now in
    let ss = c.args.records.now.slots in
    let b = c.args.later.now in (
      λ e. names_one ss rs s.places.keys s.bound.keys of b (c.names_from_one.ensures.0 e),
      λ u. elim (one_used ss rs s.places.keys s.bound.keys of b u) [
        | inl h ↦ absurd (let clash : true ≡ false = sym (c.consumes_from.ensures.1 h) ∙ c.if-consumes_from.false in cc)
        | inr (inl h) ↦ absurd (let clash : true ≡ false = sym (c.reads_one.ensures.1 h) ∙ c.if-reads_one.false in cc)
        | inr (inr h) ↦ c.names_from_one.ensures.1 h
      ],
    )
