use Rattle.ghc_records.proofs.Words.{◌≡◌, ◌+◌, length, inl, inr, refl, sym, subst, pieces_of, TellsOpening, behind_lines, no_heading}
use Rattle.ghc_records.proofs.ChronicleTold.{opening_rest, opening_told, wrong_opening, wrong_step}
use Rattle.ghc_records.proofs.text.chronicle_reading.open.Goals as goal

pub returns-in_default-clause-fault : goal.returns-in_default-clause-fault
returns-in_default-clause-fault c = inr (1, refl, no_heading c.in_default.ensures.none)

pub returns-in_default-read_opening-clause-fault : goal.returns-in_default-read_opening-clause-fault
returns-in_default-read_opening-clause-fault c = inr (2, refl, wrong_opening c.args.text.now c.in-Some.behind.now c.in-Some.ensures.some c.in_default-read_opening.ensures.none)

pub returns-in_ok-new-in-Ok-clause-told : goal.returns-in_ok-new-in-Ok-clause-told
returns-in_ok-new-in-Ok-clause-told c =
    let o = c.in-Some-read_opening in
    subst (TellsOpening c.args.text.now) (sym c.in_ok-new-in-Ok.ensures.history)
    (opening_told c.args.text.now c.in-Some.behind.now o.told.now o.count o.next c.in-Some.ensures.some o.ensures.some o.ensures.next o.ensures.few c.in-Ok.steps.items c.in-Ok.ensures.told c.in-Ok.ensures.all)

pub returns-in_ok-new-in-Ok-clause-rest : goal.returns-in_ok-new-in-Ok-clause-rest
returns-in_ok-new-in-Ok-clause-rest c =
    let o = c.in-Some-read_opening in
    subst (λ h. behind_lines (length h.steps + 2) c.args.text.now ≡ pieces_of c.in-Ok.rest.now) (sym c.in_ok-new-in-Ok.ensures.history)
    (opening_rest c.args.text.now c.in-Some.behind.now o.told.now o.count o.next c.in-Some.ensures.some o.ensures.some o.ensures.next o.ensures.few c.in-Ok.steps.items c.in-Ok.rest.now c.in-Ok.ensures.all c.in-Ok.ensures.rest)

pub returns-in-Err-clause-fault : goal.returns-in-Err-clause-fault
returns-in-Err-clause-fault c =
    let o = c.in-Some-read_opening in
    elim c.in-Err.ensures.fault [
      | inl memory ↦ inl memory
      | inr wrong ↦ inr (wrong_step c.args.text.now c.in-Some.behind.now o.told.now o.count o.next c.in-Some.ensures.some o.ensures.some o.ensures.next o.ensures.few c.in-Err.fault wrong.0 wrong.1 wrong.2)
    ]
