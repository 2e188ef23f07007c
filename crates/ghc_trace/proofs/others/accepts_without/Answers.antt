use Rattle.ghc_trace.proofs.Words.{◌≡◌, ◌∙◌, ◌↔◌, false, true, sym, subst, IsTrue, In, AreDistinct, numbers, held_in, HasNumberIn}
use Rattle.ghc_trace.specs.inner.OtherClausesCode.{OneRestsOn}
use Rattle.ghc_trace.proofs.OtherClauses.{no_without, yes_where, has_place, its_place}
use Rattle.ghc_trace.proofs.others.accepts_without.Goals as goal

pub returns-in_default : goal.returns-in_default
returns-in_default c =
    let w = c.args.core.now.world in
    let none = rw c.store.ensures at (rw c.in_default.is at c.in_ok-read.ensures) in
    let stands = c.stands.ensures in (
      λ h. absurd (let clash : false ≡ true = h in cc),
      λ a. absurd (no_without w stands.standing stands.replay c.args.step.now c.requires c.args.clause.now c.args.arguments.now none a),
    )

pub unwrap-place-requires : goal.unwrap-place-requires
unwrap-place-requires c =
    let records = c.records-records.result.now in
    has_place records.held c.place_of.result c.number.result c.place_of.ensures.none c.args.step.now (subst (In c.args.step.now) (sym c.records-records.ensures) c.requires) (sym c.number.ensures)

pub returns : goal.returns
returns c =
    let w = c.args.core.now.world in
    let r = c.args.step.now in
    let stands = c.stands.ensures in
    let records = c.records-records.result.now in
    let ss = records.slots in
    let held = c.len-count.ensures.slots in
    let kept : records.held ≡ w.kept = c.records-records.ensures in
    let distinct : AreDistinct (numbers (held_in ss)) = subst (λ l. AreDistinct (numbers l)) held c.len-count.ensures.distinct in
    let place = c.unwrap-place.result in
    let found = rw c.unwrap-place.ensures at c.place_of.ensures.found in
    let at = its_place ss distinct r (subst (In r) (sym kept ∙ held) c.requires) place (subst (HasNumberIn ss place) c.number.ensures found) in
    let rests = c.in_ok-rests.rests in
    let xs = c.members.result.now in
    let told = subst (λ l. IsTrue rests ↔ OneRestsOn l r xs) kept (c.in_ok-rests.ensures r at) in
    let read = rw c.store.ensures at (rw c.in-Some.is at c.in_ok-read.ensures) in
    yes_where w stands.standing stands.replay r c.requires c.args.clause.now c.args.arguments.now read.0 c.in-Some.read xs c.members.ensures.all read.1 rests told
