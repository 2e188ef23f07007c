use Rattle.ghc_depend.proofs.Words.{◌≡◌, true, false, refl, sym, ap, ◌∙◌, ltb-true, lt-ltb, rank, rank_less, less_rank, ranked, ranked_at, some_of}
use Rattle.std.specs.Prelude.{option_copied}
use Rattle.ghc_depend.proofs.Causes.{kept_at, before_none, before_other, was_there, place_there}
use Rattle.ghc_depend.proofs.cause.was_there_before.Goals as goal

pub returns-in_default-place_of : goal.returns-in_default-place_of
returns-in_default-place_of c a there = (
  λ _. before_none c.args.records.now.held c.len-count.ensures.distinct c.args.later.now c.in-Some.name (sym c.goal.ensures ∙ c.in-Some.is) c.in_default-place_of.ensures.none a,
  λ _. refl,
)

pub unwrap-requires : goal.unwrap-requires
unwrap-requires c = let f = c.in-Some-place_of.ensures.found in some_of c.at.result f.0 ((c.at.ensures f.0).1 f.1)

pub returns-then-not-makes_goal : goal.returns-then-not-makes_goal
returns-then-not-makes_goal c a there =
    let rs = c.args.records.now.held in
    let ss = c.args.records.now.slots in
    let made = c.in-Some-place_of.made in
    let maker = c.unwrap.result.now in
    let at = ranked_at rs ss c.len-count.ensures.slots made maker ((c.at.ensures maker).0 (ap option_copied c.unwrap.ensures)) in (
      λ _. before_other rs c.len-count.ensures.distinct c.args.later.now c.in-Some.name (sym c.goal.ensures ∙ c.in-Some.is) maker (rank ss made) at
          (kept_at rs (rank ss made) c.in-Some.name.step maker (ranked rs ss c.len-count.ensures.slots made c.in-Some.name.step c.in-Some-place_of.ensures.found) at).1
          (λ m. let clash : true ≡ false = sym (c.makes_goal.ensures.1 m) ∙ c.if-not-makes_goal.true in cc) a,
      λ _. refl,
    )

pub returns : goal.returns
returns c a there =
    let rs = c.args.records.now.held in
    let ss = c.args.records.now.slots in
    let is = c.len-count.ensures.slots in
    let b = c.args.later.now in
    let name = c.in-Some.name in
    let made = c.in-Some-place_of.made in
    let distinct = c.len-count.ensures.distinct in
    let e = sym c.goal.ensures ∙ c.in-Some.is in
    let maker = c.unwrap.result.now in
    let stands = (c.at.ensures maker).0 (ap option_copied c.unwrap.ensures) in
    let at = ranked_at rs ss is made maker stands in
    let number = (kept_at rs (rank ss made) name.step maker (ranked rs ss is made name.step c.in-Some-place_of.ensures.found) at).1 in
    let makes = c.makes_goal.ensures.0 c.if-not-makes_goal.false in
    let here = ranked_at rs ss is c.args.place a there in (
      λ h. was_there rs distinct b name e maker (rank ss made) at number makes a (rank ss c.args.place) here (rank_less ss made c.args.place maker stands (ltb-true made c.args.place h)),
      λ w. lt-ltb made c.args.place (less_rank ss made c.args.place a there (place_there rs distinct b name e maker (rank ss made) at number makes a (rank ss c.args.place) here w)),
    )
