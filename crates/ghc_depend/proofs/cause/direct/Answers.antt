use Rattle.ghc_depend.proofs.Words.{◌≡◌, true, false, sym, ap, ◌∙◌, arith, some_of}
use Rattle.std.specs.Prelude.{option_copied}
use Rattle.ghc_depend.proofs.Causes.{none_earlier, none_later, not_behind, is_made, is_read, is_named, is_none}
use Rattle.ghc_depend.proofs.cause.direct.Goals as goal

pub returns-in_err-place : goal.returns-in_err-place
returns-in_err-place c = rw c.from_residual.ensures (none_earlier c.args.records.now.held c.args.later c.args.earlier c.in_err-place.ensures.none)

pub returns-in_err-behind : goal.returns-in_err-behind
returns-in_err-behind c = rw c.from_residual-in_err-behind.ensures (none_later c.args.records.now.held c.args.later c.args.earlier c.in_err-behind.ensures.none)

pub returns-then-behind-place : goal.returns-then-behind-place
returns-then-behind-place c = not_behind c.args.records.now.held c.args.records.now.slots c.len-count.ensures.slots c.args.later c.args.earlier c.in_ok-place.place c.in_ok-behind.behind c.in_ok-place.ensures.found c.in_ok-behind.ensures.found c.len-count.ensures.distinct (omega arith)

pub unwrap-maker-requires : goal.unwrap-maker-requires
unwrap-maker-requires c = let f = c.in_ok-place.ensures.found in some_of c.at.result f.0 ((c.at.ensures f.0).1 f.1)

pub unwrap-taken-requires : goal.unwrap-taken-requires
unwrap-taken-requires c = let f = c.in_ok-behind.ensures.found in some_of c.at-2.result f.0 ((c.at-2.ensures f.0).1 f.1)

pub returns-then-consumes : goal.returns-then-consumes
returns-then-consumes c =
    let maker = c.unwrap-maker.result.now in
    let taken = c.unwrap-taken.result.now in
    let first = (c.at.ensures maker).0 (ap option_copied c.unwrap-maker.ensures) in
    let second = (c.at-2.ensures taken).0 (ap option_copied c.unwrap-taken.ensures) in
    is_made c.args.records.now.held c.args.records.now.slots c.len-count.ensures.slots c.args.later c.args.earlier c.in_ok-place.place c.in_ok-behind.behind c.in_ok-place.ensures.found c.in_ok-behind.ensures.found
    taken maker first second (omega arith) (c.consumes.ensures.0 c.if-consumes.true)

pub returns-in_err-variable : goal.returns-in_err-variable
returns-in_err-variable c =
    let maker = c.unwrap-maker.result.now in
    let taken = c.unwrap-taken.result.now in
    let first = (c.at.ensures maker).0 (ap option_copied c.unwrap-maker.ensures) in
    let second = (c.at-2.ensures taken).0 (ap option_copied c.unwrap-taken.ensures) in
    rw c.from_residual-in_err-variable.ensures (
    is_none c.args.records.now.held c.args.records.now.slots c.len-count.ensures.slots c.args.later c.args.earlier c.in_ok-place.place c.in_ok-behind.behind c.in_ok-place.ensures.found c.in_ok-behind.ensures.found
    taken maker first second c.len-count.ensures.distinct (λ m. let clash : true ≡ false = sym (c.consumes.ensures.1 m) ∙ c.if-consumes.false in cc) c.in_default.ensures.none c.in_err-variable.ensures.none)

pub returns-in-Some : goal.returns-in-Some
returns-in-Some c =
    let maker = c.unwrap-maker.result.now in
    let taken = c.unwrap-taken.result.now in
    let first = (c.at.ensures maker).0 (ap option_copied c.unwrap-maker.ensures) in
    let second = (c.at-2.ensures taken).0 (ap option_copied c.unwrap-taken.ensures) in
    is_read c.args.records.now.held c.args.records.now.slots c.len-count.ensures.slots c.args.later c.args.earlier c.in_ok-place.place c.in_ok-behind.behind c.in_ok-place.ensures.found c.in_ok-behind.ensures.found
    taken maker first second c.in-Some.variable c.is_woken_by-woke.result (omega arith) (λ m. let clash : true ≡ false = sym (c.consumes.ensures.1 m) ∙ c.if-consumes.false in cc) c.in-Some.ensures.some (c.is_woken_by-woke.ensures maker first)

pub returns : goal.returns
returns c =
    let maker = c.unwrap-maker.result.now in
    let taken = c.unwrap-taken.result.now in
    let first = (c.at.ensures maker).0 (ap option_copied c.unwrap-maker.ensures) in
    let second = (c.at-2.ensures taken).0 (ap option_copied c.unwrap-taken.ensures) in
    is_named c.args.records.now.held c.args.records.now.slots c.len-count.ensures.slots c.args.later c.args.earlier c.in_ok-place.place c.in_ok-behind.behind c.in_ok-place.ensures.found c.in_ok-behind.ensures.found
    taken maker first second c.in_ok-variable.variable (omega arith) (λ m. let clash : true ≡ false = sym (c.consumes.ensures.1 m) ∙ c.if-consumes.false in cc) c.in_default.ensures.none c.in_ok-variable.ensures.some
