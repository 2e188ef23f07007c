use Rattle.ghc_depend.proofs.Words.{◌≡◌, true, false, sym, ap, ◌∙◌, arith, some_of}
use Rattle.std.specs.Prelude.{option_copied}
use Rattle.ghc_depend.proofs.Causes.{none_earlier, none_later, not_behind, is_made, is_read, is_named, is_none}
use Rattle.ghc_depend.proofs.Sourcing.{kept_as, where_none, where_some}
use Rattle.ghc_depend.proofs.cause.direct_by_sources.Goals as goal

pub returns-in_err-place : goal.returns-in_err-place
returns-in_err-place c = rw c.from_residual.ensures (none_earlier c.args.records.now.held c.args.later c.args.earlier c.in_err-place.ensures.none)

pub returns-in_err-behind : goal.returns-in_err-behind
returns-in_err-behind c = rw c.from_residual-in_err-behind.ensures (none_later c.args.records.now.held c.args.later c.args.earlier c.in_err-behind.ensures.none)

pub returns-then-behind-place : goal.returns-then-behind-place
returns-then-behind-place c = not_behind c.args.records.now.held c.args.records.now.slots c.len-count.ensures.slots c.args.later c.args.earlier c.in_ok-place.place c.in_ok-behind.behind c.in_ok-place.ensures.found c.in_ok-behind.ensures.found c.len-count.ensures.distinct (omega arith)

pub unwrap-maker-requires : goal.unwrap-maker-requires
unwrap-maker-requires c = let f = c.in_ok-place.ensures.found in some_of c.at.result f.0 ((c.at.ensures f.0).1 f.1)

pub unwrap-taken-requires : goal.unwrap-taken-requires
unwrap-taken-requires c = let f = c.in_ok-behind.ensures.found in some_of c.at-2.result f.0 ((c.at-2.ensures f.0).1 f.1)

pub returns-then-consumes : goal.returns-then-consumes
returns-then-consumes c =
    let maker = c.unwrap-maker.result.now in
    let taken = c.unwrap-taken.result.now in
    let first = (c.at.ensures maker).0 (ap option_copied c.unwrap-maker.ensures) in
    let second = (c.at-2.ensures taken).0 (ap option_copied c.unwrap-taken.ensures) in
    is_made c.args.records.now.held c.args.records.now.slots c.len-count.ensures.slots c.args.later c.args.earlier c.in_ok-place.place c.in_ok-behind.behind c.in_ok-place.ensures.found c.in_ok-behind.ensures.found
    taken maker first second (omega arith) (c.consumes.ensures.0 c.if-consumes.true)

pub woke-woke-requires : goal.woke-woke-requires
woke-woke-requires c =
    let taken = c.unwrap-taken.result.now in
    let second = (c.at-2.ensures taken).0 (ap option_copied c.unwrap-taken.ensures) in
    (c.requires taken (kept_as c.args.records.now.held c.args.records.now.slots c.len-count.ensures.slots c.in_ok-behind.behind c.args.later c.in_ok-behind.ensures.found taken second)).0

pub returns-in_err-variable : goal.returns-in_err-variable
returns-in_err-variable c =
    let rs = c.args.records.now.held in
    let ss = c.args.records.now.slots in
    let is = c.len-count.ensures.slots in
    let maker = c.unwrap-maker.result.now in
    let taken = c.unwrap-taken.result.now in
    let first = (c.at.ensures maker).0 (ap option_copied c.unwrap-maker.ensures) in
    let second = (c.at-2.ensures taken).0 (ap option_copied c.unwrap-taken.ensures) in
    let known = c.requires taken (kept_as rs ss is c.in_ok-behind.behind c.args.later c.in_ok-behind.ensures.found taken second) in
    let unread = (where_none _ _ _ (known.0.1 c.in_ok-place.place maker first) (sym c.get.ensures.value ∙ sym c.in_default.ensures)) in
    let unnamed = where_none _ _ _ (known.1.1 c.in_ok-place.place maker first) (sym c.get-2.ensures.value ∙ sym c.copied-2.ensures ∙ c.in_err-variable.was) in
    rw c.from_residual-in_err-variable.ensures (is_none rs ss is c.args.later c.args.earlier c.in_ok-place.place c.in_ok-behind.behind c.in_ok-place.ensures.found c.in_ok-behind.ensures.found taken maker first second c.len-count.ensures.distinct (λ m. let clash : true ≡ false = sym (c.consumes.ensures.1 m) ∙ c.if-consumes.false in cc) unread unnamed)

pub returns-in-Some : goal.returns-in-Some
returns-in-Some c =
    let rs = c.args.records.now.held in
    let ss = c.args.records.now.slots in
    let is = c.len-count.ensures.slots in
    let maker = c.unwrap-maker.result.now in
    let taken = c.unwrap-taken.result.now in
    let first = (c.at.ensures maker).0 (ap option_copied c.unwrap-maker.ensures) in
    let second = (c.at-2.ensures taken).0 (ap option_copied c.unwrap-taken.ensures) in
    let known = c.requires taken (kept_as rs ss is c.in_ok-behind.behind c.args.later c.in_ok-behind.ensures.found taken second) in
    let least = where_some _ _ _ c.in-Some.variable (known.0.1 c.in_ok-place.place maker first) (sym c.get.ensures.value ∙ sym c.copied.ensures ∙ c.in-Some.is) in
    is_read rs ss is c.args.later c.args.earlier c.in_ok-place.place c.in_ok-behind.behind c.in_ok-place.ensures.found c.in_ok-behind.ensures.found taken maker first second
    c.in-Some.variable c.woke-woke.result (omega arith) (λ m. let clash : true ≡ false = sym (c.consumes.ensures.1 m) ∙ c.if-consumes.false in cc) least (c.woke-woke.ensures maker first)

pub returns : goal.returns
returns c =
    let rs = c.args.records.now.held in
    let ss = c.args.records.now.slots in
    let is = c.len-count.ensures.slots in
    let maker = c.unwrap-maker.result.now in
    let taken = c.unwrap-taken.result.now in
    let first = (c.at.ensures maker).0 (ap option_copied c.unwrap-maker.ensures) in
    let second = (c.at-2.ensures taken).0 (ap option_copied c.unwrap-taken.ensures) in
    let known = c.requires taken (kept_as rs ss is c.in_ok-behind.behind c.args.later c.in_ok-behind.ensures.found taken second) in
    let unread = (where_none _ _ _ (known.0.1 c.in_ok-place.place maker first) (sym c.get.ensures.value ∙ sym c.in_default.ensures)) in
    let least = where_some _ _ _ c.in_ok-variable.variable (known.1.1 c.in_ok-place.place maker first) (sym c.get-2.ensures.value ∙ sym c.copied-2.ensures ∙ c.in_ok-variable.was) in
    is_named rs ss is c.args.later c.args.earlier c.in_ok-place.place c.in_ok-behind.behind c.in_ok-place.ensures.found c.in_ok-behind.ensures.found taken maker first second
    c.in_ok-variable.variable (omega arith) (λ m. let clash : true ≡ false = sym (c.consumes.ensures.1 m) ∙ c.if-consumes.false in cc) unread least
