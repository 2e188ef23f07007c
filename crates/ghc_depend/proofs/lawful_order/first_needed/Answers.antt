use Rattle.ghc_depend.proofs.Words.{sym, ap, ◌∙◌, subst, arith, Some, rank, rank_less, ranked, ranked_at, some_of, StandsBehind, IsInTime}
use Rattle.std.specs.Prelude.{option_copied}
use Rattle.ghc_depend.proofs.Causes.{kept_at}
use Rattle.ghc_depend.proofs.InTime.{NoneNeeded, not_kept_in_time, none_needed_more, none_ranked, first_step, no_step}
use Rattle.ghc_depend.proofs.lawful_order.first_needed.Goals as goal

pub returns-in_err-end-clause-none : goal.returns-in_err-end-clause-none
returns-in_err-end-clause-none c = rw c.from_residual.ensures (not_kept_in_time c.args.records.now.held c.args.places.now.keys c.args.number c.in_err-end.ensures.none)

pub unwrap-later-requires : goal.unwrap-later-requires
unwrap-later-requires c = let f = c.in_ok-end.ensures.found in some_of c.at.result f.0 ((c.at.ensures f.0).1 f.1)

pub loop-slot-preserved : goal.loop-slot-preserved
loop-slot-preserved c = none_needed_more c.args.records.now.slots c.args.places.now.keys c.args.place c.unwrap-later.result.now c.loop-slot.slot c.loop-slot.invariant c.in_default.ensures.none

pub returns-in-Some-clause-found : goal.returns-in-Some-clause-found
returns-in-Some-clause-found c =
    let kept = c.args.records.now.held in
    let ss = c.args.records.now.slots in
    let is = c.len-count.ensures.slots in
    let keys = c.args.places.now.keys in
    let b = c.unwrap-later.result.now in
    let stands = (c.at.ensures b).0 (ap option_copied c.unwrap-later.ensures) in
    let there = ranked_at kept ss is c.in_ok-end.end b stands in
    let number = (kept_at kept (rank ss c.in_ok-end.end) c.args.number b (ranked kept ss is c.in_ok-end.end c.args.number c.in_ok-end.ensures.found) there).1 in
    let f = c.in-Some.ensures.found in
    let a = f.0 in
    let none = subst (λ l. NoneNeeded l keys c.args.place b (rank ss c.loop-slot.slot)) (sym is) (none_ranked ss keys c.args.place b c.loop-slot.slot c.loop-slot.invariant) in (
      a,
      b,
      f.2,
      number,
      first_step kept c.len-count.ensures.distinct keys c.requires.distinct c.args.place b (c.requires.there ∙ ap Some (sym number)) (rank ss c.in_ok-end.end) (rank ss c.loop-slot.slot) a there (ranked_at kept ss is c.loop-slot.slot a f.1)
          (rank_less ss c.loop-slot.slot c.in_ok-end.end a f.1 c.loop-slot-test.true) (subst (StandsBehind keys c.args.place) (sym f.2) f.3) f.4 none,
    )

pub returns-clause-none : goal.returns-clause-none
returns-clause-none c =
    let kept = c.args.records.now.held in
    let ss = c.args.records.now.slots in
    let is = c.len-count.ensures.slots in
    let keys = c.args.places.now.keys in
    let end_place = c.in_ok-end.end in
    let b = c.unwrap-later.result.now in
    let there = ranked_at kept ss is end_place b ((c.at.ensures b).0 (ap option_copied c.unwrap-later.ensures)) in
    let number = (kept_at kept (rank ss end_place) c.args.number b (ranked kept ss is end_place c.args.number c.in_ok-end.ensures.found) there).1 in
    let none = subst (λ l. NoneNeeded l keys c.args.place b (rank ss end_place)) (sym is) (none_ranked ss keys c.args.place b end_place (λ k d low. c.loop-slot.invariant k d (omega (arith, low, c.loop-slot-test.false)))) in
    subst (IsInTime kept keys) number (no_step kept c.len-count.ensures.distinct keys c.requires.distinct c.args.place b (c.requires.there ∙ ap Some (sym number)) (rank ss end_place) there none)
