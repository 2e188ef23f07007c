use Rattle.ghc_depend.proofs.Words.{sym, subst, arith, In, numbers, held_in, rank, rank_stands, IsFirstMissing}
use Rattle.ghc_depend.proofs.OrderWalks.{slots_next, have_ranked, is_missing, all_slots, none_missing}
use Rattle.ghc_depend.proofs.places.first_missing.Goals as goal

pub returns-in-Some-clause-missing : goal.returns-in-Some-clause-missing
returns-in-Some-clause-missing c =
    let ss = c.args.records.now.slots in
    let keys = c.args.places.now.keys in
    let m = c.in-Some.ensures.missing in
    let first = is_missing (held_in ss) keys (rank ss c.loop-slot.slot) m.0 (rank_stands ss c.loop-slot.slot m.0 m.1) (have_ranked ss keys c.loop-slot.slot c.loop-slot.invariant) (λ i. m.3 (subst (λ n. In n keys) m.2 i)) in
    (m.0, subst (λ l. IsFirstMissing l keys m.0) (sym c.len-count.ensures.slots) first, m.2)

pub loop-slot-preserved : goal.loop-slot-preserved
loop-slot-preserved c = slots_next c.args.records.now.slots c.args.places.now.keys c.loop-slot.slot c.loop-slot.invariant c.in_default.ensures.none

pub returns-clause-all : goal.returns-clause-all
returns-clause-all c =
    let ss = c.args.records.now.slots in
    let keys = c.args.places.now.keys in
    subst (λ l. (n : _) → In n (numbers l) → In n keys) (sym c.len-count.ensures.slots)
    (none_missing (held_in ss) keys (all_slots ss keys c.loop-slot.slot (omega (arith, c.loop-slot-test.false, c.places-slot-end.ensures)) c.loop-slot.invariant))
