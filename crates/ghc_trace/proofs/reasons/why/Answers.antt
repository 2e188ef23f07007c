use Rattle.ghc_trace.proofs.Words.{◌≡◌, ℕ, [], ◌∷◌, ◌++◌, length, map, refl, sym, ap, ◌∙◌, subst, inl, inr, arith, In, IsDirect, AreDistinct, numbers, held_in, rank, rank_stands, some_of, record_once, all_behind, behind_ranked, AreReasonsTold}
use Rattle.std.specs.Option.{option_copied}
use Rattle.ghc_trace.proofs.Reasoning.{search, stands_ahead, still_kept, up_to, behind_it, none_ahead, gathered, passed, finished}
use Rattle.ghc_trace.proofs.Slicing.{nothing_left}
use Rattle.ghc_trace.specs.Causes.{HasInFront}
use Rattle.ghc_depend.proofs.Sourcing.{kept_as}
use Rattle.ghc_depend.specs.inner.Sources.{AreSources}
use Rattle.ghc_records.specs.Uses.{Uses}
use Rattle.ghc_trace.proofs.reasons.why.Goals as goal

pub returns-in_default-clause-fault : goal.returns-in_default-clause-fault
returns-in_default-clause-fault c = inr (refl, c.in_default.ensures.none)

pub unwrap-kept-requires : goal.unwrap-kept-requires
unwrap-kept-requires c = let f = c.in-Some.ensures.found in some_of c.at.result f.0 ((c.at.ensures f.0).1 f.1)

pub returns-in_err-sources-clause-not_kept : goal.returns-in_err-sources-clause-not_kept
returns-in_err-sources-clause-not_kept c none = absurd (still_kept c.args.records.now.held c.args.records.now.slots c.len-count.ensures.slots c.in-Some.place c.args.number c.in-Some.ensures.found none)

pub add_causes-requires : goal.add_causes-requires
add_causes-requires c = (c.at.ensures c.unwrap-kept.result.now).0 (ap option_copied c.unwrap-kept.ensures)

pub returns-in_err-add_causes-clause-not_kept : goal.returns-in_err-add_causes-clause-not_kept
returns-in_err-add_causes-clause-not_kept c none = absurd (still_kept c.args.records.now.held c.args.records.now.slots c.len-count.ensures.slots c.in-Some.place c.args.number c.in-Some.ensures.found none)

pub loop-earlier-init : goal.loop-earlier-init
loop-earlier-init c =
    let ss = c.args.records.now.slots in
    let distinct = subst (λ l. AreDistinct (numbers l)) c.len-count.ensures.slots c.len-count.ensures.distinct in
    let b = c.unwrap-kept.result.now in
    let at = (c.at.ensures b).0 (ap option_copied c.unwrap-kept.ensures) in
    let ahead = c.add_causes.new.places.keys in
    let causes = subst (λ old. HasInFront ss c.in-Some.place (Uses b) old ahead) c.new-ahead.ensures.empty c.in_ok-add_causes.ensures in
    (b, kept_as (held_in ss) ss refl c.in-Some.place c.args.number c.in-Some.ensures.found b at, search ss distinct c.in-Some.place b at ahead c.new-reasons.result.items causes c.new-reasons.ensures.items, stands_ahead ss c.in-Some.place (Uses b) ahead causes)

pub direct_by_sources-requires : goal.direct_by_sources-requires
direct_by_sources-requires c b own =
    let ss = c.args.records.now.slots in
    let is = c.len-count.ensures.slots in
    let kept = c.unwrap-kept.result.now in
    let at = (c.at.ensures kept).0 (ap option_copied c.unwrap-kept.ensures) in
    let there = kept_as c.args.records.now.held ss is c.in-Some.place c.args.number c.in-Some.ensures.found kept at in
    let same : kept ≡ b = record_once c.args.records.now.held kept b c.len-count.ensures.distinct there.0 own.0 (there.1 ∙ sym own.1) in
    subst (λ z. AreSources ss z c.in_ok-sources.sources) same c.in_ok-sources.ensures

pub unwrap-requires : goal.unwrap-requires
unwrap-requires c =
    let place = c.in-Some-pop_first.earlier in
    let a = c.loop-earlier.invariant.3 place (subst (In place) (sym c.in-Some-pop_first.ensures.removal) (inl refl)) in
    some_of c.at-in-Some-pop_first.result a.0 ((c.at-in-Some-pop_first.ensures a.0).1 a.1)

pub loop-earlier-preserved-in-Ok : goal.loop-earlier-preserved-in-Ok
loop-earlier-preserved-in-Ok c =
    let ss = c.args.records.now.slots in
    let is = c.len-count.ensures.slots in
    let kept = held_in ss in
    let distinct = subst (λ l. AreDistinct (numbers l)) is c.len-count.ensures.distinct in
    let n = c.args.number in
    let inv = c.loop-earlier.invariant in
    let place = c.in-Some-pop_first.earlier in
    let rest = c.pop_first.new.self.keys in
    let ahead = map (rank ss) c.loop-earlier.ahead.keys in
    let items = c.loop-earlier.reasons.items in
    let a = c.unwrap.result.now in
    let stands = (c.at-in-Some-pop_first.ensures a).0 (ap option_copied c.unwrap.ensures) in
    let at = rank_stands ss place a stands in
    let direct = subst (λ l. IsDirect l n a.number c.direct_by_sources.result) is (subst (λ m. IsDirect c.args.records.now.held n m c.direct_by_sources.result) c.number-step.ensures c.direct_by_sources.ensures) in
    let removal = ap (λ l. map (rank ss) l) c.in-Some-pop_first.ensures.removal in
    let behind = behind_ranked ss place a stands rest (all_behind place rest c.in-Some-pop_first.ensures.all_above) in
    let before = up_to kept inv.0 ahead items inv.2 (rank ss place) (map (rank ss) rest) removal behind in
    let others = λ (p : ℕ) (i : In p rest). inv.3 p (subst (In p) (sym c.in-Some-pop_first.ensures.removal) (inr i)) in
    let told : c.push.new.self.items ≡ items ++ record { step = a.number; cause = c.in-Some-direct_by_sources.cause } ∷ [] =
    c.in-Ok.ensures.items ∙ ap (λ m. items ++ record { step = m; cause = c.in-Some-direct_by_sources.cause } ∷ []) c.number-step.ensures in (
      inv.0,
      inv.1,
      behind_it kept inv.0 ahead items inv.2 (rank ss place) (map (rank ss) rest) c.push.new.self.items removal behind
          (gathered kept distinct n inv.0 inv.1 (rank ss place) items before a at c.in-Some-direct_by_sources.cause c.push.new.self.items (subst (IsDirect kept n a.number) c.in-Some-direct_by_sources.is direct) told),
      others,
    )

pub returns-in-Err-clause-not_kept : goal.returns-in-Err-clause-not_kept
returns-in-Err-clause-not_kept c none = absurd (still_kept c.args.records.now.held c.args.records.now.slots c.len-count.ensures.slots c.in-Some.place c.args.number c.in-Some.ensures.found none)

pub loop-earlier-preserved : goal.loop-earlier-preserved
loop-earlier-preserved c =
    let ss = c.args.records.now.slots in
    let is = c.len-count.ensures.slots in
    let kept = held_in ss in
    let distinct = subst (λ l. AreDistinct (numbers l)) is c.len-count.ensures.distinct in
    let n = c.args.number in
    let inv = c.loop-earlier.invariant in
    let place = c.in-Some-pop_first.earlier in
    let rest = c.pop_first.new.self.keys in
    let ahead = map (rank ss) c.loop-earlier.ahead.keys in
    let items = c.loop-earlier.reasons.items in
    let a = c.unwrap.result.now in
    let stands = (c.at-in-Some-pop_first.ensures a).0 (ap option_copied c.unwrap.ensures) in
    let at = rank_stands ss place a stands in
    let direct = subst (λ l. IsDirect l n a.number c.direct_by_sources.result) is (subst (λ m. IsDirect c.args.records.now.held n m c.direct_by_sources.result) c.number-step.ensures c.direct_by_sources.ensures) in
    let removal = ap (λ l. map (rank ss) l) c.in-Some-pop_first.ensures.removal in
    let behind = behind_ranked ss place a stands rest (all_behind place rest c.in-Some-pop_first.ensures.all_above) in
    let before = up_to kept inv.0 ahead items inv.2 (rank ss place) (map (rank ss) rest) removal behind in
    let others = λ (p : ℕ) (i : In p rest). inv.3 p (subst (In p) (sym c.in-Some-pop_first.ensures.removal) (inr i)) in (
      inv.0,
      inv.1,
      behind_it kept inv.0 ahead items inv.2 (rank ss place) (map (rank ss) rest) items removal behind
          (passed kept distinct n inv.0 inv.1 (rank ss place) items before a at (subst (IsDirect kept n a.number) c.in_default-direct_by_sources.is direct)),
      others,
    )

pub returns-clause-found : goal.returns-clause-found
returns-clause-found c =
    let ss = c.args.records.now.slots in
    let is = c.len-count.ensures.slots in
    let kept = held_in ss in
    let distinct = subst (λ l. AreDistinct (numbers l)) is c.len-count.ensures.distinct in
    let inv = c.loop-earlier.invariant in
    let items = c.loop-earlier.reasons.items in
    let ahead = map (rank ss) c.loop-earlier.ahead.keys in
    let none = ap (λ l. map (rank ss) l) (nothing_left c.loop-earlier.ahead.keys c.in_default-pop_first.ensures.variant.1) in
    subst (λ l. AreReasonsTold l c.args.number items) (sym is)
    (finished kept distinct c.args.number inv.0 inv.1 (length kept) items (none_ahead kept inv.0 ahead items inv.2 none) (omega arith))

pub returns-clause-not_kept : goal.returns-clause-not_kept
returns-clause-not_kept c none = absurd (still_kept c.args.records.now.held c.args.records.now.slots c.len-count.ensures.slots c.in-Some.place c.args.number c.in-Some.ensures.found none)
