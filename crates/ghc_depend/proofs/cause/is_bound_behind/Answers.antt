use Rattle.ghc_depend.proofs.Words.{◌≡◌, true, false, ltb-true, lt-ltb, rank, rank_less, less_rank, ranked, ranked_at}
use Rattle.ghc_depend.proofs.Causes.{not_bound, binder_kept, bound_behind, place_behind}
use Rattle.ghc_depend.proofs.cause.is_bound_behind.Goals as goal

pub returns-in_default : goal.returns-in_default
returns-in_default c a there = (
  λ h. absurd (let clash : false ≡ true = h in cc),
  λ t. absurd (not_bound c.args.records.now.held c.len-count.ensures.distinct c.args.x c.binder_of.result c.binder_of.ensures a c.in_default.is t),
)

pub returns-in-Some-place_of : goal.returns-in-Some-place_of
returns-in-Some-place_of c a there =
    let rs = c.args.records.now.held in
    let ss = c.args.records.now.slots in
    let is = c.len-count.ensures.slots in
    let place = c.args.place in
    let behind = c.in-Some-place_of.behind in
    let found = c.in-Some-place_of.ensures.found in
    let here = ranked_at rs ss is place a there in
    let stands = ranked rs ss is behind c.in-Some.binder found in (
      λ h. bound_behind rs c.len-count.ensures.distinct c.args.x c.binder_of.result c.binder_of.ensures a c.in-Some.binder c.in-Some.is (rank ss place) (rank ss behind) here stands
          (rank_less ss place behind a there (ltb-true place behind h)),
      λ t. lt-ltb place behind (less_rank ss place behind found.0 found.1
          (place_behind rs c.len-count.ensures.distinct c.args.x c.binder_of.result c.binder_of.ensures a c.in-Some.binder c.in-Some.is (rank ss place) (rank ss behind) here stands t)),
    )

pub returns-in-None : goal.returns-in-None
returns-in-None c = absurd (binder_kept c.args.records.now.held c.len-count.ensures.distinct c.args.x c.binder_of.result c.binder_of.ensures c.in-Some.binder c.in-Some.is c.in-None.ensures.none)
