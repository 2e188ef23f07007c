-- A kept step that nothing depends on is taken away.
use Rattle.ghc_core.proofs.Words.{◌≡◌, List, [], ◌∷◌, ◌++◌, refl, subst, State, Record, Shelf, IsTakenBack, Entry, undid, picks_once, IsWithout, IsSplitAt, is_without, without_once, World, IsReplay, Goes as goes, Going, CanChange, Changes, IsStanding}
use Rattle.std.specs.FinMap as finite
use Rattle.ghc_depend.proofs.Undoing as undoing
use Rattle.ghc_core.proofs.Alone.{others_left, none_follow}
use Rattle.ghc_core.proofs.Preparing.{same_world}
use Rattle.ghc_core.proofs.Reaching.{reached_good}
use Rattle.ghc_core.proofs.Standing.{standing_replay}

-- A kept step that nothing depends on was taken back from the state and out of the record, and put on the shelf and into the journal: it was taken away.
pub taken_away : (w : World) → IsStanding w → (r : Record) (left : List Record) (t : State) (shelf : Shelf) (es : List Entry) → CanChange w (goes Going.Alone (record { first = r; others = [] }))
    → IsWithout w.kept r left → IsTakenBack r w.state t → shelf ≡ finite.insert w.shelf r.number r → es ≡ w.journal ++ undid r.number ∷ []
    → Changes w (goes Going.Alone (record { first = r; others = [] })) (record w { state = t; kept = left; shelf = shelf; journal = es })
taken_away w s r left t shelf es can without back put told =
    let good = reached_good s in
    let replay = standing_replay w s in
    let some = can.1.0 in
    let kept : some ≡ left = picks_once w.kept some left (others_left w.kept r some can.1.1) without in
    let split : IsSplitAt w.kept r (r ∷ []) left = subst (IsSplitAt w.kept r (r ∷ [])) kept can.1.1 in
    let u = undoing.undone w.opening.program w.opening.query w.kept w.state r good.accepted good.asked replay can.0 (none_follow w.kept r some can.1.1 good.kept_once) in
    let lefts : u.0 ≡ left = picks_once w.kept u.0 left u.2 without in
    let states : u.1 ≡ t = without_once (r ∷ []) w.state u.1 t u.4 (is_without w.opening.program w.opening.query w.kept w.state t r replay can.0 back) in
    (left, split, (t, subst (λ z. IsReplay w left z) states (subst (λ z. IsReplay w z u.1) lefts u.3), same_world w.opening w.next refl refl put told))
