-- A step without consequences can be taken away, and each step with its consequences.
use Rattle.ghc_depend.proofs.Words.{◌≡◌, [], ◌∷◌, replay_well, GoesWith, UndoKeepsReplay, RollKeepsReplay}
use Rattle.ghc_depend.proofs.Following.{alone, alone_closed, split, split_closed}
use Rattle.ghc_depend.proofs.Deleting.{replays}

pub undone : UndoKeepsReplay
undone P query kept t r accepted asked replay i none =
    let p = alone kept replay.0.1 r i in
    let u = replays P query kept t replay (λ s. s ≡ r) (r ∷ []) p.0 p.1 (replay_well P query kept t accepted asked replay).acyclic (alone_closed kept replay.0.1 r none) in
    (p.0, u.0, p.1.1, u.1, u.2)

pub rolled : RollKeepsReplay
rolled P query kept t r accepted asked replay i =
    let p = split kept replay.0.1 r i in
    let u = replays P query kept t replay (GoesWith kept r) p.0 p.1 p.2 (replay_well P query kept t accepted asked replay).acyclic (split_closed kept replay.0.1 r i) in
    (p.0, p.1, u.0, p.2, u.1, u.2)
