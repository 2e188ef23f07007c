-- Steps that were taken out of the record can be taken again at its end.
use Rattle.ghc_depend.proofs.Words.{List, ◌++◌, sym, subst, inl, inr, In, IsAcyclic, value_at, in_left, in_right, in_either, Program, Query, AreDistinct, State, Record, numbers, Replays, Before, is_before, records_distinct, replay_well, DependsOn, directly, IsClosedUnder, IsPartedBy, GoneComeBack, arith}
use Rattle.ghc_depend.proofs.Comparing.{same_state}
use Rattle.ghc_depend.proofs.Finding.{ends}
use Rattle.ghc_depend.proofs.Deleting.{of_gone, of_left, apart, parted}
use Rattle.ghc_depend.proofs.Picking.{stands_in_front, before_left, before_right, before_across, picks_in, picks_keep, picks_distinct, distinct_both}
use Rattle.ghc_depend.proofs.Placing.{results_of, numbered_once}
use Rattle.ghc_depend.proofs.Working.{StandBehind, works}

module _ (P : Program) (query : Query) (rs : List Record) (t : State) (replay : Replays P query rs t) (D : Record → Type 0) (gone left : List Record) (parts : IsPartedBy rs D gone left) where
  among : (r : Record) → In r (left ++ gone) → In r rs
  among r i = elim (in_either left gone r i) [
    | inl j ↦ of_left P query rs t replay D gone left parts r j
    | inr j ↦ of_gone P query rs t replay D gone left parts r j
  ]

  all : (r : Record) → In r rs → In r (left ++ gone)
  all r i = elim (parted P query rs t replay D gone left parts r i) [ inl j ↦ in_right left gone r j | inr j ↦ in_left left gone r j ]

  pub both_distinct : AreDistinct (numbers (left ++ gone))
  both_distinct = distinct_both left gone (picks_distinct rs left parts.1 replay.0.1) (picks_distinct rs gone parts.0 replay.0.1) (λ x y i j e.
      let same = numbered_once P query rs t replay x y (among x (in_left left gone x i)) (among y (in_right left gone y j)) e in
      apart P query rs t replay D gone left parts x (subst (λ z. In z gone) same j) i)

  module _ (shut : IsClosedUnder rs D) where
    order : (r a : Record) → DependsOn rs r a → Before (left ++ gone) a r
    order r a d =
        let k = ends rs r a d in
        let before = is_before rs a r d.0 in
        let distinct = records_distinct rs replay.0.1 in
        let closed : D a → D r = λ da. shut a r da (directly d) in
        let of_r = parted P query rs t replay D gone left parts r k.1 in
        let of_a = parted P query rs t replay D gone left parts a k.0 in
        let both_gone = picks_keep rs gone a r distinct parts.0 in
        let both_left = picks_keep rs left a r distinct parts.1 in
        let across = before_across left gone a r in
        grind (arith, picks_in rs gone a parts.0, picks_in rs left r parts.1, before_right left gone a r, before_left left gone a r)

    behind : StandBehind rs (left ++ gone)
    behind front back r a e d = stands_in_front (left ++ gone) front back r a (records_distinct (left ++ gone) both_distinct) e (order r a d)

    -- after the rest they replay to the old state
    pub come_back : IsAcyclic (value_at t.store) → Replays P query (left ++ gone) t
    come_back acyclic =
        let w = works P query rs t replay acyclic (left ++ gone) among both_distinct behind in
        subst (Replays P query (left ++ gone)) (sym (same_state query rs (left ++ gone) t w.0 (results_of P query rs t replay) w.2 all among)) w.1

pub gone_come_back : GoneComeBack
gone_come_back P query kept t gone left accepted asked replay parts shut =
    come_back P query kept t replay (λ r. In r gone) gone left parts shut (replay_well P query kept t accepted asked replay).acyclic
