use Rattle.ghc_records.proofs.Words.{◌∙◌, sym, ap, subst, inl, inr, List, Result, Ok, Err, OnErr, variables_asked, Record, held_before, Table, BindersByVariable, IsIndexOf, Gave, MadeOneOf, step_named}
use Rattle.ghc_records.proofs.IndexOf.{index_put, index_same, room_given, room_made, put_again}
use Rattle.ghc_records.proofs.SlotLemmas.{stands_held}
use Rattle.ghc_records.proofs.SlotFronts.{front_held, front_more, front_new}
use Rattle.ghc_records.proofs.table.use_index.UseIndex.add.Goals as goal

on_err : {X E P : Type 0} (r : Result X E) → P → OnErr r P
on_err (Ok v) p = tt
on_err (Err e) p = p

pub returns-in_err-reserve-clause-err : goal.returns-in_err-reserve-clause-err
returns-in_err-reserve-clause-err c = on_err c.from_residual.result (index_same c.requires.index c.reserve.ensures.users c.reserve.ensures.binders)

pub returns-in_err-reserve_named-clause-err : goal.returns-in_err-reserve_named-clause-err
returns-in_err-reserve_named-clause-err c = on_err c.from_residual-in_err-reserve_named.result (
    index_same c.requires.index (λ m. c.reserve_named.ensures.users m ∙ c.reserve.ensures.users m) (ap (λ (b : Table BindersByVariable). b.held) c.reserve_named.ensures.binders ∙ c.reserve.ensures.binders))

pub put-requires-clause-taking : goal.put-requires-clause-taking
put-requires-clause-taking c m g =
    let ss = c.args.slots.now.held in
    let rs = held_before c.args.place ss in
    let r = c.args.step.now in
    let old = c.args.self.now in
    let now = c.reserve_named.new.self in
    let is = index_same c.requires.index (λ m. c.reserve_named.ensures.users m ∙ c.reserve.ensures.users m) (ap (λ (b : Table BindersByVariable). b.held) c.reserve_named.ensures.binders ∙ c.reserve.ensures.binders) in
    let room = room_made rs old.users old.binders.held c.requires.index r c.step_of_name-named.result (c.step_of_name-named.ensures ∙ ap step_named c.goal.ensures) c.reserve.new.self.users now.users c.in_ok-reserve.ensures.taking c.reserve_named.ensures.kept c.in_ok-reserve_named.ensures.room in
    room_given rs now.users now.binders.held is r c.maker_for-maker.result c.maker_for-maker.ensures (front_new ss c.args.place r c.len-count.ensures.distinct c.requires.there) room m (inl g)

pub put_named-requires : goal.put_named-requires
put_named-requires c m g =
    let ss = c.args.slots.now.held in
    let rs = held_before c.args.place ss in
    let r = c.args.step.now in
    let old = c.args.self.now in
    let now = c.reserve_named.new.self in
    let is = index_same c.requires.index (λ m. c.reserve_named.ensures.users m ∙ c.reserve.ensures.users m) (ap (λ (b : Table BindersByVariable). b.held) c.reserve_named.ensures.binders ∙ c.reserve.ensures.binders) in
    let room = room_made rs old.users old.binders.held c.requires.index r c.step_of_name-named.result (c.step_of_name-named.ensures ∙ ap step_named c.goal.ensures) c.reserve.new.self.users now.users c.in_ok-reserve.ensures.taking c.reserve_named.ensures.kept c.in_ok-reserve_named.ensures.room in
    c.put.ensures.room m (room_given rs now.users now.binders.held is r c.maker_for-maker.result c.maker_for-maker.ensures (front_new ss c.args.place r c.len-count.ensures.distinct c.requires.there) room m (inr g))

pub returns-clause-ok : goal.returns-clause-ok
returns-clause-ok c =
    let ss = c.args.slots.now.held in
    let place = c.args.place in
    let rs = held_before place ss in
    let r = c.args.step.now in
    let now = c.reserve_named.new.self in
    let new = c.put_named.new.self in
    let maker = c.maker_for-maker.result in
    let is = index_same c.requires.index (λ m. c.reserve_named.ensures.users m ∙ c.reserve.ensures.users m) (ap (λ (b : Table BindersByVariable). b.held) c.reserve_named.ensures.binders ∙ c.reserve.ensures.binders) in
    let fresh = front_new ss place r c.len-count.ensures.distinct c.requires.there in
    let both = put_again now.users c.put.new.self.users new.users (Gave now.binders.held maker r.effect.reads) (MadeOneOf rs (variables_asked r.act)) r.number c.put.ensures.users c.put_named.ensures.users in
    subst (λ (l : List Record). IsIndexOf l new.users new.binders.held) (sym (front_more ss place r c.requires.there))
    (index_put rs now.users now.binders.held is r maker c.maker_for-maker.ensures fresh new.users new.binders.held both (rw c.put_named.ensures.binders c.put.ensures.binders)
    (λ a x i p q. fresh a i (c.requires.bound_once a r x (front_held ss place a i) (stands_held ss place r c.requires.there) p q)))
