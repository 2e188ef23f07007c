use Rattle.ghc_records.proofs.Words.{cond, ◌≡◌, ℕ, ◌↔◌, List, sym, subst, VarName, value_at, is_some, None, variables_asked, Record, held_in, Table, BindersByVariable, IsUser, Gave, MadeOneOf, step_named}
use Rattle.std.specs.FinMap as finite
use Rattle.ghc_records.proofs.IndexOf.{index_taken, taken_again}
use Rattle.ghc_records.proofs.SlotFronts.{front_all}
use Rattle.ghc_records.proofs.table.use_index.UseIndex.remove.Goals as goal

pub returns : goal.returns
returns c rs is there distinct rest =
    let r = c.args.step.now in
    let left = held_in c.args.slots.now.held in
    let old = c.args.self.now in
    let mid = c.take_out.new.self in
    let new = c.take_named.new.self in
    let named = subst (λ (l : List Record). (m n : ℕ) → IsUser new.users m n ↔ (IsUser mid.users m n × ¬ (MadeOneOf l (variables_asked r.act) m × (n ≡ r.number)))) (front_all c.args.slots.now.held c.slot_count.result c.slot_count.ensures) c.take_named.ensures.users in
    let both = taken_again old.users mid.users new.users (Gave old.binders.held (step_named r.goal) r.effect.reads) (MadeOneOf left (variables_asked r.act)) r.number r.number c.take_out.ensures.users named in
    index_taken rs left old.users old.binders.held is r there distinct rest new.users new.binders.held both
    (subst (λ (b : Table BindersByVariable). (x : VarName) → finite.get b.held x ≡ cond (is_some (value_at r.effect.binds x)) None (finite.get old.binders.held x)) (sym c.take_named.ensures.binders) c.take_out.ensures.binders)
