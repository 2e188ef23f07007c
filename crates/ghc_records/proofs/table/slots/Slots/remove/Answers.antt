use Rattle.ghc_records.proofs.Words.{◌≡◌, sym, subst, Picks, held_in}
use Rattle.ghc_records.proofs.SlotClosing.{others_left, taken_held}
use Rattle.ghc_records.proofs.table.slots.Slots.remove.Goals as goal

pub returns-then-len-self-clause-found : goal.returns-then-len-self-clause-found
returns-then-len-self-clause-found c = taken_held c.args.self.now.held c.args.number c.take_out-removed.result c.take_out-removed.ensures.taken

pub returns-then-len-self-clause-rest : goal.returns-then-len-self-clause-rest
returns-then-len-self-clause-rest c r i e =
    subst (λ l. Picks (λ s. ¬ (s ≡ r)) (held_in c.args.self.now.held) l) (sym c.close_up.ensures)
    (others_left c.args.self.now.held c.take_out-removed.new.self.held c.args.number c.len-count.ensures.distinct c.take_out-removed.ensures.gap r i e)

pub returns-else-len-self-clause-found : goal.returns-else-len-self-clause-found
returns-else-len-self-clause-found c = taken_held c.args.self.now.held c.args.number c.take_out-removed.result c.take_out-removed.ensures.taken

pub returns-else-len-self-clause-rest : goal.returns-else-len-self-clause-rest
returns-else-len-self-clause-rest c r i e = others_left c.args.self.now.held c.take_out-removed.new.self.held c.args.number c.len-count.ensures.distinct c.take_out-removed.ensures.gap r i e
