use Rattle.ghc_records.proofs.Words.{◌≡◌, ◌≤◌, ◌+◌, [], ◌∷◌, ◌++◌, arith, sym, ap, ◌∙◌, subst, length, length-append, Some, List, Record, SlotList, held_in, held_before, RecordsTables, IsIndexOf, BoundOnce}
use Rattle.ghc_records.proofs.SlotLemmas.{held_last}
use Rattle.ghc_records.proofs.SlotFronts.{front_kept, apart_more}
use Rattle.ghc_records.proofs.records.Records.put.Goals as goal

pub put-requires-clause-new : goal.put-requires-clause-new
put-requires-clause-new c = rw (← c.self.view_is) at c.requires.new

pub invariant_of-self : goal.invariant_of-self
invariant_of-self c =
    let inside = c.self.inside in
    let ss = inside.slots.held in
    let r = c.args.step in
    let more : length (ss ++ Some r ∷ []) ≡ length ss + 1 = length-append ss (Some r ∷ []) in
    subst (λ (l : SlotList). (inside.indexed ≤ length l) × IsIndexOf (held_before inside.indexed l) inside.index.users inside.index.binders.held × BoundOnce (held_in l)) (sym c.put.ensures) (
      omega (arith, more, c.self.invariant.0),
      subst (λ (l : List Record). IsIndexOf l inside.index.users inside.index.binders.held) (sym (front_kept ss inside.indexed r c.self.invariant.0)) c.self.invariant.1,
      subst BoundOnce (sym (held_last ss r)) (apart_more (held_in ss) r c.self.invariant.2 (rw (← c.self.view_is) at c.requires.unbound)),
    )

pub returns : goal.returns
returns c = ap held_in c.put.ensures ∙ held_last c.self.inside.slots.held c.args.step ∙ ap (λ (t : RecordsTables). t.held ++ c.args.step ∷ []) c.self.view_is
