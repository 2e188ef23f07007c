use Rattle.ghc_core.proofs.Words.{◌≡◌, ◌∙◌, ap, refl, subst, sym, loaded_opening, RecordsTables, AreLeft, World, Core, Arrangement, Reorders as reorders, CanChange, Changes, by_change}
use Rattle.ghc_core.proofs.Arranged.{all_left}
use Rattle.ghc_core.proofs.Preparing.{same_world}
use Rattle.ghc_core.proofs.core_state.Core.put_in_order.Goals as goal

-- the world before the change, what it takes, and the world that is left
abbrev before : goal.After-put → World
before c = record { opening = loaded_opening c.self.inside.program.value c.self.inside.query.goals c.self.inside.query.variables c.self.inside.loaded; state = c.self.inside.state.held; kept = c.self.inside.records.held; shelf = c.self.inside.shelf.held; next = c.self.inside.next; journal = c.self.inside.journal.held }

abbrev taken : goal.After-put → Arrangement
taken c = record { records = c.into_inner.result.held; order = c.arrangement.inside.order.value.items }

abbrev left : goal.After-put → World
left c = record { opening = loaded_opening c.self.inside.program.value c.self.inside.query.goals c.self.inside.query.variables c.self.inside.loaded; state = c.self.inside.state.held; kept = c.into_inner.result.held; shelf = c.self.inside.shelf.held; next = c.self.inside.next; journal = c.put.new.self.held }

is_taken : (c : goal.After-put) → taken c ≡ c.args.arrangement
is_taken c = ap (λ (x : RecordsTables). record { records = x.held; order = c.arrangement.inside.order.value.items }) c.into_inner.ensures ∙ c.arrangement.view_is

can : (c : goal.After-put) → CanChange (before c) (reorders (taken c))
can c = subst (λ (a : Arrangement). CanChange (before c) (reorders a)) (sym (is_taken c)) (subst (λ (x : Core). CanChange x.world (reorders c.args.arrangement)) (sym c.self.view_is) c.requires.found)

-- the change took the one to the other
changed : (c : goal.After-put) → Changes (before c) (reorders (taken c)) (left c)
changed c = same_world (loaded_opening c.self.inside.program.value c.self.inside.query.goals c.self.inside.query.variables c.self.inside.loaded) c.self.inside.next refl refl refl c.put.ensures.held

pub invariant_of-self : goal.invariant_of-self
invariant_of-self c = record { standing = by_change (reorders (taken c)) c.self.invariant.standing (can c) (changed c); exact = c.self.invariant.exact; streams = c.self.invariant.streams }

pub returns-clause-left : goal.returns-clause-left
returns-clause-left c = subst (λ (x : Core). AreLeft c.self.inside.state.held.goals (λ v. ⊥) x.notes c.self.inside.tries.notes) c.self.view_is (all_left c.self.invariant.exact)
