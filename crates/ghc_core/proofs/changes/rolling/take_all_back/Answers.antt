use Rattle.ghc_core.proofs.Words.{[], ◌∷◌, ◌++◌, length, sym, ap, ◌∙◌, refl, subst, inl, arith, append_assoc, In, in_left, in_right, told_back}
use Rattle.std.proofs.Common.{length-append}
use Rattle.std.specs.FinMap as finite
use Rattle.ghc_core.proofs.RolledBack.{none_again}
use Rattle.ghc_core.proofs.changes.rolling.take_all_back.Goals as goal

pub take_one_back-requires-clause-new : goal.take_one_back-requires-clause-new
take_one_back-requires-clause-new c g used =
    let r = c.in-Some.removal in
    let here : In r c.loop-removal.removals.items = subst (In r) (sym c.in-Some.ensures.items) (in_right c.pop.new.self.items (r ∷ []) r (inl refl)) in
    let there : In r c.args.removals.items = subst (In r) (sym c.loop-removal.invariant.split) (in_left c.loop-removal.removals.items c.loop-removal.invariant.back r here) in
    none_again c.loop-removal.invariant.back c.args.tries.now c.loop-removal.tries c.loop-removal.invariant.tries g (c.requires.new r there g used)

pub loop-removal-preserved : goal.loop-removal-preserved
loop-removal-preserved c =
    let before = c.loop-removal.invariant in
    let r = c.in-Some.removal in
    let long = ap length c.in-Some.ensures.items ∙ length-append c.pop.new.self.items (r ∷ []) in
    record {
      back = r ∷ before.back;
      split = before.split ∙ ap (λ l. l ++ before.back) c.in-Some.ensures.items ∙ append_assoc c.pop.new.self.items (r ∷ []) before.back;
      state = (c.loop-removal.state.held, before.state, c.take_one_back.ensures.state);
      tries = (c.loop-removal.tries, before.tries, c.take_one_back.ensures.tries);
      shelf = c.take_one_back.ensures.shelf ∙ ap (λ s. finite.insert s r.number r) before.shelf;
      streams = c.take_one_back.ensures.streams ∙ ap (told_back r) before.streams;
      of_goals = omega (arith, long, before.of_goals, c.take_one_back.ensures.room_of_goals);
      of_tries = omega (arith, long, before.of_tries, c.take_one_back.ensures.room_of_tries);
      of_shelf = omega (arith, long, before.of_shelf, c.take_one_back.ensures.room_of_shelf);
    }
