use Rattle.std.proofs.Common.{◌∙◌, ap, arith}
use Rattle.std.specs.FinMap as finite
use Rattle.ghc_hooks.proofs.Changing.{fit_added}
use Rattle.ghc_hooks.proofs.tries.Tries.add_goal.Goals as goal

pub invariant_of-self : goal.invariant_of-self
invariant_of-self c =
    let t = c.self.inside in
    let room = ap (λ v. v.room) c.self.view_is in (
      fit_added t.notes.held t.untried c.put.new.self t.looks c.self.invariant.0 c.args.goal (ap (λ v. finite.get v.notes c.args.goal) c.self.view_is ∙ c.requires.new) c.put.ensures.held c.put.ensures.room
          (let some = c.requires.room in omega (arith, room, some)),
      c.self.invariant.1,
    )
