use base.Stored.{Gv}
use Rattle.std.specs.Prelude.{◌≡◌, Bool, Option, Some, None, IfSome}
use Rattle.ghc_pool.proofs.Words.{refl, ap, ◌∙◌, World, GoalName, Scope, Spies, code_of}
use Rattle.ghc_core.specs.Excerpt.{Excerpt, GivesExcerpt}
use Rattle.ghc_pool.specs.inner.Plans.{IsPlain, IsExcerptOf}
use Rattle.ghc_pool.proofs.deciding.DecidingCraftPassCore.excerpt.Goals as goal

-- an excerpt that a world gives of a plain goal is one of the world's opening
of_opening : (opened : Gv) (scope : Scope) (spies : Spies) (steps : Bool) (g : GoalName) (w : World) (found : Option Excerpt) → IsPlain scope spies steps g → code_of w.opening ≡ opened → GivesExcerpt w g found → IfSome found (IsExcerptOf opened scope spies steps g)
of_opening opened scope spies steps g w None plain is given = tt
of_opening opened scope spies steps g w (Some e) plain is given = (plain, ap (λ v. code_of v.opening) given.0 ∙ is, given.1)

pub returns-in-Ok : goal.returns-in-Ok
returns-in-Ok g c =
    let here = c.args.self.now in
    let given = c.in-Ok.ensures in
    let plain : IsPlain here.scope.now here.spies.now here.steps c.args.name = (c.if-not-self.false, c.if-not-is_plain.ensures.inside refl, c.if-not-is_plain.ensures.unspied refl) in
    of_opening g.N.Naming.opened here.scope.now here.spies.now here.steps c.args.name given.0 c.in-Ok.found plain given.1 given.3
