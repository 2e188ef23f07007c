use Rattle.ghc_hooks.proofs.Words.{ap, ◌∙◌, option_map, outcome_of}
use Rattle.std.specs.FinMap as finite
use Rattle.ghc_hooks.proofs.Pairs.{outcome_found}
use Rattle.ghc_hooks.proofs.FoundFace.{tells_some, tells_none}
use Rattle.ghc_hooks.proofs.face.outcomes.Outcomes.get.Goals as goal

pub returns-clause-some : goal.returns-clause-some
returns-clause-some c = tells_some c.get.result _ (ap (option_map outcome_of) c.get.ensures.value ∙ outcome_found c.self.inside.map.entries (c.args.goal, c.args.clause) ∙ ap (λ m. finite.get m (c.args.goal, c.args.clause)) c.self.view_is)

pub returns-clause-none : goal.returns-clause-none
returns-clause-none c = tells_none c.get.result _ (ap (option_map outcome_of) c.get.ensures.value ∙ outcome_found c.self.inside.map.entries (c.args.goal, c.args.clause) ∙ ap (λ m. finite.get m (c.args.goal, c.args.clause)) c.self.view_is)
