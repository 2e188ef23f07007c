-- Two acts, or two proposals, with one code are one.
use Rattle.std.specs.Prelude.{◌≡◌, ℕ, List, [], refl, cond, nat_eq}
use Rattle.std.specs.Coded.{Coded, code_by, coded×, coded_ℕ}
use Rattle.ghc_term.specs.declared.goal_name.GoalName.{GoalName}
use Rattle.ghc_term.specs.Tree.{Tree, nil}
use Rattle.ghc_term.specs.inner.Code.{tree_code}
use Rattle.ghc_term.specs.Goal.{Goal}
use Rattle.ghc_term.specs.inner.GoalCode.{goal_code}
use Rattle.ghc_fire.specs.declared.act.Act.{Act}
use Rattle.ghc_fire.specs.declared.act.Act.TheVariants.{ByClause as by_clause, Unified as unified, Assigned as assigned, Given as given, Closed as closed, Asked as asked}
use Rattle.ghc_fire.specs.Effect.{Effect}
use Rattle.ghc_fire.specs.inner.AskedCode.{asked_code}
use Rattle.ghc_fire.specs.inner.EffectCode.{effect_code}
use Rattle.ghc_fire.specs.inner.GoalsCode.{goal_name_code}
use Rattle.ghc_fire.specs.Proposal.{Proposal}

-- what an act is made of: its kind, the number of its clause, its input, and the goals that it asks for
abbrev pub act_parts : Act → ℕ × (ℕ × (Tree × List Goal))
act_parts (by_clause k) = (0, (k, (nil, [])))
act_parts unified = (1, (0, (nil, [])))
act_parts assigned = (2, (0, (nil, [])))
act_parts (given t) = (3, (0, (t, [])))
act_parts closed = (4, (0, (nil, [])))
act_parts (asked gs) = (5, (0, (nil, gs)))

-- the act that has these parts
abbrev pub act_from : ℕ × (ℕ × (Tree × List Goal)) → Act
act_from p =
    cond (nat_eq p.0 0) (by_clause p.1.0)
    (cond (nat_eq p.0 1) unified (cond (nat_eq p.0 2) assigned (cond (nat_eq p.0 3) (given p.1.1.0) (cond (nat_eq p.0 4) closed (asked p.1.1.1)))))

-- What an act is coded as is read back as that act.
pub act_back : (a : Act) → act_from (act_parts a) ≡ a
act_back (by_clause k) = refl
act_back unified = refl
act_back assigned = refl
act_back (given t) = refl
act_back closed = refl
act_back (asked gs) = refl

-- the code of the act of a step, which no other act has
abbrev pub act_code : Coded Act
act_code = code_by (ℕ × (ℕ × (Tree × List Goal))) (coded× coded_ℕ (coded× coded_ℕ (coded× tree_code asked_code))) act_parts act_from act_back

-- the code of a proposal, which no other proposal has: its goal, its act and its effect
abbrev pub proposal_code : Coded Proposal
proposal_code =
    code_by (GoalName × (Goal × (Act × Effect)))
    (coded× goal_name_code (coded× goal_code (coded× act_code effect_code)))
    (λ p. (p.goal, (p.consumed, (p.act, p.effect))))
    (λ p. record { goal = p.0; consumed = p.1.0; act = p.1.1.0; effect = p.1.1.1 })
    (λ _. refl)
