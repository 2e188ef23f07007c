-- Two effects with one code are one.
use Rattle.std.specs.Prelude.{ℕ, List, refl}
use Rattle.std.specs.Coded.{Coded, code_by, coded×, coded_list, coded_ℕ}
use Rattle.std.specs.FinSet as set
use Rattle.ghc_term.specs.Sets.{Variables}
use Rattle.ghc_term.specs.inner.Code.{name_code}
use Rattle.ghc_term.specs.Store.{StoreValue, store_code}
use Rattle.ghc_term.specs.Goal.{Goal}
use Rattle.ghc_term.specs.inner.GoalCode.{goal_code}
use Rattle.ghc_fire.specs.Effect.{Effect}

-- the code of what a step reads, binds and makes, which no other effect has
abbrev pub effect_code : Coded Effect
effect_code =
    code_by (Variables × (StoreValue × (List Goal × ℕ)))
    (coded× (set.code name_code) (coded× store_code (coded× (coded_list goal_code) coded_ℕ)))
    (λ e. (e.reads, (e.binds, (e.makes, e.fresh))))
    (λ p. record { reads = p.0; binds = p.1.0; makes = p.1.1.0; fresh = p.1.1.1 })
    (λ _. refl)
