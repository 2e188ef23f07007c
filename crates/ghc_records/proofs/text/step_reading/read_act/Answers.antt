use Rattle.ghc_records.proofs.Words.{◌≡◌, ◌≢◌, ◌++◌, ℕ, List, Option, Some, None, IfNone, codes, none_weaker, Act, SaysAct}
use Rattle.ghc_records.proofs.Saying.{in_only, none_only}
use Rattle.ghc_records.proofs.text.step_reading.read_act.Goals as goal

no_plain : (bytes by_front in_front : List ℕ) (r : Option Act) → by_front ≡ codes "by " → in_front ≡ codes "in " → ((rest : List ℕ) → bytes ≢ by_front ++ rest) → ((rest : List ℕ) → bytes ≢ in_front ++ rest)
    → IfNone r ((bytes ≢ codes "eq") × (bytes ≢ codes "is") × (bytes ≢ codes "end")) → IfNone r ((act : Act) → ¬ SaysAct bytes act)
no_plain bytes by_front in_front None at here no_by no_in others = none_only bytes by_front in_front at here no_by no_in others
no_plain bytes by_front in_front (Some act) at here no_by no_in others = tt

pub returns-in-Some-behind-clause-none : goal.returns-in-Some-behind-clause-none
returns-in-Some-behind-clause-none c =
    none_weaker c.read_input.result (in_only c.args.bytes.now c.as_slice-2.result.now c.in-Some-behind.text.now c.as_slice-2.ensures c.in-Some-behind.ensures.some) c.read_input.ensures.none

pub returns-clause-none : goal.returns-clause-none
returns-clause-none c =
    no_plain c.args.bytes.now c.as_slice.result.now c.as_slice-2.result.now c.read_plain_act.result c.as_slice.ensures c.as_slice-2.ensures c.in_default.ensures.none c.in_default-behind.ensures.none c.read_plain_act.ensures.none
