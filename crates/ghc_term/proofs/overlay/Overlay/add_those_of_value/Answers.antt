use Rattle.ghc_term.proofs.Words.{on_ok_weaker, value_in}
use Rattle.ghc_term.proofs.Gathered.{as_told}
use Rattle.ghc_term.proofs.Far.{value_told}
use Rattle.ghc_term.proofs.overlay.Overlay.add_those_of_value.Goals as goal

pub returns-in-Some : goal.returns-in-Some
returns-in-Some c =
    on_ok_weaker c.add_variables.result
    (λ g. as_told c.args.seen.now c.add_variables.new.into (value_told (value_in c.args.self.now c.args.x) c.in-Some.value.now c.in-Some.ensures) g) c.add_variables.ensures
