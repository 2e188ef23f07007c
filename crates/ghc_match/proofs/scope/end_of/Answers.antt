use Rattle.ghc_match.proofs.Words.{[], ◌∷◌, sym, value_at, at_free}
use Rattle.ghc_match.proofs.EndsLemmas.{through, stood}
use Rattle.ghc_match.proofs.scope.end_of.Goals as goal

pub returns-in-Some : goal.returns-in-Some
returns-in-Some c = rw c.in-Goal.is (through (value_at c.args.store.now.held) c.args.x _ _ (sym c.in-Some.ensures) c.end_of_term.ensures)

pub returns-in-None : goal.returns-in-None
returns-in-None c = rw c.in-Goal.is (c.args.x ∷ [], at_free (sym c.in-None.ensures))

pub returns-in-Some-get : goal.returns-in-Some-get
returns-in-Some-get c =
    rw c.in-Head.is
    (stood c.in-Head.stands.now (value_at c.args.store.now.held) c.args.x c.in-Some-get.term.now c.end_of_term-in-Some-get.result (sym c.in-Some-get.ensures) c.end_of_term-in-Some-get.ensures)
