use Rattle.ghc_pool.proofs.Words.{◌≡◌, vec_len}
use Rattle.ghc_pool.specs.inner.Turns.{AreApart, names_in}
use Rattle.ghc_pool.proofs.rounds.hand.make_attempts.Given as goal

abbrev pub invariant-loop-index : goal.invariant-loop-index
invariant-loop-index g l =
    AreApart (g.C.Craft.excerpts l.craft) (g.C.Craft.attempts l.craft) l.hand.items × (names_in l.hand.items ≡ names_in l.initial.hand.items) × (vec_len l.hand ≡ vec_len l.initial.hand)
