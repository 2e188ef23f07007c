use Rattle.ghc_shared.proofs.Words.{length, sym, ap, ◌∙◌, opening_log}
use Rattle.ghc_shared.proofs.Moves.{begins_at}
use Rattle.ghc_shared.proofs.Extended.{length-opening_log}
use Rattle.ghc_shared.proofs.opening.Opening.new.Goals as goal

pub of_words-requires : goal.of_words-requires
of_words-requires g c =
    let history = g.C.Growing.history c.of-about.result.value in
    let log = opening_log history in
    let is = length-opening_log history ∙ ap (λ v. length (g.C.Growing.history v)) c.of-about.ensures ∙ sym c.len.ensures.length in
    begins_at (Unit {0}) log c.len.result is
