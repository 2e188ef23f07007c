use Rattle.ghc_console.proofs.CitedWords.{inl, inr, subst, TellsListing, listed_or_none, steps_told}
use Rattle.ghc_console.proofs.replies.shelf_listing.write_shelf.Goals as goal

pub returns-in-Ok-clause-told : goal.returns-in-Ok-clause-told
returns-in-Ok-clause-told g c =
    let wrote = c.write_ordered.ensures.told in
    (wrote.0, inl (subst (λ es. TellsListing (listed_or_none (steps_told es)) wrote.0) c.in-Ok.ensures wrote.1), wrote.2)

pub returns-in-Err-clause-told : goal.returns-in-Err-clause-told
returns-in-Err-clause-told g c = (c.as_bytes.result.now, inr c.as_bytes.ensures.value, c.write_all.ensures.bytes)
