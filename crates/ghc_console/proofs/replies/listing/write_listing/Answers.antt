use Rattle.ghc_console.proofs.CitedWords.{inl, inr, subst, sym, IsListing}
use Rattle.ghc_console.proofs.replies.listing.write_listing.Goals as goal

pub returns-in-Records-clause-told : goal.returns-in-Records-clause-told
returns-in-Records-clause-told g c =
    let wrote = c.write_records.ensures.told in
    (wrote.0, subst (λ l. IsListing c.args.core.now.world c.args.spies.now l wrote.0) (sym c.in-Records.is) (rw c.records.ensures at wrote.1), wrote.2)

pub returns-in-Goals-clause-told : goal.returns-in-Goals-clause-told
returns-in-Goals-clause-told g c =
    let wrote = c.write_goals.ensures.told in
    (wrote.0, subst (λ l. IsListing c.args.core.now.world c.args.spies.now l wrote.0) (sym c.in-Goals.is) wrote.1, wrote.2)

pub returns-in-Shelf-clause-told : goal.returns-in-Shelf-clause-told
returns-in-Shelf-clause-told g c =
    let wrote = c.write_shelf.ensures.told in
    (wrote.0, subst (λ l. IsListing c.args.core.now.world c.args.spies.now l wrote.0) (sym c.in-Shelf.is) (rw c.shelf.ensures at wrote.1), wrote.2)

pub returns-in-Ok-clause-told : goal.returns-in-Ok-clause-told
returns-in-Ok-clause-told g c =
    let wrote = c.write_session.ensures.told in
    (wrote.0, subst (λ l. IsListing c.args.core.now.world c.args.spies.now l wrote.0) (sym c.in-Session.is) (inl (rw (c.as_slice.ensures.value, c.in-Ok.ensures) at wrote.1)), wrote.2)

pub returns-in-Err-clause-told : goal.returns-in-Err-clause-told
returns-in-Err-clause-told g c =
    (c.as_bytes.result.now, subst (λ l. IsListing c.args.core.now.world c.args.spies.now l c.as_bytes.result.now) (sym c.in-Session.is) (inr c.as_bytes.ensures.value), c.write_all.ensures.bytes)

pub returns-in-KeptSteps-clause-told : goal.returns-in-KeptSteps-clause-told
returns-in-KeptSteps-clause-told g c =
    let wrote = c.write_kept.ensures.told in
    (wrote.0, subst (λ l. IsListing c.args.core.now.world c.args.spies.now l wrote.0) (sym c.in-KeptSteps.is) wrote.1, wrote.2)
