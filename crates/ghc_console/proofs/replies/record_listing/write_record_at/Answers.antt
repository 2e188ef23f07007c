use Rattle.ghc_console.proofs.CitedWords.{◌≡◌, ap, sym, ◌∙◌, inl, inr, [], Appends-nil, no_line, None, Some, option_copied}
use Rattle.ghc_console.proofs.replies.record_listing.write_record_at.Goals as goal

pub returns-in_default-clause-told : goal.returns-in_default-clause-told
returns-in_default-clause-told g c = inr ((λ r stands. let clash : None ≡ Some r = ap option_copied (sym c.in_default.is) ∙ (c.at.ensures r).1 stands in cc), ([], no_line, Appends-nil _))

pub returns-clause-told : goal.returns-clause-told
returns-clause-told g c =
    let r = c.in-Some.taken.now in
    inl (r, (c.at.ensures r).0 (ap option_copied c.in-Some.is), c.write_record.ensures.told)
