use Rattle.ghc_console.proofs.CitedWords.{◌≡◌, ap, sym, ◌∙◌, inl, inr, string_bytes, refl, Some, None}
use Rattle.std.specs.Option.{option_copied}
use Rattle.ghc_console.proofs.RecordLines.{one_line}
use Rattle.ghc_console.proofs.replies.line.Goals as goal

pub returns-in_default : goal.returns-in_default
returns-in_default c = inr ((λ r stands. let clash : None ≡ Some r = ap option_copied (sym c.in_default.is) ∙ (c.at.ensures r).1 stands in cc), refl)

pub returns : goal.returns
returns c =
    let r = c.in-Some.record.now in
    inl (r, (c.at.ensures r).0 (ap option_copied c.in-Some.is), one_line r (string_bytes c.args.reply.now) (string_bytes c.push_record.new.out) (string_bytes c.push_str.new.self) c.in_ok-push_record.ensures c.in_ok-push_str.ensures.bytes)
