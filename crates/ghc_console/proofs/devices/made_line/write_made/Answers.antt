use Rattle.ghc_console.proofs.CitedWords.{◌≡◌, ◌∙◌, OnOk, inl, inr, string_bytes, subst}
use Rattle.ghc_console.proofs.RunLines.{one_told}
use Rattle.ghc_console.proofs.devices.made_line.write_made.Goals as goal

pub returns-in-Ok-clause-told : goal.returns-in-Ok-clause-told
returns-in-Ok-clause-told g c bytes told =
    let is : string_bytes c.args.line.now ≡ bytes = subst (λ r. OnOk r (string_bytes c.args.line.now ≡ bytes)) c.in-Ok.is told in
    (c.as_bytes.result.now, one_told bytes c.as_bytes.result.now (inl (c.as_bytes.ensures.value ∙ is)), c.write_all.ensures.bytes)

pub returns-in-Err-clause-told : goal.returns-in-Err-clause-told
returns-in-Err-clause-told g c bytes told = (c.as_bytes-in-Err.result.now, one_told bytes c.as_bytes-in-Err.result.now (inr c.as_bytes-in-Err.ensures.value), c.write_all-in-Err.ensures.bytes)
