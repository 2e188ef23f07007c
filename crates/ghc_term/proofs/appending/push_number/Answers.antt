use Rattle.ghc_term.proofs.Words.{◌++◌, sym, ap, ◌∙◌, string_bytes, is_ok, if◌then◌else◌, decimal_digit}
use Rattle.ghc_term.proofs.appending.push_number.Goals as goal

pub returns-then-number-lt10 : goal.returns-then-number-lt10
returns-then-number-lt10 c =
    let old = string_bytes c.args.out.now in
    c.push_mark.ensures ∙ ap (λ digits. if is_ok c.push_mark.result then old ++ digits else old) (sym (decimal_digit c.args.number c.if-number-lt10.true))
