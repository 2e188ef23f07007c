use Rattle.ghc_term.proofs.Words.{◌≡◌, true, false, sym, ap, ◌∙◌, arith, codes, bytes_eq, bytes_eq-Decides, nat_tests}
use Rattle.ghc_term.proofs.Texts.{two_arguments}
use Rattle.ghc_term.proofs.printing.pieces.cell_of.Goals as goal
use Rattle.ghc_term.proofs.printing.pieces.cell_of.Goals.{in_default-via-then-arguments-lt2, in_default-via-in-len2+else-eq, in_default-via-else-arguments-lt2+else-arguments-lt3}

pub returns-in_default : goal.returns-in_default
returns-in_default c t u e =
    let two = two_arguments c.args.name.now c.args.arguments.now t u e in
    elim c.in_default.branch [
      | in_default-via-then-arguments-lt2 w ↦ absurd (grind (arith, nat_tests, two))
      | in_default-via-in-len2+else-eq w ↦
          let dot : bytes_eq c.args.name.now (codes ".") ≡ true = (bytes_eq-Decides c.args.name.now (codes ".")).1 (cc) in
          let tested : w.eq.result ≡ bytes_eq c.args.name.now (codes ".") = w.eq.ensures ∙ ap (λ n. bytes_eq n (codes ".")) w.as_str.ensures.bytes in
          let clash : true ≡ false = sym dot ∙ sym tested ∙ w.if-eq.false in
          cc
      | in_default-via-else-arguments-lt2+else-arguments-lt3 w ↦ absurd (grind (arith, nat_tests, two))
    ]
