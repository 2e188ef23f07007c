use Rattle.ghc_term.proofs.Words.{◌≡◌, ℕ, ◌<◌, ◌-◌, ◌^◌, List, ◌++◌, ◌∙◌, ap, subst, sym, drop, take, length, arith, take_all, length-drop, append-nil, IsAscii-decimal, IsUtf8-from_ascii, drop-length, decimal, IsAscii, IsUtf8}
use Rattle.ghc_term.proofs.appending.push_by_way_of.Goals as goal

digits_alone : (number : ℕ) (place rest : List ℕ) → rest ≡ decimal number ++ drop (length place) place → rest ≡ decimal number
digits_alone number place rest written = written ∙ ap (λ more. decimal number ++ more) (drop-length place) ∙ append-nil _

digits_are_text : (number : ℕ) (bytes : List ℕ) → bytes ≡ decimal number → number < 2 ^ 64 → IsUtf8 bytes
digits_are_text number bytes is small = IsUtf8-from_ascii _ (subst IsAscii (sym is) (IsAscii-decimal number small))

pub from_utf8_unchecked-requires : goal.from_utf8_unchecked-requires
from_utf8_unchecked-requires c =
    let w = c.write_digits-start in
    let is = ap (λ n. drop n w.new.buf) (sym c.if-start-eq0.true) ∙ digits_alone c.args.number c.args.place.now _ w.ensures.written in
    digits_are_text c.args.number _ is (omega (arith, c.ranges.number.fits))

pub from_utf8_unchecked-requires-2 : goal.from_utf8_unchecked-requires-2
from_utf8_unchecked-requires-2 c =
    let w = c.write_digits-start in
    let is : take (length w.new.buf - w.result) (drop w.result w.new.buf) ≡ decimal c.args.number =
    take_all _ _ (omega (arith, length-drop w.result w.new.buf)) ∙ digits_alone c.args.number c.args.place.now _ w.ensures.written in
    digits_are_text c.args.number _ is (omega (arith, c.ranges.number.fits))
