use Rattle.ghc_console.proofs.CitedWords.{◌≡◌, ◌++◌, map, drop, string_bytes, codes, decimal, led, numbers_text}
use denote.Text.{Utf8}
use denote.Shadow.{shadow}
use Rattle.ghc_console.proofs.replies.obey_reply.write_numbers.Given as goal

abbrev pub invariant-loop-number : goal.invariant-loop-number
invariant-loop-number l =
    shadow (Utf8 l.mark)
    × (string_bytes l.out ++ led (codes ",") l.mark (map decimal (drop l.number-index l.numbers)) ≡ string_bytes l.fn.out ++ numbers_text l.numbers)
