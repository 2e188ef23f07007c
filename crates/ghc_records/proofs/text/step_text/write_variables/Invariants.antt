use Rattle.ghc_records.proofs.Words.{◌≡◌, ◌++◌, map, string_bytes, codes, StartsWith, variable_text, variables_text}
use denote.Text.{Utf8}
use denote.Shadow.{shadow}
use Rattle.ghc_records.proofs.Listing.{led}
use Rattle.ghc_records.proofs.text.step_text.write_variables.Given as goal

abbrev pub invariant-loop-name : goal.invariant-loop-name
invariant-loop-name l =
    shadow (Utf8 l.mark) × (string_bytes l.out ++ led (codes ",") l.mark (map variable_text l.name-iterator) ≡ string_bytes l.fn.out ++ variables_text l.xs)
    × StartsWith (string_bytes l.out) (string_bytes l.fn.out)
