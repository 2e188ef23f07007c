use Rattle.ghc_records.proofs.Words.{◌≡◌, ◌+◌, ◌++◌, map, drop, string_bytes, codes, StartsWith, goal_name_text, names_given, makes_text}
use denote.Text.{Utf8}
use denote.Shadow.{shadow}
use Rattle.ghc_records.proofs.Listing.{led}
use Rattle.ghc_records.proofs.text.step_text.write_makes.Given as goal

abbrev pub invariant-loop-index : goal.invariant-loop-index
invariant-loop-index l =
    shadow (Utf8 l.mark)
    × (string_bytes l.out ++ led (codes ",") l.mark (map goal_name_text (names_given l.number (l.index + 1) (drop l.index l.effect.makes)))
    ≡ string_bytes l.fn.out ++ makes_text l.number l.effect.makes)
    × StartsWith (string_bytes l.out) (string_bytes l.fn.out)
