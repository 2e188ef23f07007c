use Rattle.std.proofs.Common.{◌↔◌, false, drop, map}
use Rattle.std.specs.String.{string_bytes}
use Rattle.ghcdb.specs.inner.CommandLine.{AskForAuto}
use Rattle.ghcdb.proofs.command_line.ask_for_auto.Given as goal

abbrev pub invariant-loop-word : goal.invariant-loop-word
invariant-loop-word l = AskForAuto false (map string_bytes l.words) ↔ AskForAuto l.behind (map string_bytes (drop l.word-index l.words))
