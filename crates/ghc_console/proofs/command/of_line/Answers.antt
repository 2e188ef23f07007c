use Rattle.std.proofs.Common.{◌∙◌, ap, bytes_eq, sym}
use Rattle.ghc_console.proofs.Answering.{blame_read}
use Rattle.ghc_console.proofs.LineMemory.{order_read}
use Rattle.ghc_console.proofs.command.of_line.Goals as goal

pub returns-then-eq-clause-memory : goal.returns-then-eq-clause-memory
returns-then-eq-clause-memory c =
    let name = c.in-Some.name.now in
    let is = ap (bytes_eq name) (sym c.as_slice.ensures) ∙ sym c.eq.ensures ∙ c.if-eq.true in
    order_read c.args.line.now name _ c.arrange_command.result c.requires c.in-Some.ensures.found is c.arrange_command.ensures.memory

pub returns-then-eq-3-clause-memory : goal.returns-then-eq-3-clause-memory
returns-then-eq-3-clause-memory c =
    let name = c.in-Some.name.now in
    let is = ap (bytes_eq name) (sym c.as_slice-3.ensures) ∙ sym c.eq-3.ensures ∙ c.if-eq-3.true in
    blame_read c.args.line.now name _ c.blame_command.result c.requires c.in-Some.ensures.found is c.blame_command.ensures.memory
