use Rattle.ghc_trace.proofs.WrittenIn.{holds, of_closed, of_variable, of_written}
use Rattle.ghc_trace.proofs.written_in.has_one_of.Goals as goal

pub returns-in-Var : goal.returns-in-Var
returns-in-Var c =
    of_variable c.args.xs.now c.in-Var.x c.args.term.now c.contains.result c.in-Var.ensures.shown c.contains.ensures

pub returns-then-is_closed : goal.returns-then-is_closed
returns-then-is_closed c = of_closed c.args.xs.now c.args.term.now (holds c.is_closed.result c.if-is_closed.true c.is_closed.ensures)

pub returns : goal.returns
returns c = of_written c.args.xs.now c.args.term.now c.in_ok-written.written c.do_meet.result c.in_ok-written.ensures c.do_meet.ensures
