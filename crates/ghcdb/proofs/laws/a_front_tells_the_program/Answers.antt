use Rattle.ghcdb.proofs.FrontTells.{front_tells}
use Rattle.ghcdb.proofs.laws.a_front_tells_the_program.Goals as goal

pub returns : goal.returns
returns c = front_tells
