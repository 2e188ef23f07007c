use denote.RattleType.{RattleType}
use denote.Param.Send.{IsSend}
use Rattle.ghc_shared.proofs.ExclusiveCrosses.{outer_send}
use Rattle.ghc_shared.specs.contracts.exclusive.Exclusive.{the_row}

pub send : (T : RattleType) → IsSend T → IsSend (the_row T)
send = outer_send
