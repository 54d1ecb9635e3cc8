use denote.RattleType.{RattleType}
use denote.Param.Send.{IsSend, Frees}
use Rattle.core.specs.declared.alloc.Allocator.{Ghosts}
use Rattle.ken_frame.proofs.Crosses.{Own-send}
use Rattle.ken_frame.specs.contracts.raw.Own.{the_row}

pub send : (T A : RattleType) (g : Ghosts A.Denot) → IsSend T → IsSend A → Frees g g.dealloc_token → IsSend (the_row T A g)
send = Own-send
