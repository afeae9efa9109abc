use denote.RattleType.{RattleType}
use denote.Param.Send.{IsSend}
use Rattle.entry_pool.proofs.Threads.{block_send}
use Rattle.entry_pool.specs.contracts.block.Block.{the_row}

pub send : (T : RattleType) → IsSend T → IsSend (the_row T)
send = block_send
