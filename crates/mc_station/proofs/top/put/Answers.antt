use Rattle.mc_station.proofs.Parts.{puts_part}
use Rattle.mc_station.proofs.top.put.Goals as goal

pub returns-clause-part : goal.returns-clause-part
returns-clause-part g c = (
  puts_part _ _ _ _ _ c.put.result c.put.ensures.bytes,
  puts_part _ _ _ _ _ c.put-2.result (rw c.deref.ensures.value at c.put-2.ensures.bytes),
)
