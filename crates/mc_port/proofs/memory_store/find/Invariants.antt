use Rattle.std.proofs.Common.{◌≡◌, length}
use Rattle.mc_port.specs.MemoryStore.{kept_files}
use Rattle.mc_port.specs.Store.{file_of}
use Rattle.mc_port.proofs.memory_store.find.Given as goal

abbrev pub invariant-loop-left : goal.invariant-loop-left
invariant-loop-left l = file_of (kept_files l.left) l.name ≡ file_of (kept_files l.fn.files) l.name

abbrev pub decreases-loop-left : goal.decreases-loop-left
decreases-loop-left l = length l.left
