use Rattle.mc_paths.specs.Masks.{IsEvaluated, IsOn}
use Rattle.mc_paths.proofs.Setting.{AreSetBelow}
use Rattle.mc_paths.proofs.masks.masks_of.Given as goal

abbrev pub invariant-loop-k : goal.invariant-loop-k
invariant-loop-k l = record {
  evaluated : AreSetBelow (IsEvaluated l.vector) l.evaluated l.k;
  value : AreSetBelow (IsOn l.vector) l.value l.k;
}
