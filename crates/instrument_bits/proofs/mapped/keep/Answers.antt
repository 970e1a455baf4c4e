use Rattle.mc_cond.specs.Tree.{tree_of}
use Rattle.mc_probe.proofs.Kept.{equal_trees}
use Rattle.instrument_bits.proofs.mapped.keep.Goals as goal

pub invariant_of-kept : goal.invariant_of-kept
invariant_of-kept c = record {
  same = (equal_trees (tree_of c.args.numbering) (tree_of c.args.decision.tree)).1 c.requires.same;
  placed = record { numbered = c.requires.ready.numbered; places = c.requires.ready.placed };
}
