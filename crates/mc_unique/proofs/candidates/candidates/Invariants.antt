use Rattle.std.proofs.Common.{true, false}
use Rattle.std.specs.Prelude.{IfSome}
use Rattle.mc_cond.specs.Tree.{tree_of}
use Rattle.mc_paths.specs.Paths.{IsInUse}
use Rattle.mc_pairs.specs.Pairs.{HasInfluenceAs}
use Rattle.mc_unique.specs.steps.Prefixes.{AreAlike, IsKept}
use Rattle.mc_unique.proofs.candidates.candidates.Given as goal

abbrev pub invariant-loop-path : goal.invariant-loop-path
invariant-loop-path l = record {
  used : IfSome l.first (IsInUse (tree_of l.numbering));
  kept : IsKept (HasInfluenceAs (tree_of l.numbering) l.k true) (HasInfluenceAs (tree_of l.numbering) l.k false) (AreAlike (tree_of l.numbering) l.k) l.seen l.path-index l.first;
}
